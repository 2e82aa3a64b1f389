-- Numbers of two and of four bytes.
use Rattle.std.proofs.Common.{◌≡◌, ℕ, ◌+◌, ◌*◌, ◌/◌, ◌%◌, ◌<◌, [], ◌∷◌, arith}
use Rattle.planfile.specs.Format.{bytes_2, bytes_4}

pub value_2 : (n : ℕ) → n / 256 * 256 + n % 256 ≡ n
value_2 n = omega arith

pub value_4 : (n : ℕ) → n / 16777216 * 16777216 + n / 65536 % 256 * 65536 + n / 256 % 256 * 256 + n % 256 ≡ n
value_4 n = omega arith

pub digits_2 : (a b : ℕ) → a < 256 → b < 256 → bytes_2 (a * 256 + b) ≡ a ∷ b ∷ []
digits_2 a b ha hb =
    let n = a * 256 + b in
    let ea : n / 256 ≡ a = omega arith in
    let eb : n % 256 ≡ b = omega arith in
    rw (ea, eb)

pub digits_4 :
    (a b c d : ℕ) → a < 256 → b < 256 → c < 256 → d < 256 →
    bytes_4 (a * 16777216 + b * 65536 + c * 256 + d) ≡ a ∷ b ∷ c ∷ d ∷ []
digits_4 a b c d ha hb hc hd =
    let n = a * 16777216 + b * 65536 + c * 256 + d in
    let ea : n / 16777216 ≡ a = omega arith in
    let eb : n / 65536 % 256 ≡ b = omega arith in
    let ec : n / 256 % 256 ≡ c = omega arith in
    let ed : n % 256 ≡ d = omega arith in
    rw (ea, eb, ec, ed)

-- The pairs by number: pair q is the primary p = q div 15, and as standby the r-th of the other machines, r = q mod 15.
use Rattle.std.specs.Prelude.{◌≡◌, ℕ, suc, ◌+◌, ◌-◌, ◌*◌, ◌/◌, ◌%◌, Bool, true, cond, not, ◌&&◌, List, [], ◌∷◌, Some, None, Option, ◌==◌, nat_lt}

abbrev pub primary_of : ℕ → ℕ
primary_of q = q / 15

abbrev pub standby_of : ℕ → ℕ
standby_of q = cond (nat_lt (q % 15) (q / 15)) (q % 15) (q % 15 + 1)

-- the test of a printed table: each row has the machines of its number, counted from q on
abbrev pub right : ℕ → ℕ × ℕ → Bool
right q row = row.0 == primary_of q && row.1 == standby_of q

abbrev pub rows_right : ℕ → List (ℕ × ℕ) → Bool
rows_right q [] = true
rows_right q (row ∷ rows) = right q row && rows_right (suc q) rows

-- the machines of pair q: q from 0 to 239
abbrev pub pair_machines : ℕ → Option (ℕ × ℕ)
pair_machines q = cond (nat_lt q 240) (Some (primary_of q, standby_of q)) None

-- the number of a pair: two different machines below 16
abbrev pub pair_number : ℕ → ℕ → Option ℕ
pair_number p b =
    cond (nat_lt p 16 && (nat_lt b 16 && not (p == b))) (Some (15 * p + cond (nat_lt b p) b (b - 1))) None

-- q is the pair of p and b exactly when p and b are the machines of q
abbrev pub Inverse : Type 0
Inverse =
    (q p b : ℕ) →
    (pair_machines q ≡ Some (p, b) → pair_number p b ≡ Some q) × (pair_number p b ≡ Some q → pair_machines q ≡ Some (p, b))

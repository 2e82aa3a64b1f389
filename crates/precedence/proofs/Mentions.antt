-- Where a number is first mentioned in a list.
use Rattle.std.specs.Prelude.{◌≡◌, ℕ, ◌≤◌, List, length, ◌==◌, cond, Some, None, position, nat_lt, take, min, [], ◌∷◌}
use Rattle.std.proofs.Common.{refl, arith}
use Rattle.std.specs.List.{position_or_len}
use Rattle.std.specs.Option.{unwrap_or}
use Rattle.std.proofs.lemmas.List.Recursion.{is_position_or_len}
use Rattle.std.proofs.lemmas.Bool.Decides.{nat_tests}
use Rattle.std.proofs.lemmas.Grind.{common_steps}
use Rattle.precedence.specs.Rankings.{index}

index_is_position : (xs : List ℕ) (n : ℕ) → index xs n ≡ position_or_len (λ x. x == n) xs
index_is_position xs n = is_position_or_len (λ ys. index ys n) (λ x. x == n) refl (λ x ys. refl) xs

index_within : (xs : List ℕ) (n : ℕ) → index xs n ≤ length xs
index_within [] n = omega arith
index_within (x ∷ xs) n = let rest : index xs n ≤ length xs = index_within xs n in grind (arith, nat_tests)

bounded : (i l : ℕ) → i ≤ l → unwrap_or (cond (nat_lt i l) (Some i) None) l ≡ i
bounded i l h = grind (arith, nat_tests)

pub position_or_length : (xs : List ℕ) (n : ℕ) → unwrap_or (position (λ x. x == n) xs) (length xs) ≡ index xs n
position_or_length xs n = rw (← index_is_position xs n) (bounded (index xs n) (length xs) (index_within xs n))

pub front : (n : ℕ) (list : List ℕ) → take (min (length list) n) list ≡ take n list
front n list = grind (arith, common_steps)

-- What the test of a whole table says of each row.
use Rattle.std.proofs.Common.{◌≡◌, ℕ, zero, suc, ◌+◌, ◌<◌, true, eqb, List, [], ◌∷◌, length, get_or, Some, None, Option, sym, ◌∙◌, subst, le_of_suc-le-suc, not-suc-le-zero, add-zero, add-suc, suc-add, zero-add}
use Rattle.std.proofs.lemmas.Bool.{and_parts, eqb-true, ltb-true}
use Rattle.std.specs.Option.{option_copied}
use Rattle.std.specs.Slice.{IsItemAt}
use denote.Bor.{Bor}
use Rattle.pairs.specs.Pairs.{pair_machines, primary_of, standby_of, right, rows_right}

both : (row : ℕ × ℕ) (p b : ℕ) → row.0 ≡ p → row.1 ≡ b → row ≡ (p, b)
both row p b first second = rw (← first, ← second)

right_row : (q : ℕ) (row : ℕ × ℕ) → right q row ≡ true → row ≡ (primary_of q, standby_of q)
right_row q row ok =
    let parts = and_parts (eqb row.0 (primary_of q)) (eqb row.1 (standby_of q)) ok in
    both row (primary_of q) (standby_of q) (eqb-true row.0 (primary_of q) parts.0) (eqb-true row.1 (standby_of q) parts.1)

from :
    (rows : List (ℕ × ℕ)) (d : ℕ × ℕ) (i : ℕ) → rows_right i rows ≡ true → (k : ℕ) → k < length rows →
    right (i + k) (get_or rows k d) ≡ true
from [] d i ok k h = absurd (not-suc-le-zero h)
from (x ∷ xs) d i ok zero h =
    subst (λ (m : ℕ). right m x ≡ true) (sym (add-zero i)) (and_parts (right i x) (rows_right (suc i) xs) ok).0
from (x ∷ xs) d i ok (suc k) h =
    subst (λ (m : ℕ). right m (get_or xs k d) ≡ true) (suc-add i k ∙ sym (add-suc i k))
    (from xs d (suc i) (and_parts (right i x) (rows_right (suc i) xs) ok).1 k (le_of_suc-le-suc h))

each_row :
    (rows : List (ℕ × ℕ)) (d : ℕ × ℕ) → rows_right 0 rows ≡ true → (q : ℕ) → q < length rows →
    get_or rows q d ≡ (primary_of q, standby_of q)
each_row rows d ok q h =
    right_row q (get_or rows q d) (subst (λ (m : ℕ). right m (get_or rows q d) ≡ true) (zero-add q) (from rows d 0 ok q h))

-- the row that a look-up gives, if any
pub looked_up :
    (rows : List (ℕ × ℕ)) → rows_right 0 rows ≡ true → length rows ≡ 240 → (q : ℕ) (row : Option (Bor (ℕ × ℕ))) →
    IsItemAt rows q row → option_copied row ≡ pair_machines q
looked_up rows ok full q None at = rw (← full, ← at.0)
looked_up rows ok full q (Some row) at =
    let within : q < length rows = ltb-true q (length rows) (sym at.0) in
    let is : row.now ≡ (primary_of q, standby_of q) = at.1 ∙ each_row rows row.now ok q within in
    rw (is, ← full, ← at.0)

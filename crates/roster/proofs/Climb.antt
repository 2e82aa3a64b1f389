-- Numbers that rise from each placement to the next rise from the first on.
use Rattle.std.proofs.Common.{◌≡◌, ℕ, zero, suc, ◌+◌, ◌<◌, Bool, true, false, ltb, List, [], ◌∷◌, length, get_or, sym, refl, arith}
use native.Mathlib.Numerals.{unary_clauses}
use Rattle.std.specs.List.{AllAdjacentBelow, IsAllAdjacentAnswer}
use Rattle.std.proofs.lemmas.Bool.{lt-ltb}
use Rattle.rack.specs.declared.placement.Placement.{Placement}
use Rattle.rack.specs.Plan.{number}
use Rattle.roster.specs.Rising.{rising, rising_from}

-- whether the number of the second is larger
abbrev pub climbs : Placement → Placement → Bool
climbs p q = ltb (number p) (number q)

-- each number is below the next
up_from :
    (n : ℕ) (x : Placement) (ps : List Placement) → ltb n (number x) ≡ true →
    AllAdjacentBelow (λ p q. true ≡ climbs p q) (x ∷ ps) (length (x ∷ ps)) → rising_from n (x ∷ ps) ≡ true
up_from n x [] above all = grind arith
up_from n x (y ∷ ps) above all =
    grind (arith, up_from (number x) y ps (sym (all 0 x (omega arith))) (λ k d lt. simp unary_clauses (simp unary_clauses at all (suc k) d (omega (arith, lt)))))

-- some number is not
down_from :
    (n : ℕ) (ps : List Placement) (k : ℕ) (d : Placement) → k + 1 < length ps →
    false ≡ climbs (get_or ps k d) (get_or ps (k + 1) d) → rising_from n ps ≡ false
down_from n [] k d lt e = grind arith
down_from n (x ∷ []) k d lt e = grind arith
down_from n (x ∷ y ∷ ps) zero d lt e = grind arith
down_from n (x ∷ y ∷ ps) (suc k) d lt e = grind (arith, down_from (number x) (y ∷ ps) k d)

-- what is answered of each and the next says whether the numbers rise, since each is above 0
pub rising_answer : (ps : List Placement) (r : Bool) → IsAllAdjacentAnswer (λ p q b. b ≡ climbs p q) ps r → r ≡ rising ps
rising_answer [] true all = refl
rising_answer [] false fall = absurd (omega (arith, fall.1))
rising_answer (x ∷ ps) true all = sym (up_from 0 x ps (lt-ltb 0 (number x) (omega (arith, x.terms.numbered.0))) all)
rising_answer (x ∷ ps) false fall = sym (down_from 0 (x ∷ ps) fall.0 x fall.1 (fall.2 x))

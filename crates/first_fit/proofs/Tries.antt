-- Putting a job in and taking it out again changes nothing.
use Rattle.std.proofs.Common.{◌≡◌, ℕ, Bool, true, false, ◌&&◌, eqb, ltb, List, [], ◌∷◌, is_some, Some, None, Option, sym, refl, ap, ◌∙◌, ⊎_elim, arith}
use Rattle.std.proofs.lemmas.Bool.{cases_Bool, cases_eq, and_parts, both_ways, eq-eqb, ne_eqb, cond-true, cond-false, not-true}
use Rattle.rack.specs.declared.placement.Placement.{Placement}
use Rattle.rack.specs.Plan.{In, number}
use Rattle.terms.specs.declared.terms.Terms.{Terms}
use Rattle.rack.specs.Test.{passes}
use Rattle.first_fit.specs.Trying.{tried}
use Rattle.roster.specs.Changes.{find, with_job, without, addable}
use Rattle.roster.proofs.Jobs.{find_none}

-- a number that is not found differs from the first one's
not_first : (n : ℕ) (q : Placement) (qs : List Placement) → is_some (find n (q ∷ qs)) ≡ false → (number q ≡ n → ⊥) × (is_some (find n qs) ≡ false)
not_first n q qs none =
    ⊎_elim
    (λ same. absurd (both_ways _ none (ap is_some (cond-true (eqb (number q) n) (Some q) (find n qs) (eq-eqb (number q) n same)))))
    (λ other. (other, ap is_some (sym (cond-false (eqb (number q) n) (Some q) (find n qs) (ne_eqb (number q) n other))) ∙ none))
    (cases_eq (number q) n)

-- a job that was not there is put in and taken out again
pub in_and_out : (p : Placement) (ps : List Placement) → is_some (find (number p) ps) ≡ false → without (number p) (with_job p ps) ≡ ps
in_and_out p [] none = cond-true (eqb (number p) (number p)) [] (p ∷ []) (eq-eqb (number p) (number p) refl)
in_and_out p (q ∷ qs) none =
    let apart = not_first (number p) q qs none in
    ⊎_elim
    (λ here.
    ap (without (number p)) (cond-true (ltb (number p) (number q)) (p ∷ q ∷ qs) (q ∷ with_job p qs) here)
    ∙ cond-true (eqb (number p) (number p)) (q ∷ qs) (p ∷ without (number p) (q ∷ qs)) (eq-eqb (number p) (number p) refl))
    (λ later.
    ap (without (number p)) (cond-false (ltb (number p) (number q)) (p ∷ q ∷ qs) (q ∷ with_job p qs) later)
    ∙ cond-false (eqb (number q) (number p)) (with_job p qs) (q ∷ without (number p) (with_job p qs)) (ne_eqb (number q) (number p) apart.0)
    ∙ ap (λ z. q ∷ z) (in_and_out p qs apart.1))
    (cases_Bool (ltb (number p) (number q)))

-- a job that may be put in is not there
pub addable_new : (m : ℕ) (ps : List Placement) (p : Placement) → addable m ps p ≡ true → is_some (find (number p) ps) ≡ false
addable_new m ps p e = not-true _ (and_parts _ _ e).0

-- so it is put in and taken out again
pub taken_back :
    (m : ℕ) (p : Placement) (ps put back : List Placement) → addable m ps p ≡ true → put ≡ with_job p ps → back ≡ without (number p) put →
    back ≡ ps
taken_back m p ps put back may is out = out ∙ ap (without (number p)) is ∙ in_and_out p ps (addable_new m ps p may)

-- so no other job has its number
pub new_number : (m : ℕ) (ps : List Placement) (p : Placement) → addable m ps p ≡ true → (q : Placement) → In q ps → number q ≡ number p → ⊥
new_number m ps p may = find_none (number p) ps (is_none (find (number p) ps) (addable_new m ps p may))
  where
    -- what is not some is none
    is_none : (o : Option Placement) → is_some o ≡ false → o ≡ None
    is_none None e = refl
    is_none (Some x) e = let z : ◌≡◌ {A = ℕ} 0 1 = cc in absurd (omega arith)

-- what was tried does not pass
pub tried_fails : (before : Terms → Terms → Bool) (m m' : ℕ) (ps qs : List Placement) (p : Placement) → m' ≡ m → qs ≡ with_job p ps → passes before m' qs ≡ false → tried before m ps p ≡ false
tried_fails before m m' ps qs p count put fails =
    let fails' : passes before m (with_job p ps) ≡ false = ap (λ k. passes before k (with_job p ps)) (sym count) ∙ ap (passes before m') (sym put) ∙ fails in
    ⊎_elim
    (λ may. ap (λ b. b && passes before m (with_job p ps)) may ∙ fails')
    (λ may_not. ap (λ b. b && passes before m (with_job p ps)) may_not)
    (cases_Bool (addable m ps p))

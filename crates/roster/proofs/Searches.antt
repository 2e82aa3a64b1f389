-- A job's place by the library's `position`, and the recursions over job numbers.
use Rattle.std.specs.Prelude.{Option}
use Rattle.std.proofs.Common.{◌≡◌, ℕ, suc, ◌+◌, ◌≤◌, Bool, true, false, cond, not, eqb, ltb, List, [], ◌∷◌, length, Some, None, MatchOption, sym, refl, ap, ◌∙◌, arith}
use Rattle.std.specs.Option.{unwrap_or}
use Rattle.std.specs.List as list
use Rattle.std.specs.List.{insert, remove, position, position_or_len, slice_get}
use Rattle.std.proofs.lemmas.Grind.{common_steps}
use Rattle.std.proofs.lemmas.Bool.{cond_both, ltb-true, ltb-false}
use Rattle.std.proofs.lemmas.List.Sums.{prefix_len-le-length}
use Rattle.std.proofs.lemmas.List.Folds.{find_at}
use Rattle.std.proofs.lemmas.List.Recursion.{same_from_clauses}
use Rattle.std.proofs.lemmas.Option.{slice_get_read, slice_get_past}
use Rattle.rack.specs.declared.placement.Placement.{Placement}
use Rattle.rack.specs.Plan.{number}
use Rattle.roster.proofs.Climb.{climbs}
use Rattle.roster.specs.Changes.{find, with_job, without, Stands, Absent}

-- the place of the first that passes, or the length
position-or-length : (test : Placement → Bool) (ps : List Placement) → unwrap_or (position test ps) (length ps) ≡ position_or_len test ps
position-or-length test ps =
    grind (arith, prefix_len-le-length (λ p. not (test p)) ps)

-- a job is put in before the first of a larger number
with_job_place :
    (p : Placement) (ps : List Placement) → insert ps (position_or_len (climbs p) ps) p ≡ with_job p ps
with_job_place p [] = refl
with_job_place p (x ∷ ps) =
    one (climbs p x) ps (with_job p ps) (position_or_len (climbs p) ps) (with_job_place p ps)
  where
    -- one placement more, before or after the job
    one :
        (less : Bool) (xs more : List Placement) (k : ℕ) → insert xs k p ≡ more →
        insert (x ∷ xs) (cond (not less) (1 + k) 0) p ≡ cond less (p ∷ x ∷ xs) (x ∷ more)
    one true xs more k e = refl
    one false xs more k e = let next : 1 + k ≡ suc k = omega arith in rw next (ap (λ l. x ∷ l) e)

-- the same of the place that `position` and the length give
pub placed_before_larger :
    (p : Placement) (ps : List Placement) (k : ℕ) → k ≡ unwrap_or (position (climbs p) ps) (length ps) → insert ps k p ≡ with_job p ps
placed_before_larger p ps k at = ap (λ i. insert ps i p) (at ∙ position-or-length (climbs p) ps) ∙ with_job_place p ps

module _ (n : ℕ) where
  -- whether it is the job with this number
  abbrev pub has : Placement → Bool
  has p = eqb (number p) n

  -- the library finds the same
  find_same : (ps : List Placement) → list.find has ps ≡ find n ps
  find_same = same_from_clauses (list.find has) (find n) (λ p rest. cond (has p) (Some p) rest) refl (λ _ _. refl) (λ _ _. refl)

  -- the first with the number is taken out
  without_place : (ps : List Placement) → remove ps (position_or_len has ps) ≡ without n ps
  without_place [] = refl
  without_place (x ∷ ps) = one (has x) ps (without n ps) (position_or_len has ps) (without_place ps)
    where
      -- one placement more, that goes or stays
      one :
          (its : Bool) (xs less : List Placement) (k : ℕ) → remove xs k ≡ less →
          remove (x ∷ xs) (cond (not its) (1 + k) 0) ≡ cond its xs (x ∷ less)
      one true xs less k e = refl
      one false xs less k e = let next : 1 + k ≡ suc k = omega arith in rw next (ap (λ l. x ∷ l) e)

  -- where the job stands, if it is there
  place_cases : (ps : List Placement) → MatchOption (position has ps) (Absent n ps) (λ i. Stands n ps i)
  place_cases ps =
      let k = position_or_len has ps in
      let at : find n ps ≡ slice_get ps k = sym (find_same ps) ∙ find_at has ps in
      cond_both (ltb k (length ps)) (Some k) None (λ r. MatchOption r (Absent n ps) (λ i. Stands n ps i))
      (λ here.
      record {
        within = ltb-true k (length ps) here;
        found = λ p is. at ∙ slice_get_read ps (length ps) k p refl (ltb-true k (length ps) here) is;
        rest = without_place ps;
      })
      (λ past.
      let over : length ps ≤ k = ltb-false k (length ps) past in
      record {
        none = at ∙ slice_get_past ps k over;
        all = sym (without_place ps) ∙ removed_past ps k over;
      })
    where
      -- nothing is taken out past the end
      removed_past : (xs : List Placement) (k : ℕ) → length xs ≤ k → remove xs k ≡ xs
      removed_past xs k over = grind (arith, common_steps)

  -- the same of a place that is known to be the first with the number
  pub place_is :
      (ps : List Placement) (i : Option ℕ) → i ≡ position has ps → MatchOption i (Absent n ps) (λ k. Stands n ps k)
  place_is ps i is = rw is (place_cases ps)

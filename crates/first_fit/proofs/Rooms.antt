-- A machine on which a job's primary leaves some quiet figure missing fails for every standby and status.
use Rattle.std.proofs.Common.{◌≡◌, ℕ, ◌+◌, ◌<◌, Bool, true, false, cond, not, ◌&&◌, eqb, ltb, List, [], ◌∷◌, ◌++◌, length, get_or, drop, is_some, Some, None, Option, sym, refl, ap, ◌∙◌, ⊎_elim}
use Rattle.std.proofs.lemmas.Bool.{and_right, both_ways, cases_Bool, cond-true, cond-false, eq-eqb, eqb-true, not_from_false, or_left, or_right}
use Rattle.std.proofs.lemmas.List.{drop_more}
use Rattle.terms.specs.declared.terms.Terms.{Terms}
use Rattle.figures.specs.declared.copies.JobCopy.{JobCopy}
use Rattle.figures.specs.declared.copies.Role.TheVariants.{Primary, Standby}
use Rattle.figures.specs.Figure.{figure_of}
use Rattle.rack.specs.declared.placement.Status.{Status}
use Rattle.rack.specs.declared.placement.Status.TheVariants.{Passive, Active}
use Rattle.rack.specs.declared.placement.Placement.{Placement}
use Rattle.rack.specs.Plan.{number, active}
use Rattle.rack.specs.Sets.{copy_of, primary_copy, gather, quiet_part, quiet}
use Rattle.rack.specs.Test.{all_of, passes}
use Rattle.rack.proofs.Tested.{each_all_of, passes_means}
use Rattle.roster.specs.Changes.{with_job, addable}
use Rattle.roster.proofs.Jobs.{in_with_job, with_job_has, with_job_keeps}
use Rattle.plantest.specs.Sweep.{has_quiet}
use Rattle.first_fit.specs.Choices.{Choice, placement_of, chosen_or, first_standby, first_with, first_choice}
use Rattle.first_fit.specs.Room.{quiet_on}
use Rattle.first_fit.specs.Trying.{tried_at}

-- two jobs of one number that add the same leave the same gathered
gather_swap :
    (part : Placement → List JobCopy) (x y : Placement) (ps : List Placement) → number x ≡ number y → part x ≡ part y →
    gather part (with_job x ps) ≡ gather part (with_job y ps)
gather_swap part x y [] same adds = ap (λ l. l ++ []) adds
gather_swap part x y (q ∷ qs) same adds =
    ⊎_elim
    (λ less.
    ap (gather part) (cond-true (ltb (number x) (number q)) (x ∷ q ∷ qs) (q ∷ with_job x qs) less)
    ∙ ap (λ l. l ++ gather part (q ∷ qs)) adds
    ∙ sym (ap (gather part) (cond-true (ltb (number y) (number q)) (y ∷ q ∷ qs) (q ∷ with_job y qs) (ap (λ k. ltb k (number q)) (sym same) ∙ less))))
    (λ most.
    ap (gather part) (cond-false (ltb (number x) (number q)) (x ∷ q ∷ qs) (q ∷ with_job x qs) most)
    ∙ ap (λ l. part q ++ l) (gather_swap part x y qs same adds)
    ∙ sym (ap (gather part) (cond-false (ltb (number y) (number q)) (y ∷ q ∷ qs) (q ∷ with_job y qs) (ap (λ k. ltb k (number q)) (sym same) ∙ most))))
    (cases_Bool (ltb (number x) (number q)))

module _ (before : Terms → Terms → Bool) (m : ℕ) (ps : List Placement) (t : Terms) (g : ℕ) where
  -- the job's primary on its machine, whatever its standby
  own_part : (b : ℕ) (status : Status) → quiet_part g (placement_of t g b status) ≡ copy_of Primary (placement_of t g b status) t.lateness ∷ []
  own_part b status =
      cond-true (eqb g g) (primary_copy (placement_of t g b status) ∷ [])
      (cond (eqb b g && active status) (copy_of Standby (placement_of t g b status) t.lateness ∷ []) []) (eq-eqb g g refl)

  module _ (b c : ℕ) (one other : Status) where
    -- the job so
    abbrev x : Placement
    x = placement_of t g b one

    -- and otherwise
    abbrev y : Placement
    y = placement_of t g c other

    set_same : quiet g (with_job x ps) ≡ quiet g (with_job y ps)
    set_same = gather_swap (quiet_part g) x y ps refl (own_part b one ∙ sym (own_part c other))

    -- where the plan with the job so passes, the quiet figures of its machine are there with the job otherwise
    all_quiet : passes before m (with_job x ps) ≡ true → all_of (quiet_on before (with_job y ps) g) (with_job y ps) ≡ true
    all_quiet pass =
        let fit = passes_means before m (with_job x ps) pass in
        each_all_of (quiet_on before (with_job y ps) g) (with_job y ps)
        (λ q at.
        ⊎_elim
        (λ there.
        let on_g : q.primary ≡ g = eqb-true q.primary g there in
        or_right (not (eqb q.primary g)) (has_quiet before (with_job y ps) q)
        (ap (λ k. is_some (figure_of before (quiet k (with_job y ps)) (primary_copy q))) on_g
        ∙ ap (λ s. is_some (figure_of before s (primary_copy q))) (sym set_same)
        ∙ ⊎_elim
        (λ own. ap (λ (p : Placement). is_some (figure_of before (quiet g (with_job x ps)) (primary_copy p))) own ∙ (fit x (with_job_has x ps)).quiet)
        (λ kept.
        ap (λ k. is_some (figure_of before (quiet k (with_job x ps)) (primary_copy q))) (sym on_g)
        ∙ (fit q (with_job_keeps x q ps kept)).quiet)
        (in_with_job y q ps at)))
        (λ away. or_left (not (eqb q.primary g)) (has_quiet before (with_job y ps) q) (not_from_false _ away))
        (cases_Bool (eqb q.primary g)))

  -- so where they are not, the job is tried in vain with every standby and status
  pub no_room :
      (c : ℕ) (other : Status) → all_of (quiet_on before (with_job (placement_of t g c other) ps) g) (with_job (placement_of t g c other) ps) ≡ false →
      (b : ℕ) (status : Status) → tried_at before m ps t g status b ≡ false
  no_room c other missing b status =
      and_right (addable m ps (placement_of t g b status)) (passes before m (with_job (placement_of t g b status) ps))
      (⊎_elim
      (λ pass. absurd (both_ways _ missing (all_quiet b c status other pass)))
      (λ not_so. not_so)
      (cases_Bool (passes before m (with_job (placement_of t g b status) ps))))

-- a test that no standby passes takes none
standby_never : (test : ℕ → Bool) (p : ℕ) (bs : List ℕ) → ((b : ℕ) → test b ≡ false) → first_standby test p bs ≡ None
standby_never test p [] never = refl
standby_never test p (b ∷ bs) never =
    cond-false (not (eqb b p) && test b) (Some b) (first_standby test p bs) (and_right (not (eqb b p)) (test b) (never b)) ∙ standby_never test p bs never

-- so a primary with which no test is passed is passed over
pub passed_over :
    (test : Status → ℕ → Bool) (p : ℕ) (turns : List ℕ) (next : Option Choice) → ((b : ℕ) (status : Status) → test status b ≡ false) →
    first_with test p turns next ≡ next
passed_over test p turns next never =
    ap (λ o. chosen_or p Passive o (chosen_or p Active (first_standby (test Active) p turns) next)) (standby_never (test Passive) p turns (λ b. never b Passive))
    ∙ ap (λ o. chosen_or p Active o next) (standby_never (test Active) p turns (λ b. never b Active))

-- and there is no choice with it
pub none_with : (test : Status → ℕ → Bool) (p : ℕ) (turns : List ℕ) → ((b : ℕ) (status : Status) → test status b ≡ false) → first_with test p turns None ≡ None
none_with test p turns never = passed_over test p turns None never

-- the search goes on behind it
pub goes_on :
    (test : ℕ → Status → ℕ → Bool) (turns all : List ℕ) (i : ℕ) → i < length all → ((b : ℕ) (status : Status) → test (get_or all i 0) status b ≡ false) →
    first_choice test (drop i all) turns ≡ first_choice test (drop (i + 1) all) turns
goes_on test turns all i lt never =
    ap (λ l. first_choice test l turns) (drop_more all i 0 lt)
    ∙ passed_over (test (get_or all i 0)) (get_or all i 0) turns (first_choice test (drop (i + 1) all) turns) never

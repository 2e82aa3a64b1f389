-- A pin keeps the candidate that is given exactly when it is one and its plan passes.
use Rattle.std.proofs.Common.{◌≡◌, ℕ, Bool, true, cond, ◌&&◌, List, Some, Ok, Err, Result, refl, ap, ◌∙◌, arith}
use Rattle.std.proofs.lemmas.Bool.{and_from, and_parts}
use Rattle.std.proofs.lemmas.Grind.{common_steps}
use Rattle.terms.specs.declared.draft.Draft.{Draft}
use Rattle.terms.specs.declared.terms.Terms.{Terms}
use Rattle.terms.specs.declared.refusal.Refusal.{Refusal}
use Rattle.terms.specs.declared.refusal.Refusal.TheVariants.{Pin}
use Rattle.rack.specs.declared.placement.Placement.{Placement}
use Rattle.rack.specs.declared.placement.Status.{Status}
use Rattle.rack.specs.declared.placement.Status.TheVariants.{Passive, Active}
use Rattle.rack.proofs.Tested.{passes_means, passes_true}
use Rattle.roster.specs.Changes.{with_job}
use Rattle.roster.specs.Rising.{placed}
use Rattle.roster.proofs.Ordered.{placed_here}
use Rattle.plantest.proofs.Listings.{placed_true}
use Rattle.first_fit.specs.Choices.{Choice, placement_of, passes_beside}
use Rattle.planner.specs.Answers.{status_number, status_of, admitted, pinned, pin_admitted, pin_choice, pin_jobs, jobs_with, done}
use Rattle.calls.specs.Said.{said_done, refusal_number}
use Rattle.calls.specs.Calls.{State, state}
use Rattle.calls.specs.Meanings.{Pinning}
use Rattle.calls.proofs.Admitting.{admitted_admissible, admissible_admitted}

-- what is done without a refusal was chosen
done_so : (r : Result Choice Refusal) → refusal_number (said_done (done r)) ≡ 0 → (c : Choice) × (r ≡ Ok c)
done_so r none = grind (arith, common_steps)

-- a status and its number
status_numbered : (n : ℕ) (status : Status) → status_of n ≡ Some status → n ≡ status_number status
status_numbered n status is = grind (arith, common_steps)

number_status : (status : Status) → status_of (status_number status) ≡ Some status
number_status Passive = refl
number_status Active = refl

module _ (before : Terms → Terms → Bool) (s : State) (d : Draft) (p b n : ℕ) where
  abbrev m : ℕ
  m = s.machines

  abbrev ps : List Placement
  ps = s.jobs

  abbrev test : Terms → Status → Bool
  test t status = placed m (placement_of t p b status) && passes_beside before m ps t p status b

  -- a kept candidate passed the test
  kept_tested :
      (t : Terms) (c : Choice) → pinned before m ps t p b (status_of n) ≡ Ok c →
      (status : Status) × (status_of n ≡ Some status) × (test t status ≡ true) × (c ≡ (p, b, status))
  kept_tested t c kept = grind (arith, common_steps)

  kept_admitted :
      (c : Choice) → pin_choice before m ps d p b n ≡ Ok c → (t : Terms) × (admitted ps d ≡ Ok t) × (pinned before m ps t p b (status_of n) ≡ Ok c)
  kept_admitted c = go (admitted ps d) refl
    where
      go : (a : Result Terms Refusal) → admitted ps d ≡ a → pin_admitted before m ps p b n a ≡ Ok c → (t : Terms) × (admitted ps d ≡ Ok t) × (pinned before m ps t p b (status_of n) ≡ Ok c)
      go (Ok t) is e = (t, is, e)
      go (Err f) is e = cc

  pub pinning_so :
      Pinning before s d p b n (refusal_number (said_done (done (pin_choice before m ps d p b n)))) (state m (pin_jobs before m ps d p b n) s.out)
  pinning_so = (
    (λ none.
        let kept = done_so (pin_choice before m ps d p b n) none in
        let in_it = kept_admitted kept.0 kept.1 in
        let t = in_it.0 in
        let by = kept_tested t kept.0 in_it.2 in
        let status = by.0 in
        let parts = and_parts (placed m (placement_of t p b status)) (passes_beside before m ps t p status b) by.2 in
        let chosen : pin_choice before m ps d p b n ≡ Ok (p, b, status) = kept.1 ∙ ap (λ (c : Choice). Ok c) by.3 in (
          t,
          status,
          record {
            admissible = admitted_admissible ps d t in_it.1;
            numbered = status_numbered n status by.1;
            machines = placed_here m (placement_of t p b status) parts.0;
            passes = passes_means before m (with_job (placement_of t p b status) ps) parts.1;
          },
          ap (λ (qs : List Placement). state m qs s.out) ((λ i. jobs_with ps (in_it.1 i) (chosen i))),
        )),
    (λ t status fit.
        let good : test t status ≡ true =
        and_from _ _ (placed_true m (placement_of t p b status) fit.machines) (passes_true before m (with_job (placement_of t p b status) ps) fit.passes) in
        ap (λ (r : Result Choice Refusal). refusal_number (said_done (done r)))
        (ap (pin_admitted before m ps p b n) (admissible_admitted ps d t fit.admissible)
        ∙ ap (pinned before m ps t p b) (ap status_of fit.numbered ∙ number_status status)
        ∙ ap (λ (q : Bool). cond q (Ok (p, b, status)) (Err Pin)) good)),
  )

-- What holds at each call of a list, said of its parts.
use Rattle.std.proofs.Common.{◌≡◌, ℕ, Bool, true, cond, ◌⊎◌, List, [], ◌∷◌, ◌++◌, length, get_or, is_some, Some, None, Ok, Err, Option, Result, sym, refl, ap, ◌∙◌, subst, arith}
use Rattle.std.proofs.lemmas.Grind.{common_steps}
use Rattle.terms.specs.declared.draft.Draft.{Draft}
use Rattle.terms.specs.declared.terms.Terms.{Terms}
use Rattle.terms.specs.declared.refusal.Refusal.{Refusal}
use Rattle.terms.specs.declared.refusal.Refusal.TheVariants.{NoPlace, Unknown}
use Rattle.terms.specs.Making.{drafted}
use Rattle.rack.specs.declared.placement.Placement.{Placement}
use Rattle.rack.specs.declared.placement.Status.{Status}
use Rattle.rack.specs.Plan.{In, Once, number}
use Rattle.rack.specs.Sets.{quiet_figure}
use Rattle.rack.specs.Test.{Passes, standby_figure}
use Rattle.rack.proofs.Tested.{passes_means, passes_true}
use Rattle.roster.specs.Changes.{find, with_job, without}
use Rattle.roster.specs.Loads.{loads}
use Rattle.roster.proofs.Jobs.{find_none, find_not, without_part, without_keeps}
use Rattle.plantest.specs.JobFigures.{shown, largest_lost}
use Rattle.plantest.specs.Verdicts.{Safe}
use Rattle.first_fit.specs.Choices.{Choice, placement_of, passes_beside}
use Rattle.planner.specs.Answers.{status_number, is_count, withdraw_answer, admitted, admitted_terms, first_passing, chosen, place_admitted, place_answer, jobs_with, place_jobs}
use Rattle.planner.specs.Refused.{PlaceMeans}
use Rattle.planner.specs.Figures.{figures_found}
use Rattle.planner.specs.Filed.{adopt_answer, refused_with}
use Rattle.calls.specs.declared.call.Call.{Call}
use Rattle.calls.specs.declared.call.Call.TheVariants.{Place, Pin as PinCall, Withdraw, Adopt, Figures}
use Rattle.calls.specs.declared.answer.Outcome.TheVariants.{Done}
use Rattle.calls.specs.Said.{Answer, said_placed, said_done, said_figures, refusal_number, values}
use Rattle.calls.specs.Calls.{State, state, fresh, answer_of, after, after_all, answers_of}
use Rattle.calls.specs.Carrying.{Right, Holds, AllCarried}
use Rattle.calls.specs.Meanings.{Judged, Placing, Withdrawing}
use Rattle.calls.specs.Promise.{Kept, Promise}
use Rattle.calls.specs.Turns.{candidates, First}
use Rattle.calls.proofs.Figured.{found_planned, figured_so}
use Rattle.calls.proofs.Turns.{first_is, first_found}
use Rattle.calls.proofs.Admitting.{admitted_admissible, admissible_admitted}
use Rattle.calls.proofs.Pinned.{pinning_so}
use Rattle.calls.proofs.Unchanged.{refused_same}

-- only refusal 5 has that number
numbered_five : (r : Result Choice Refusal) → refusal_number (said_placed r) ≡ 5 → r ≡ Err NoPlace
numbered_five r e = grind (arith, common_steps)

-- what is not admitted is refused with another number
admitted_other : (ps : List Placement) (o : Option Terms) → admitted_terms ps o ≡ Err NoPlace → ⊥
admitted_other ps o e = grind (arith, common_steps)

-- a search ends with a choice or with refusal 5
taken_or_none : (o : Option Choice) → (refusal_number (said_placed (chosen o)) ≡ 0) ⊎ (refusal_number (said_placed (chosen o)) ≡ 5)
taken_or_none o = grind (arith, common_steps)

-- without a number, no job has it
without_once : (n : ℕ) (ps : List Placement) (q : Placement) → Once ps → In q (without n ps) → number q ≡ n → ⊥
without_once n [] q once at same = at
without_once n (p ∷ ps) q once at same = grind (arith, common_steps, without_once n ps q)

withdrawing_so : (s : State) (n : ℕ) → Once s.jobs → Withdrawing s n (refusal_number (said_done (withdraw_answer s.jobs n))) (state s.machines (without n s.jobs) s.out)
withdrawing_so s n once =
    record {
      machines = refl;
      output = refl;
      only_others = λ q at. (without_part n q s.jobs at, without_once n s.jobs q once at);
      all_others = λ q at other. without_keeps n q s.jobs at other;
      unknown = λ six. find_none n s.jobs (go (find n s.jobs) six);
      known = λ none. ap (λ (o : Option Placement). refusal_number (said_done (cond (is_some o) (Ok tt) (Err Unknown)))) (find_not n s.jobs none);
    }
  where
    go : (o : Option Placement) → refusal_number (said_done (cond (is_some o) (Ok tt) (Err Unknown))) ≡ 6 → o ≡ None
    go o six = grind (arith, common_steps)

module _ (before : Terms → Terms → Bool) (turns : ℕ → List ℕ → List ℕ) (m : ℕ) (ps : List Placement) (d : Draft) where
  -- what is refused for want of machines was admitted
  refused_admitted : place_answer before turns m ps d ≡ Err NoPlace → (t : Terms) × (admitted ps d ≡ Ok t)
  refused_admitted refused = go (admitted ps d) refl refused
    where
      go : (a : Result Terms Refusal) → admitted ps d ≡ a → place_admitted before turns m ps a ≡ Err NoPlace → (t : Terms) × (admitted ps d ≡ Ok t)
      go (Ok t) e here = (t, e)
      go (Err f) e here =
          let same : f ≡ NoPlace = cc in
          absurd (admitted_other ps (drafted d) (e ∙ ap (λ (x : Refusal). Err x) same))

  judged_so :
      (out : List ℕ) → PlaceMeans before m ps d (place_answer before turns m ps d) →
      Judged before (state m ps out) d (refusal_number (said_placed (place_answer before turns m ps d)))
  judged_so out means = (
    (λ five.
        let refused = numbered_five (place_answer before turns m ps d) five in
        let taken = refused_admitted refused in
        let both = (means taken.0 taken.1).0 refused in
        (taken.0, admitted_admissible ps d taken.0 taken.1, both.0, both.1)),
    (λ t may none. ap (λ (r : Result Choice Refusal). refusal_number (said_placed r)) ((means t (admissible_admitted ps d t may)).1 none)),
    (λ t may.
        subst (λ (a : Result Terms Refusal). (refusal_number (said_placed (place_admitted before turns m ps a)) ≡ 0) ⊎ (refusal_number (said_placed (place_admitted before turns m ps a)) ≡ 5))
        (sym (admissible_admitted ps d t may)) (taken_or_none (first_passing before turns m ps t))),
  )

-- a choice that is told was chosen
said_chosen : (r : Result Choice Refusal) (p b : ℕ) (status : Status) → values (said_placed r) ≡ p ∷ b ∷ status_number status ∷ [] → r ≡ Ok (p, b, status)
said_chosen r p b status e = grind (arith, common_steps)

-- and found
chosen_found : (o : Option Choice) (c : Choice) → chosen o ≡ Ok c → o ≡ Some c
chosen_found o c e = grind (arith, common_steps)

module _ (before : Terms → Terms → Bool) (turns : ℕ → List ℕ → List ℕ) (m : ℕ) (ps : List Placement) (d : Draft) (c : Choice) where
  -- what is answered with a choice was admitted, and the choice found
  placed_admitted :
      place_answer before turns m ps d ≡ Ok c →
      (t : Terms) × (admitted ps d ≡ Ok t) × (first_passing before turns m ps t ≡ Some c)
  placed_admitted placed = go (admitted ps d) refl placed
    where
      go : (a : Result Terms Refusal) → admitted ps d ≡ a → place_admitted before turns m ps a ≡ Ok c → (t : Terms) × (admitted ps d ≡ Ok t) × (first_passing before turns m ps t ≡ Some c)
      go (Ok t) e here = (t, e, chosen_found (first_passing before turns m ps t) c here)
      go (Err f) e here = cc

  -- the test of the plan is that it passes
  first_by : (t : Terms) → first_passing before turns m ps t ≡ Some c → First (λ e. Passes before m (with_job (placement_of t e.0 e.1 e.2) ps)) (candidates (turns m (loads ps))) c
  first_by t found =
      let test : Choice → Bool = λ e. passes_beside before m ps t e.0 e.2 e.1 in
      let r = first_found test (candidates (turns m (loads ps))) c (first_is test (turns m (loads ps)) (turns m (loads ps)) ∙ found) in
      record {
        earlier = r.earlier;
        later = r.later;
        parts = r.parts;
        passes = passes_means before m (with_job (placement_of t c.0 c.1 c.2) ps) r.passes;
        none_earlier = λ e at pass. r.none_earlier e at (passes_true before m (with_job (placement_of t e.0 e.1 e.2) ps) pass);
      }

  placing_so :
      (out : List ℕ) → place_answer before turns m ps d ≡ Ok c →
      Placing before turns (state m ps out) d c (state m (place_jobs before turns m ps d) out)
  placing_so out placed =
      let found = placed_admitted placed in
      record {
        terms = found.0;
        admissible = admitted_admissible ps d found.0 found.1;
        first = first_by found.0 found.2;
        then = ap (λ (qs : List Placement). state m qs out) ((λ i. jobs_with ps (found.1 i) (placed i)));
      }

module _ (before : Terms → Terms → Bool) (turns : ℕ → List ℕ → List ℕ) (code : ℕ) where
  safe_after :
      (s : State) (first rest : List Call) → Holds before turns code s (first ++ rest) →
      Safe before (after_all before turns code s first).machines (after_all before turns code s first).jobs
  safe_after s [] [] h = h
  safe_after s [] (c ∷ rest) h = h.0
  safe_after s (c ∷ first) rest h = safe_after (after before turns code s c) first rest h.2

  right_after :
      (s : State) (first : List Call) (c : Call) (rest : List Call) → Holds before turns code s (first ++ c ∷ rest) →
      Right before turns code (after_all before turns code s first) c
  right_after s [] c rest h = h.1
  right_after s (x ∷ first) c rest h = right_after (after before turns code s x) first c rest h.2

  -- the answer to a call stands at its place
  answer_after :
      (s : State) (first : List Call) (c : Call) (rest : List Call) →
      get_or (answers_of before turns code s (first ++ c ∷ rest)) (length first) (Ok Done)
      ≡ answer_of before turns code (after_all before turns code s first) c
  answer_after s [] c rest = refl
  answer_after s (x ∷ first) c rest = answer_after (after before turns code s x) first c rest

  module _ (m : ℕ) (out : List ℕ) (calls : List Call) (answers : List Answer) (end : State) (all : AllCarried before turns code (fresh m out) calls answers end) where
    abbrev then : List Call → State
    then first = after_all before turns code (fresh m out) first

    -- the answer of a call
    told :
        (first : List Call) (c : Call) (rest : List Call) → calls ≡ first ++ c ∷ rest →
        get_or answers (length first) (Ok Done) ≡ answer_of before turns code (then first) c
    told first c rest parts =
        ap (λ (xs : List Answer). get_or xs (length first) (Ok Done)) (all.answered ∙ ap (answers_of before turns code (fresh m out)) parts)
        ∙ answer_after (fresh m out) first c rest

    safe_at : (first rest : List Call) → calls ≡ first ++ rest → Safe before (then first).machines (then first).jobs
    safe_at first rest parts = safe_after (fresh m out) first rest (subst (λ (cs : List Call). Holds before turns code (fresh m out) cs) parts all.holds)

    right_at : (first : List Call) (c : Call) (rest : List Call) → calls ≡ first ++ c ∷ rest → Right before turns code (then first) c
    right_at first c rest parts = right_after (fresh m out) first c rest (subst (λ (cs : List Call). Holds before turns code (fresh m out) cs) parts all.holds)

    said_adopt : (r : Result (Unit {0}) Refusal) → refused_with r ≡ refusal_number (said_done r)
    said_adopt r = grind (arith, common_steps)

    kept_so : Kept before turns code then (λ first. get_or answers (length first) (Ok Done)) calls
    kept_so =
        record {
          safe = safe_at;
          judged = λ first d rest parts.
              let s = then first in
              rw (told first (Place d) rest parts) (judged_so before turns s.machines s.jobs d s.out (right_at first (Place d) rest parts));
          placed = λ first d rest parts p b status is.
              let s = then first in
              placing_so before turns s.machines s.jobs d (p, b, status) s.out
              (said_chosen (place_answer before turns s.machines s.jobs d) p b status (sym (ap values (told first (Place d) rest parts)) ∙ is));
          pinned = λ first d p b n rest parts. rw (told first (PinCall d p b n) rest parts) (pinning_so before (then first) d p b n);
          withdrawn = λ first n rest parts.
              let safe = safe_at first (Withdraw n ∷ rest) parts in
              rw (told first (Withdraw n) rest parts) (withdrawing_so (then first) n safe.plan.arranged.once);
          figured = λ first n rest parts p at is.
              let s = then first in
              let safe = safe_at first (Figures n ∷ rest) parts in
              let found : find n s.jobs ≡ Some p = ap (λ (k : ℕ). find k s.jobs) (sym is) ∙ found_planned before s.machines s.jobs p safe at in
              let said = told first (Figures n) rest parts ∙ ap (λ (o : Option Placement). said_figures (figures_found before s.machines s.jobs o)) found in (
                shown (quiet_figure before s.jobs p),
                largest_lost before s.jobs p s.machines,
                shown (standby_figure before s.jobs p),
                ap refusal_number said,
                ap values said,
                figured_so before s.machines s.jobs p safe at,
              );
          adopted = λ first bytes rest parts.
              rw (told first (Adopt bytes) rest parts, ← said_adopt (adopt_answer before code bytes.now)) (right_at first (Adopt bytes) rest parts);
          unchanged = λ first c rest parts refused.
              refused_same before turns code (then first) c (λ none. refused (ap refusal_number (told first c rest parts) ∙ none));
        }

    pub promised : Promise before turns code m out calls answers end
    promised = record { answered = all.answered; ended = all.ended; kept = kept_so }

-- a plan just opened has so many machines and no job
pub opened_fresh :
    (m n k : ℕ) (ps qs : List Placement) (out : List ℕ) → is_count m ≡ true → n ≡ cond (is_count m) m k → ps ≡ cond (is_count m) [] qs →
    state n ps out ≡ fresh m out
opened_fresh m n k ps qs out is count none = grind (arith, common_steps)

-- What is promised of any list of calls to a plan just opened, refused ones included.
use Rattle.std.specs.Prelude.{◌≡◌, ℕ, Bool, List, [], ◌∷◌, ◌++◌, length, ◌≢◌, Ok, slice_index_or}
use Rattle.std.specs.Borrow.{Bor}
use Rattle.terms.specs.declared.draft.Draft.{Draft}
use Rattle.terms.specs.declared.terms.Terms.{Terms}
use Rattle.rack.specs.declared.placement.Placement.{Placement}
use Rattle.rack.specs.declared.placement.Status.{Status}
use Rattle.rack.specs.Plan.{In, number}
use Rattle.plantest.specs.Verdicts.{Safe}
use Rattle.planner.specs.Answers.{status_number}
use Rattle.planner.specs.Filed.{AdoptMeans}
use Rattle.calls.specs.declared.call.Call.{Call}
use Rattle.calls.specs.declared.call.Call.TheVariants.{Place, Pin, Withdraw, Adopt, Figures}
use Rattle.calls.specs.declared.answer.Outcome.TheVariants.{Done}
use Rattle.calls.specs.Said.{Answer, refusal_number, values}
use Rattle.calls.specs.Calls.{State, fresh, plan_in, after, after_all, answers_of}
use Rattle.calls.specs.Meanings.{Judged, Placing, Pinning, Withdrawing, Figured}

-- what holds of the calls of a list, each of which may be refused, under a rule (`before`, and its `code`) and a search
-- order (`turns`). `at first` is the state after the first part of the
-- list, and `said first` what the call after it answers
pub record Kept (before : Terms → Terms → Bool) (turns : ℕ → List ℕ → List ℕ) (code : ℕ) (at : List Call → State) (said : List Call → Answer) (calls : List Call) : Type 0 where
  -- after any first part of the list, so also after all of it, the plan is one that passes: on every day, whichever
  -- machine stops at whichever tick, or none, every call-up of every planned job has a copy that finishes on time
  pub safe : (first rest : List Call) → calls ≡ first ++ rest → Safe before (at first).machines (at first).jobs
  -- each place was judged rightly beside the placements then standing
  pub judged :
      (first : List Call) (d : Draft) (rest : List Call) → calls ≡ first ++ Place d ∷ rest →
      Judged before (at first) d (refusal_number (said first))
  -- and one that was answered with machines and a status took the first choice that passes
  pub placed :
      (first : List Call) (d : Draft) (rest : List Call) → calls ≡ first ++ Place d ∷ rest →
      (p b : ℕ) (status : Status) → values (said first) ≡ p ∷ b ∷ status_number status ∷ [] →
      Placing before turns (at first) d (p, b, status) (after before turns code (at first) (Place d))
  -- each pin kept its candidate exactly when it may be kept
  pub pinned :
      (first : List Call) (d : Draft) (p b n : ℕ) (rest : List Call) → calls ≡ first ++ Pin d p b n ∷ rest →
      Pinning before (at first) d p b n (refusal_number (said first)) (after before turns code (at first) (Pin d p b n))
  -- each withdrawal left exactly the other jobs
  pub withdrawn :
      (first : List Call) (n : ℕ) (rest : List Call) → calls ≡ first ++ Withdraw n ∷ rest →
      Withdrawing (at first) n (refusal_number (said first)) (after before turns code (at first) (Withdraw n))
  -- each figures of a planned job answered its three figures
  pub figured :
      (first : List Call) (n : ℕ) (rest : List Call) → calls ≡ first ++ Figures n ∷ rest →
      (p : Placement) → In p (at first).jobs → number p ≡ n →
      (q : ℕ) × (l : ℕ) × (b : ℕ) × (refusal_number (said first) ≡ 0) × (values (said first) ≡ q ∷ l ∷ b ∷ [])
      × Figured before (at first).machines (at first).jobs p q l b
  -- each adopt took over what its bytes hold, or was refused, by what a plan file is
  pub adopted :
      (first : List Call) (bytes : Bor (List ℕ)) (rest : List Call) → calls ≡ first ++ Adopt bytes ∷ rest →
      AdoptMeans before code bytes.now (refusal_number (said first)) (plan_in (at first))
      (plan_in (after before turns code (at first) (Adopt bytes)))
  -- and a call that was refused changed nothing, neither the plan nor a byte of the output
  pub unchanged :
      (first : List Call) (c : Call) (rest : List Call) → calls ≡ first ++ c ∷ rest →
      (refusal_number (said first) ≢ 0) → after before turns code (at first) c ≡ at first

-- any list of calls to a plan just opened with m machines, its answers, and the plan and output at its end
pub record Promise (before : Terms → Terms → Bool) (turns : ℕ → List ℕ → List ℕ) (code m : ℕ) (out : List ℕ) (calls : List Call) (answers : List Answer) (end : State) : Type 0 where
  -- each call answers, and plan and output are at the end, what the rules make of the arguments
  pub answered : answers ≡ answers_of before turns code (fresh m out) calls
  pub ended : end ≡ after_all before turns code (fresh m out) calls
  -- and of these the promise is kept
  pub kept :
      Kept before turns code (λ first. after_all before turns code (fresh m out) first)
      (λ first. slice_index_or answers (length first) (Ok Done)) calls

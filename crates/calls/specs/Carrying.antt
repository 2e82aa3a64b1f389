-- What holds while a list of calls is carried out.
use Rattle.std.specs.Prelude.{◌≡◌, ℕ, Bool, List, [], ◌∷◌}
use Rattle.terms.specs.declared.terms.Terms.{Terms}
use Rattle.plantest.specs.Verdicts.{Safe}
use Rattle.planner.specs.Answers.{place_answer}
use Rattle.planner.specs.Refused.{PlaceMeans}
use Rattle.planner.specs.Filed.{AdoptMeans, adopt_answer, adopt_plan, refused_with}
use Rattle.calls.specs.declared.call.Call.{Call}
use Rattle.calls.specs.declared.call.Call.TheVariants.{Place, Pin, Withdraw, Adopt, Figures, Write}
use Rattle.calls.specs.Said.{Answer}
use Rattle.calls.specs.Calls.{State, plan_in, after, after_all, answers_of}

-- what place and adopt mean
abbrev pub Right : (Terms → Terms → Bool) → (ℕ → List ℕ → List ℕ) → ℕ → State → Call → Type 0
Right before turns code s (Place d) =
    PlaceMeans before s.machines s.jobs d (place_answer before turns s.machines s.jobs d)
Right before turns code s (Pin d p b status) = Unit {0}
Right before turns code s (Withdraw n) = Unit {0}
Right before turns code s (Adopt bytes) =
    AdoptMeans before code bytes.now (refused_with (adopt_answer before code bytes.now)) (plan_in s)
    (adopt_plan before code bytes.now (plan_in s))
Right before turns code s (Figures n) = Unit {0}
Right before turns code s (Write start size) = Unit {0}

-- before each call and after the last the plan is safe, and each place and adopt means what it should at its turn
abbrev pub Holds : (Terms → Terms → Bool) → (ℕ → List ℕ → List ℕ) → ℕ → State → List Call → Type 0
Holds before turns code s [] = Safe before s.machines s.jobs
Holds before turns code s (c ∷ cs) =
    Safe before s.machines s.jobs × Right before turns code s c × Holds before turns code (after before turns code s c) cs

-- a list of calls carried out on a plan that passes
pub record AllCarried (before : Terms → Terms → Bool) (turns : ℕ → List ℕ → List ℕ) (code : ℕ) (s : State) (calls : List Call) (answers : List Answer) (end : State) : Type 0 where
  pub answered : answers ≡ answers_of before turns code s calls
  pub ended : end ≡ after_all before turns code s calls
  pub holds : Holds before turns code s calls

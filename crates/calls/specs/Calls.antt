-- What a list of calls does to a plan, and what it answers.
use Rattle.std.specs.Prelude.{ℕ, ◌+◌, Bool, cond, List, [], ◌∷◌, ◌++◌, take, drop, Ok, Err, Result, vec_items, nat_le}
use Rattle.terms.specs.declared.terms.Terms.{Terms}
use Rattle.terms.specs.declared.refusal.Refusal.{Refusal}
use Rattle.terms.specs.declared.refusal.Refusal.TheVariants.{MachineCount, Short}
use Rattle.rack.specs.declared.placement.Placement.{Placement}
use Rattle.roster.specs.declared.roster.Roster.{Roster}
use Rattle.roster.specs.Changes.{without}
use Rattle.planner.specs.Answers.{is_count, place_answer, place_jobs, pin_answer, pin_jobs, withdraw_answer}
use Rattle.planner.specs.Figures.{figures_answer}
use Rattle.planner.specs.Filed.{adopt_answer, adopt_plan, write_answer, write_bytes}
use Rattle.calls.specs.declared.call.Call.{Call}
use Rattle.calls.specs.declared.call.Call.TheVariants.{Place, Pin, Withdraw, Adopt, Figures, Write}
use Rattle.calls.specs.Said.{Answer, said_placed, said_done, said_figures, said_written}

-- a plan's machine count and jobs, and the output that the list was given
pub record State : Type 0 where
  pub machines : ℕ
  pub jobs : List Placement
  pub out : List ℕ

abbrev pub state : ℕ → List Placement → List ℕ → State
state m ps out = record { machines = m; jobs = ps; out = out }

-- a roster's, with that output
abbrev pub state_of : Roster → List ℕ → State
state_of roster out = state roster.machines (vec_items roster.placements) out

-- its machine count and jobs
abbrev pub plan_in : State → ℕ × List Placement
plan_in s = (s.machines, s.jobs)

-- a plan just opened
abbrev pub fresh : ℕ → List ℕ → State
fresh m out = state m [] out

-- the space of a write: so many bytes of the output from a place on, as far as there are so many
abbrev pub space_at : ℕ → ℕ → List ℕ → List ℕ
space_at start size out = take size (drop start out)

-- the output with other bytes in that space
abbrev pub with_space : ℕ → ℕ → List ℕ → List ℕ → List ℕ
with_space start size bytes out = take start out ++ (bytes ++ drop (start + size) out)

-- what a call answers from the state before it; all goes by a rule, a search order and the rule's code
abbrev pub answer_of : (Terms → Terms → Bool) → (ℕ → List ℕ → List ℕ) → ℕ → State → Call → Answer
answer_of before turns code s (Place d) = said_placed (place_answer before turns s.machines s.jobs d)
answer_of before turns code s (Pin d p b status) = said_done (pin_answer before s.machines s.jobs d p b status)
answer_of before turns code s (Withdraw n) = said_done (withdraw_answer s.jobs n)
answer_of before turns code s (Adopt bytes) = said_done (adopt_answer before code bytes.now)
answer_of before turns code s (Figures n) = said_figures (figures_answer before s.machines s.jobs n)
answer_of before turns code s (Write start size) = said_written (write_answer s.jobs (space_at start size s.out))

-- machine count and jobs of another plan, and the same output
abbrev pub with_plan : List ℕ → ℕ × List Placement → State
with_plan out plan = state plan.0 plan.1 out

-- the state after a call
abbrev pub after : (Terms → Terms → Bool) → (ℕ → List ℕ → List ℕ) → ℕ → State → Call → State
after before turns code s (Place d) = state s.machines (place_jobs before turns s.machines s.jobs d) s.out
after before turns code s (Pin d p b status) = state s.machines (pin_jobs before s.machines s.jobs d p b status) s.out
after before turns code s (Withdraw n) = state s.machines (without n s.jobs) s.out
after before turns code s (Adopt bytes) = with_plan s.out (adopt_plan before code bytes.now (plan_in s))
after before turns code s (Figures n) = s
after before turns code s (Write start size) =
    state s.machines s.jobs
    (with_space start size (write_bytes code s.machines s.jobs (space_at start size s.out)) s.out)

-- one call after the other
abbrev pub after_all : (Terms → Terms → Bool) → (ℕ → List ℕ → List ℕ) → ℕ → State → List Call → State
after_all before turns code s [] = s
after_all before turns code s (c ∷ cs) = after_all before turns code (after before turns code s c) cs

-- each answered from the state before it
abbrev pub answers_of : (Terms → Terms → Bool) → (ℕ → List ℕ → List ℕ) → ℕ → State → List Call → List Answer
answers_of before turns code s [] = []
answers_of before turns code s (c ∷ cs) = answer_of before turns code s c ∷ answers_of before turns code (after before turns code s c) cs

-- a list is begun unless the machine count is refused, or it has fewer places for answers than calls
abbrev pub begin_answer : ℕ → ℕ → ℕ → Result (Unit {0}) Refusal
begin_answer m calls places = cond (is_count m) (cond (nat_le calls places) (Ok tt) (Err Short)) (Err MachineCount)

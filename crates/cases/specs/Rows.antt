-- The kinds of rows, and when a row holds. All are under the deadline rule.
use Rattle.std.specs.Prelude.{◌≡◌, ℕ, Bool, true, false, cond, not, ◌&&◌, List, [], ◌∷◌, take, replicate, Some, None, Ok, Err, Option, Result, ◌==◌, nat_le}
use Rattle.terms.specs.declared.draft.Draft.{Draft}
use Rattle.terms.specs.declared.terms.Terms.{Terms}
use Rattle.terms.specs.Limits.{lawful}
use Rattle.terms.specs.Making.{terms_of}
use Rattle.precedence.specs.Deadlines.{deadline_before}
use Rattle.figures.specs.declared.copies.Role.{Role}
use Rattle.figures.specs.declared.copies.Role.TheVariants.{Primary, Standby}
use Rattle.rack.specs.declared.placement.Status.{Status}
use Rattle.rack.specs.declared.placement.Placement.{Placement}
use Rattle.rack.specs.Plan.{number, machine}
use Rattle.rack.specs.Day.{Day, due, work, Stop}
use Rattle.rack.specs.Run.{Run, worked}
use Rattle.rack.specs.Sets.{quiet_figure}
use Rattle.rack.specs.Test.{loss_figure, standby_figure, passes}
use Rattle.rack.specs.Played.{played}
use Rattle.terms.specs.declared.refusal.Refusal.{Refusal}
use Rattle.terms.specs.Refusals.{number_of}
use Rattle.orders.specs.Ascending.{ascending_turns}
use Rattle.first_fit.specs.Choices.{Choice}
use Rattle.planner.specs.Answers.{status_number, place_answer, pin_answer, withdraw_answer, open_answer}
use Rattle.planner.specs.Figures.{figures_answer}
use Rattle.planner.specs.Filed.{refused_with, adopt_answer, adopt_plan, write_answer, write_bytes}
use Rattle.pairs.specs.Pairs.{pair_machines}
use Rattle.filewriter.specs.Written.{file_length}
use Rattle.calls.specs.declared.call.Call.{Call}
use Rattle.calls.specs.Said.{Answer, refusal_number, values}
use Rattle.calls.specs.Calls.{fresh, answers_of}
use Rattle.cases.specs.Shortcuts.{short_passes, no_lateness_figure, strictly_before}

-- number, period, deadline, run, standby run, lateness
abbrev pub draft : ℕ → ℕ → ℕ → ℕ → ℕ → ℕ → Draft
draft n t d c s j = record { number = n; period = t; deadline = d; run = c; standby = s; lateness = j }

abbrev pub job : (n t d c s j : ℕ) → lawful (draft n t d c s j) ≡ true → Terms
job n t d c s j ok = terms_of (draft n t d c s j) ok

-- on a primary machine and a standby machine, with a status
abbrev pub on : Terms → ℕ → ℕ → Status → Placement
on t p b status = record { terms = t; primary = p; standby = b; status = status }

abbrev pub by_deadline : Terms → Terms → Bool
by_deadline a b = deadline_before (record {}) a b

-- a day of late releases and long runs, each at its limit
abbrev pub full_day : (ℕ → ℕ) → Day
full_day offset = record { offset = offset; lateness = λ n k role. 1000; running = λ n k role. 1000 }

-- which copy of a call-up finishes on time: the primary, only the standby, or none
pub data Server : Type 0 where
  by_primary : Server
  by_standby : Server
  by_nobody : Server

-- an answer as numbers: the refusal or 0, and what else is answered
abbrev pub place_told : Result Choice Refusal → ℕ × ℕ × ℕ × ℕ
place_told (Err e) = (number_of e, 0, 0, 0)
place_told (Ok c) = (0, c.0, c.1, status_number c.2)

abbrev pub done_told : Result (Unit {0}) Refusal → ℕ
done_told (Err e) = number_of e
done_told (Ok u) = 0

abbrev pub figures_told : Result (ℕ × ℕ × ℕ) Refusal → ℕ × ℕ × ℕ × ℕ
figures_told (Err e) = (number_of e, 0, 0, 0)
figures_told (Ok f) = (0, f.0, f.1, f.2)

abbrev pub same_four : ℕ × ℕ × ℕ × ℕ → ℕ × ℕ × ℕ × ℕ → Bool
same_four a b = a.0 == b.0 && (a.1 == b.1 && (a.2 == b.2 && a.3 == b.3))

-- the machines in ascending order
abbrev pub upwards : ℕ → List ℕ → List ℕ
upwards m loads = ascending_turns (record {}) m loads

-- the same numbers in the same sequence
abbrev pub same_list : List ℕ → List ℕ → Bool
same_list [] [] = true
same_list [] (y ∷ ys) = false
same_list (x ∷ xs) [] = false
same_list (x ∷ xs) (y ∷ ys) = x == y && same_list xs ys

abbrev pub same_lists : List (List ℕ) → List (List ℕ) → Bool
same_lists [] [] = true
same_lists [] (y ∷ ys) = false
same_lists (x ∷ xs) [] = false
same_lists (x ∷ xs) (y ∷ ys) = same_list x y && same_lists xs ys

-- an answer of a list: the number of its refusal or 0, and what else is answered
abbrev pub answer_told : Answer → List ℕ
answer_told a = refusal_number a ∷ values a

abbrev pub answers_told : List Answer → List (List ℕ)
answers_told [] = []
answers_told (a ∷ xs) = answer_told a ∷ answers_told xs

-- a space of so many bytes, each 7
abbrev pub sevens : ℕ → List ℕ
sevens n = replicate n 7

abbrev pub same_pair : Option (ℕ × ℕ) → Option (ℕ × ℕ) → Bool
same_pair None None = true
same_pair None (Some b) = false
same_pair (Some a) None = false
same_pair (Some a) (Some b) = a.0 == b.0 && a.1 == b.1

pub data Row : Type 0 where
  -- what write answers for these jobs into so many bytes
  writes : List Placement → ℕ → ℕ → Row
  -- and all bytes of a space of so many sevens afterwards
  writes_bytes : ℕ → List Placement → ℕ → List ℕ → Row
  -- what adopt answers to bytes
  adopts : List ℕ → ℕ → Row
  -- the file of the plan that stands after bytes were adopted in an empty plan of two machines
  adopts_as : List ℕ → List ℕ → Row
  -- the machines of a pair's number
  pair_is : ℕ → Option (ℕ × ℕ) → Row
  -- what a list of calls answers from an empty plan of so many machines on, with no output
  lists : ℕ → List Call → List (List ℕ) → Row
  -- what place answers on so many machines beside these jobs
  places : ℕ → List Placement → Draft → ℕ × ℕ × ℕ × ℕ → Row
  -- what pin answers to two machines and a status
  pins : ℕ → List Placement → Draft → ℕ → ℕ → ℕ → ℕ → Row
  -- what figures, withdraw and open answer
  figures_are : ℕ → List Placement → ℕ → ℕ × ℕ × ℕ × ℕ → Row
  withdraws : List Placement → ℕ → ℕ → Row
  opens : ℕ → ℕ → Row
  -- the draft is lawful, or it is not
  judged : Draft → Bool → Row
  -- the plan of so many machines passes, or it does not
  tested : ℕ → List Placement → Bool → Row
  -- the quiet figure of a job of the plan
  quiet_is : List Placement → Placement → Option ℕ → Row
  -- the figure of its primary when a machine stops
  lost_is : List Placement → Placement → ℕ → Option ℕ → Row
  -- the figure of its standby
  standby_is : List Placement → Placement → Option ℕ → Row
  -- what the shortcuts that miss a deadline would say
  tested_short : ℕ → List Placement → Bool → Row
  quiet_without_lateness : List Placement → Placement → Option ℕ → Row
  tested_no_ties : ℕ → List Placement → Bool → Row
  -- who serves a call-up of a job in the run of a day of so many machines
  served : ℕ → List Placement → Day → Stop → Placement → ℕ → Server → Row

abbrev pub same_bool : Bool → Bool → Bool
same_bool a b = cond a b (not b)

abbrev pub same_figure : Option ℕ → Option ℕ → Bool
same_figure None None = true
same_figure None (Some b) = false
same_figure (Some a) None = false
same_figure (Some a) (Some b) = a == b

abbrev pub on_time : Day → Run → Role → Placement → ℕ → Bool
on_time day run role p k =
    nat_le (work day role p.terms k) (worked run (machine role p) (number p) k (due day p.terms k))

abbrev pub serves : Server → Bool → Bool → Bool
serves by_primary primary standby = primary
serves by_standby primary standby = not primary && standby
serves by_nobody primary standby = not primary && not standby

-- the file of a plan, in a space of a hundred bytes
abbrev pub file_again : ℕ × List Placement → List ℕ
file_again plan = take (file_length plan.1) (write_bytes 1 plan.0 plan.1 (sevens 100))

abbrev pub holds : Row → Bool
holds (writes ps n answer) = refused_with (write_answer ps (sevens n)) == answer
holds (writes_bytes m ps n bytes) = same_list (write_bytes 1 m ps (sevens n)) bytes
holds (adopts bytes answer) = refused_with (adopt_answer by_deadline 1 bytes) == answer
holds (adopts_as bytes file) = same_list (file_again (adopt_plan by_deadline 1 bytes (2, []))) file
holds (pair_is q machines) = same_pair (pair_machines q) machines
holds (lists m calls answers) = same_lists (answers_told (answers_of by_deadline upwards 1 (fresh m []) calls)) answers
holds (places m ps d answer) = same_four (place_told (place_answer by_deadline upwards m ps d)) answer
holds (pins m ps d p b status answer) = done_told (pin_answer by_deadline m ps d p b status) == answer
holds (figures_are m ps n answer) = same_four (figures_told (figures_answer by_deadline m ps n)) answer
holds (withdraws ps n answer) = done_told (withdraw_answer ps n) == answer
holds (opens m answer) = done_told (open_answer m) == answer
holds (judged d answer) = same_bool (lawful d) answer
holds (tested m ps answer) = same_bool (passes by_deadline m ps) answer
holds (quiet_is ps p answer) = same_figure (quiet_figure by_deadline ps p) answer
holds (lost_is ps p f answer) = same_figure (loss_figure by_deadline ps p f) answer
holds (standby_is ps p answer) = same_figure (standby_figure by_deadline ps p) answer
holds (tested_short m ps answer) = same_bool (short_passes by_deadline m ps) answer
holds (quiet_without_lateness ps p answer) = same_figure (no_lateness_figure by_deadline ps p) answer
holds (tested_no_ties m ps answer) = same_bool (passes strictly_before m ps) answer
holds (served m ps day stop p k server) =
    serves server (on_time day (played by_deadline m ps day stop) Primary p k) (on_time day (played by_deadline m ps day stop) Standby p k)

-- What a plan answers to a call, as the answer of a list.
use Rattle.std.specs.Prelude.{ℕ, List, [], ◌∷◌, Ok, Err, Result}
use Rattle.terms.specs.declared.refusal.Refusal.{Refusal}
use Rattle.terms.specs.Refusals.{number_of}
use Rattle.planner.specs.Answers.{status_number}
use Rattle.first_fit.specs.Choices.{Choice}
use Rattle.calls.specs.declared.answer.Outcome.{Outcome}
use Rattle.calls.specs.declared.answer.Outcome.TheVariants.{Placed, Done, Figures, Written}

-- what a call did, or why it was refused
abbrev pub Answer : Type 0
Answer = Result Outcome Refusal

abbrev pub said_placed : Result Choice Refusal → Answer
said_placed (Ok c) = Ok (Placed c.0 c.1 c.2)
said_placed (Err e) = Err e

abbrev pub said_done : Result (Unit {0}) Refusal → Answer
said_done (Ok u) = Ok Done
said_done (Err e) = Err e

abbrev pub said_figures : Result (ℕ × ℕ × ℕ) Refusal → Answer
said_figures (Ok f) = Ok (Figures f.0 f.1 f.2)
said_figures (Err e) = Err e

abbrev pub said_written : Result ℕ Refusal → Answer
said_written (Ok n) = Ok (Written n)
said_written (Err e) = Err e

-- the number of the refusal, 0 where there is none
abbrev pub refusal_number : Answer → ℕ
refusal_number (Ok outcome) = 0
refusal_number (Err e) = number_of e

-- and what else is answered, as numbers
abbrev pub values : Answer → List ℕ
values (Ok (Placed p b status)) = p ∷ b ∷ status_number status ∷ []
values (Ok Done) = []
values (Ok (Figures quiet largest standby)) = quiet ∷ largest ∷ standby ∷ []
values (Ok (Written n)) = n ∷ []
values (Err e) = []

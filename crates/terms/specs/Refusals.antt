-- Each refusal's number.
use Rattle.std.specs.Prelude.{ℕ}
use Rattle.terms.specs.declared.refusal.Refusal.{Refusal}
use Rattle.terms.specs.declared.refusal.Refusal.TheVariants.{MachineCount, Limits, Known, Full, NoPlace, Unknown, Pin, NotAPlan, PlanFails, Short, Rehearsal, Line}

abbrev pub number_of : Refusal → ℕ
number_of MachineCount = 1
number_of Limits = 2
number_of Known = 3
number_of Full = 4
number_of NoPlace = 5
number_of Unknown = 6
number_of Pin = 7
number_of NotAPlan = 8
number_of PlanFails = 9
number_of Short = 10
number_of Rehearsal = 11
number_of Line = 12

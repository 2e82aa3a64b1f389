-- What each call answers, and the jobs of the plan after it.
use Rattle.std.specs.Prelude.{ℕ, Bool, cond, ◌&&◌, List, length, is_some, Some, None, Ok, Err, Option, Result, ◌==◌, nat_le, nat_lt}
use Rattle.terms.specs.declared.draft.Draft.{Draft}
use Rattle.terms.specs.declared.terms.Terms.{Terms}
use Rattle.terms.specs.declared.refusal.Refusal.{Refusal}
use Rattle.terms.specs.declared.refusal.Refusal.TheVariants.{MachineCount, Limits, Known, Full, NoPlace, Unknown, Pin}
use Rattle.terms.specs.Making.{drafted}
use Rattle.rack.specs.declared.placement.Status.{Status}
use Rattle.rack.specs.declared.placement.Status.TheVariants.{Passive, Active}
use Rattle.rack.specs.declared.placement.Placement.{Placement}
use Rattle.roster.specs.Changes.{find, with_job}
use Rattle.roster.specs.Rising.{placed}
use Rattle.roster.specs.Loads.{loads}
use Rattle.first_fit.specs.Choices.{Choice, placement_of, passes_beside, first_choice}

-- a status by its number: 0 passive, 1 active
abbrev pub status_number : Status → ℕ
status_number Passive = 0
status_number Active = 1

-- place and pin begin alike: 2 for a broken limit, 3 for a number that is planned, 4 where 96 jobs are planned
abbrev pub admitted_terms : List Placement → Option Terms → Result Terms Refusal
admitted_terms ps None = Err Limits
admitted_terms ps (Some t) = cond (is_some (find t.number ps)) (Err Known) (cond (nat_lt (length ps) 96) (Ok t) (Err Full))

abbrev pub admitted : List Placement → Draft → Result Terms Refusal
admitted ps d = admitted_terms ps (drafted d)

-- place: the first choice that passes, in the order's turns under the loads before the call
abbrev pub first_passing : (Terms → Terms → Bool) → (ℕ → List ℕ → List ℕ) → ℕ → List Placement → Terms → Option Choice
first_passing before turns m ps t =
    first_choice (passes_beside before m ps t) (turns m (loads ps)) (turns m (loads ps))

abbrev pub chosen : Option Choice → Result Choice Refusal
chosen None = Err NoPlace
chosen (Some c) = Ok c

-- the first choice that is tried with success for admitted terms, as an answer
abbrev pub tried_answer : (Terms → Option Choice) → Result Terms Refusal → Result Choice Refusal
tried_answer first (Err e) = Err e
tried_answer first (Ok t) = chosen (first t)

abbrev pub place_admitted : (Terms → Terms → Bool) → (ℕ → List ℕ → List ℕ) → ℕ → List Placement → Result Terms Refusal → Result Choice Refusal
place_admitted before turns m ps (Err e) = Err e
place_admitted before turns m ps (Ok t) = chosen (first_passing before turns m ps t)

abbrev pub place_answer : (Terms → Terms → Bool) → (ℕ → List ℕ → List ℕ) → ℕ → List Placement → Draft → Result Choice Refusal
place_answer before turns m ps d = place_admitted before turns m ps (admitted ps d)

-- the jobs after a placement was chosen for admitted terms
abbrev pub jobs_with : List Placement → Result Terms Refusal → Result Choice Refusal → List Placement
jobs_with ps (Err e) r = ps
jobs_with ps (Ok t) (Err e) = ps
jobs_with ps (Ok t) (Ok c) = with_job (placement_of t c.0 c.1 c.2) ps

abbrev pub place_jobs : (Terms → Terms → Bool) → (ℕ → List ℕ → List ℕ) → ℕ → List Placement → Draft → List Placement
place_jobs before turns m ps d = jobs_with ps (admitted ps d) (place_answer before turns m ps d)

-- pin: the one choice that is given, if it is one and passes
abbrev pub status_of : ℕ → Option Status
status_of n = cond (n == 0) (Some Passive) (cond (n == 1) (Some Active) None)

abbrev pub pinned : (Terms → Terms → Bool) → ℕ → List Placement → Terms → ℕ → ℕ → Option Status → Result Choice Refusal
pinned before m ps t p b None = Err Pin
pinned before m ps t p b (Some status) =
    cond (placed m (placement_of t p b status) && passes_beside before m ps t p status b) (Ok (p, b, status)) (Err Pin)

abbrev pub pin_admitted : (Terms → Terms → Bool) → ℕ → List Placement → ℕ → ℕ → ℕ → Result Terms Refusal → Result Choice Refusal
pin_admitted before m ps p b status (Err e) = Err e
pin_admitted before m ps p b status (Ok t) = pinned before m ps t p b (status_of status)

abbrev pub pin_choice : (Terms → Terms → Bool) → ℕ → List Placement → Draft → ℕ → ℕ → ℕ → Result Choice Refusal
pin_choice before m ps d p b status = pin_admitted before m ps p b status (admitted ps d)

-- pin answers nothing more than that it was done
abbrev pub done : Result Choice Refusal → Result (Unit {0}) Refusal
done (Err e) = Err e
done (Ok c) = Ok tt

abbrev pub pin_answer : (Terms → Terms → Bool) → ℕ → List Placement → Draft → ℕ → ℕ → ℕ → Result (Unit {0}) Refusal
pin_answer before m ps d p b status = done (pin_choice before m ps d p b status)

abbrev pub pin_jobs : (Terms → Terms → Bool) → ℕ → List Placement → Draft → ℕ → ℕ → ℕ → List Placement
pin_jobs before m ps d p b status = jobs_with ps (admitted ps d) (pin_choice before m ps d p b status)

-- withdraw: the same jobs but this one
abbrev pub withdraw_answer : List Placement → ℕ → Result (Unit {0}) Refusal
withdraw_answer ps n = cond (is_some (find n ps)) (Ok tt) (Err Unknown)

-- open: an empty plan of m machines
abbrev pub is_count : ℕ → Bool
is_count m = nat_le 2 m && nat_le m 16

abbrev pub open_answer : ℕ → Result (Unit {0}) Refusal
open_answer m = cond (is_count m) (Ok tt) (Err MachineCount)

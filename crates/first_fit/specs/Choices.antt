-- The choices for a job, in the sequence in which place tries them.
use Rattle.std.specs.Prelude.{ℕ, Bool, cond, not, ◌&&◌, List, [], ◌∷◌, Some, None, Option, ◌==◌}
use Rattle.terms.specs.declared.terms.Terms.{Terms}
use Rattle.rack.specs.declared.placement.Status.{Status}
use Rattle.rack.specs.declared.placement.Status.TheVariants.{Passive, Active}
use Rattle.rack.specs.declared.placement.Placement.{Placement}
use Rattle.rack.specs.Test.{passes}
use Rattle.roster.specs.Changes.{with_job}

-- the job on two machines with a status
abbrev pub placement_of : Terms → ℕ → ℕ → Status → Placement
placement_of t p b status = record { terms = t; primary = p; standby = b; status = status }

-- the choice passes beside the placements: the plan of these and the job so placed passes
abbrev pub passes_beside : (Terms → Terms → Bool) → ℕ → List Placement → Terms → ℕ → Status → ℕ → Bool
passes_beside before m ps t p status b = passes before m (with_job (placement_of t p b status) ps)

-- the first standby in turn, other than the primary, with which a test holds
abbrev pub first_standby : (ℕ → Bool) → ℕ → List ℕ → Option ℕ
first_standby test p [] = None
first_standby test p (b ∷ bs) = cond (not (b == p) && test b) (Some b) (first_standby test p bs)

-- primary, standby and status
abbrev pub Choice : Type 0
Choice = ℕ × ℕ × Status

-- a standby, if there is one, as a choice; else what comes next
abbrev pub chosen_or : ℕ → Status → Option ℕ → Option Choice → Option Choice
chosen_or p status (Some b) next = Some (p, b, status)
chosen_or p status None next = next

-- with one primary: status 0 with each standby in turn, then status 1
abbrev pub first_with : (Status → ℕ → Bool) → ℕ → List ℕ → Option Choice → Option Choice
first_with test p turns next =
    chosen_or p Passive (first_standby (test Passive) p turns) (chosen_or p Active (first_standby (test Active) p turns) next)

-- each primary in turn
abbrev pub first_choice : (ℕ → Status → ℕ → Bool) → List ℕ → List ℕ → Option Choice
first_choice test [] turns = None
first_choice test (p ∷ ps) turns = first_with (test p) p turns (first_choice test ps turns)

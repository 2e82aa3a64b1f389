-- What it means that a job is refused for want of machines.
use Rattle.std.specs.Prelude.{◌≡◌, ℕ, Bool, List, Ok, Err, Result}
use Rattle.terms.specs.declared.draft.Draft.{Draft}
use Rattle.terms.specs.declared.terms.Terms.{Terms}
use Rattle.terms.specs.declared.refusal.Refusal.{Refusal}
use Rattle.terms.specs.declared.refusal.Refusal.TheVariants.{NoPlace}
use Rattle.rack.specs.declared.placement.Status.{Status}
use Rattle.rack.specs.declared.placement.Placement.{Placement}
use Rattle.rack.specs.Plan.{In, Arranged, Placed}
use Rattle.rack.specs.Test.{Passes}
use Rattle.rack.specs.Fewer.{Part}
use Rattle.roster.specs.Changes.{with_job}
use Rattle.first_fit.specs.Choices.{Choice, placement_of}
use Rattle.planner.specs.Answers.{admitted}

-- a plan of these placements, the job so placed, and perhaps further ones of other jobs on the same machines
pub record Widened (m : ℕ) (ps : List Placement) (p : Placement) (wider : List Placement) : Type 0 where
  pub arranged : Arranged m wider
  pub keeps : Part ps wider
  pub has : In p wider

-- no choice of two different machines and a status passes beside the placements
abbrev pub NoChoice : (Terms → Terms → Bool) → ℕ → List Placement → Terms → Type 0
NoChoice before m ps t =
    (p b : ℕ) (status : Status) → Placed m (placement_of t p b status) →
    Passes before m (with_job (placement_of t p b status) ps) → ⊥

-- none passes beside these and any further placements either, however many, and whether or not they pass by themselves
abbrev pub NoneBesideMore : (Terms → Terms → Bool) → ℕ → List Placement → Terms → Type 0
NoneBesideMore before m ps t =
    (p b : ℕ) (status : Status) (wider : List Placement) → Widened m ps (placement_of t p b status) wider →
    Passes before m wider → ⊥

-- a job that is not refused with 2, 3 or 4 is refused with 5 exactly when no choice passes,
-- and then none passes beside any further placements either
abbrev pub PlaceMeans : (Terms → Terms → Bool) → ℕ → List Placement → Draft → Result Choice Refusal → Type 0
PlaceMeans before m ps d r =
    (t : Terms) → admitted ps d ≡ Ok t →
    (r ≡ Err NoPlace → NoChoice before m ps t × NoneBesideMore before m ps t) × (NoChoice before m ps t → r ≡ Err NoPlace)

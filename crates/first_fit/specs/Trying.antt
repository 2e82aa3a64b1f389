-- A choice as the code tries it: it may be put in, and the plan with it passes.
use Rattle.std.specs.Prelude.{ℕ, Bool, ◌&&◌, List, Some, None, Option}
use Rattle.terms.specs.declared.terms.Terms.{Terms}
use Rattle.rack.specs.declared.placement.Status.{Status}
use Rattle.rack.specs.declared.placement.Placement.{Placement}
use Rattle.rack.specs.Test.{passes}
use Rattle.roster.specs.Changes.{addable, with_job}
use Rattle.first_fit.specs.Choices.{Choice, placement_of, first_choice}

abbrev pub tried : (Terms → Terms → Bool) → ℕ → List Placement → Placement → Bool
tried before m ps p = addable m ps p && passes before m (with_job p ps)

abbrev pub tried_at : (Terms → Terms → Bool) → ℕ → List Placement → Terms → ℕ → Status → ℕ → Bool
tried_at before m ps t p status b = tried before m ps (placement_of t p b status)

-- the jobs after a standby was looked for
abbrev pub jobs_at : Terms → ℕ → Status → List Placement → Option ℕ → List Placement
jobs_at t p status ps None = ps
jobs_at t p status ps (Some b) = with_job (placement_of t p b status) ps

-- the jobs after a choice was looked for
abbrev pub choice_jobs : Terms → List Placement → Option Choice → List Placement
choice_jobs t ps None = ps
choice_jobs t ps (Some c) = with_job (placement_of t c.0 c.1 c.2) ps

-- the first choice in these turns that is tried with success
unfoldable pub tried_first : (Terms → Terms → Bool) → ℕ → List Placement → Terms → List ℕ → Option Choice
tried_first before m ps t turns = first_choice (tried_at before m ps t) turns turns

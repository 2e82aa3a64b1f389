-- A plan that passes keeps its promise on every day.
use Rattle.std.proofs.Common.{ℕ, Bool, List}
use Rattle.terms.specs.declared.terms.Terms.{Terms}
use Rattle.precedence.specs.Laws.{Laws}
use Rattle.rack.specs.declared.placement.Placement.{Placement}
use Rattle.rack.specs.Plan.{Arranged}
use Rattle.rack.specs.Test.{Passes}
use Rattle.rack.specs.Covered.{Covered}
use Rattle.rack.proofs.Covers.{served}
use Rattle.rack.proofs.Plays.{outcome}

pub covered : (before : Terms → Terms → Bool) → Laws before → (m : ℕ) (ps : List Placement) → Arranged m ps → Passes before m ps → Covered before m ps
covered before laws m ps arranged pass day stop within =
    let one = outcome before laws m ps arranged day stop in
    (one, λ p in_ps k. served before laws m ps arranged pass day stop within one.run one.keeps p in_ps k)

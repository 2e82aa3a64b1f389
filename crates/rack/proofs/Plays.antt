-- Each day has one run that keeps its rules: the computed one.
use Rattle.std.proofs.Common.{ℕ, Bool, List}
use Rattle.terms.specs.declared.terms.Terms.{Terms}
use Rattle.precedence.specs.Laws.{Laws}
use Rattle.rack.specs.declared.placement.Placement.{Placement}
use Rattle.rack.specs.Plan.{Arranged}
use Rattle.rack.specs.Day.{Day, Stop}
use Rattle.rack.specs.Played.{played}
use Rattle.rack.specs.Covered.{Outcome}
use Rattle.rack.proofs.Keeping.{played_keeps, the_run}

-- every day has exactly one run that keeps its rules
pub outcome :
    (before : Terms → Terms → Bool) → Laws before → (m : ℕ) (ps : List Placement) → Arranged m ps → (day : Day) (stop : Stop) →
    Outcome before ps day stop
outcome before laws m ps plan day stop = record {
  run = played before m ps day stop;
  keeps = played_keeps before laws m ps plan day stop;
  only = the_run before laws m ps plan day stop;
}

use Rattle.std.proofs.Common.{refl}
use Rattle.planfile.specs.Format.{draft_at}
use Rattle.planfile.specs.Jobs.{placement_of}
use Rattle.planfile.specs.Judging.{body_of}
use Rattle.rack.proofs.Keeping.{played_keeps, the_run}
use Rattle.cases.proofs.each_row_holds.Goals as goal

pub returns : goal.returns
unfolding body_of placement_of draft_at
returns c = record {
  worked = refl;
  filed = refl;
  run = λ before laws m ps plan day stop. (played_keeps before laws m ps plan day stop, the_run before laws m ps plan day stop);
}

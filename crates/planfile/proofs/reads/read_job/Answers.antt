use Rattle.std.proofs.Common.{rules}
use Rattle.planfile.specs.Format.{draft_at}
use Rattle.planfile.proofs.reads.read_job.Goals as goal

pub returns : goal.returns
unfolding draft_at
returns c = search rules

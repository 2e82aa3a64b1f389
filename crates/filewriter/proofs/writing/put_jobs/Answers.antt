use Rattle.std.proofs.Common.{arith}
use Rattle.filewriter.proofs.Overs.{over_more}
use Rattle.filewriter.proofs.writing.put_jobs.Goals as goal

pub loop-i-preserved : goal.loop-i-preserved
loop-i-preserved c =
    over_more c.args.placements.now c.loop-i.i c.index-placements-i.result c.loop-i.out c.args.out.now c.put.new.out c.job_bytes.result
    c.loop-i-test.true c.index-placements-i.is (omega arith) c.loop-i.invariant c.job_bytes.ensures c.put.ensures

use Rattle.std.proofs.Common.{◌≡◌, take}
use Rattle.filewriter.specs.Written.{jobs_of, over}
use Rattle.filewriter.proofs.writing.put_jobs.Given as goal

abbrev pub invariant-loop-i : goal.invariant-loop-i
invariant-loop-i l = l.out ≡ over 3 (jobs_of (take l.i l.placements)) l.initial.out

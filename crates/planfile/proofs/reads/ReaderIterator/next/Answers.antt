use Rattle.planfile.proofs.Records.{reads_back, reads_only}
use Rattle.planfile.proofs.reads.ReaderIterator.next.Goals as goal

pub returns-in_err-record-clause-format : goal.returns-in_err-record-clause-format
returns-in_err-record-clause-format c = (reads_back, reads_only)

pub returns-clause-format : goal.returns-clause-format
returns-clause-format c = (reads_back, reads_only)

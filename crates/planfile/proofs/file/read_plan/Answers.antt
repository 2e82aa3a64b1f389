use Rattle.planfile.proofs.Agrees.{agree}
use Rattle.planfile.proofs.file.read_plan.Goals as goal

pub returns-in_err-reserve-clause-agrees : goal.returns-in_err-reserve-clause-agrees
returns-in_err-reserve-clause-agrees c = agree

pub returns-then-is_none-clause-agrees : goal.returns-then-is_none-clause-agrees
returns-then-is_none-clause-agrees c = agree

pub returns-else-is_none-clause-agrees : goal.returns-else-is_none-clause-agrees
returns-else-is_none-clause-agrees c = agree

-- Each verdict's number.
use Rattle.std.specs.Prelude.{ℕ}
use Rattle.plantest.specs.declared.verdict.Verdict.{Verdict}
use Rattle.plantest.specs.declared.verdict.Verdict.TheVariants.{NoPlan, Fails, Passing}

abbrev pub verdict_number : Verdict → ℕ
verdict_number NoPlan = 0
verdict_number Fails = 1
verdict_number Passing = 2

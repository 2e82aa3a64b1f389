-- The number of a pair and the machines of a number undo each other.
use Rattle.pairs.specs.Pairs.{Inverse}
use Rattle.std.proofs.Common.{arith}
use Rattle.std.proofs.lemmas.Bool.Decides.{nat_tests}

pub inverse : Inverse
inverse q p b = (λ h. grind (arith, nat_tests), λ h. grind (arith, nat_tests))

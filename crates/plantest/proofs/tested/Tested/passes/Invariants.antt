use Rattle.std.proofs.Common.{◌≡◌, true}
use Rattle.rack.specs.Test.{all_below}
use Rattle.plantest.specs.Sweep.{machine_passes}
use Rattle.plantest.proofs.tested.Tested.passes.Given as goal

abbrev pub invariant-loop-g : goal.invariant-loop-g
invariant-loop-g g l = all_below l.g (machine_passes (g.R.Precedence.before l.fn.self.rule.now) l.fn.self.machines l.fn.self.placements.now) ≡ true

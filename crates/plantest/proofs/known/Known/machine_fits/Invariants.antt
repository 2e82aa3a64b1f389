use Rattle.std.proofs.Common.{◌≡◌, true}
use Rattle.rack.specs.Test.{all_below}
use Rattle.plantest.specs.Sweep.{lost_passes}
use Rattle.plantest.proofs.known.Known.machine_fits.Given as goal

abbrev pub invariant-loop-f : goal.invariant-loop-f
invariant-loop-f g l = all_below l.f (lost_passes (g.R.Precedence.before l.self.tested.now.rule.now) l.self.tested.now.placements.now l.g) ≡ true

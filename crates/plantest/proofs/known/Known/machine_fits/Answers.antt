use Rattle.std.proofs.Common.{sym}
use Rattle.rack.proofs.Tested.{all_below_part_false}
use Rattle.plantest.specs.Sweep.{lost_passes}
use Rattle.plantest.proofs.known.Known.machine_fits.Goals as goal

pub returns-then-not-lost_fits : goal.returns-then-not-lost_fits
returns-then-not-lost_fits g c =
    let plan = c.args.self.now.tested.now in
    let test = lost_passes (g.R.Precedence.before plan.rule.now) plan.placements.now c.args.g in
    sym (all_below_part_false test plan.machines c.loop-f.f c.loop-f-test.true (sym c.if-not-lost_fits.ensures))

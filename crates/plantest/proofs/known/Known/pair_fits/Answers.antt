use Rattle.std.proofs.Common.{◌∙◌}
use Rattle.plantest.proofs.Sweeps.{pair_is}
use Rattle.plantest.proofs.known.Known.pair_fits.Goals as goal

pub returns : goal.returns
returns g c =
    let known = c.args.self.now in
    let plan = known.tested.now in
    c.pair_fits_with.ensures ∙ pair_is (g.R.Precedence.before plan.rule.now) plan.placements.now known.lates.now c.args.g c.args.f known.right

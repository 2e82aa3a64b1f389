use Rattle.std.proofs.Common.{◌&&◌, length, vec_items, ap, ◌∙◌}
use Rattle.std.proofs.lemmas.Bool.{eq-eqb}
use Rattle.plantest.specs.Parts.{loss_with}
use Rattle.plantest.specs.Sweep.{all_fit}
use Rattle.plantest.proofs.Sweeps.{lates_long, pair_is}
use Rattle.first_fit.proofs.beside.Beside.pair_fits.Goals as goal

pub returns : goal.returns
returns g c =
    let here = c.args.self.now in
    let b = g.R.Precedence.before here.rule.now in
    let ps = vec_items here.roster.now.placements in
    let lates = here.lates.now in
    c.pair_passes.ensures
    ∙ ap (λ z. z && all_fit b (loss_with lates c.args.g c.args.f ps) c.args.g c.args.f lates ps) (eq-eqb (length lates) (length ps) (lates_long b ps lates here.right))
    ∙ pair_is b ps lates c.args.g c.args.f here.right

use Rattle.std.proofs.Common.{cond, ap, ◌∙◌}
use Rattle.figures.specs.declared.copies.Role.TheVariants.{Standby}
use Rattle.rack.specs.Plan.{active}
use Rattle.rack.specs.Sets.{copy_of, standby_copy}
use Rattle.plantest.specs.JobFigures.{shown}
use Rattle.plantest.proofs.Sweeps.{loss_found}
use Rattle.plantest.proofs.known.Known.standby_of.Goals as goal

pub returns : goal.returns
returns g c =
    let known = c.args.self.now in
    let b = g.R.Precedence.before known.tested.now.rule.now in
    let ps = known.tested.now.placements.now in
    let p = c.args.p.now in
    let copied = c.standby_copy.ensures ∙ ap (λ l. copy_of Standby p (cond (active p.status) p.terms.lateness l)) c.late_of-late.ensures in
    let found = loss_found b ps known.lates.now c.as_slice.result.now p.standby p.primary c.standby_copy.result (standby_copy b ps p) c.figure.result c.figure.ensures.value (c.as_slice.ensures ∙ c.gather_loss.ensures) known.right copied in
    c.unwrap_or.ensures ∙ ap shown found

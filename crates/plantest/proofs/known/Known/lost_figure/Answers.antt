use Rattle.std.proofs.Common.{eqb, sym, ap, ◌∙◌}
use Rattle.std.proofs.lemmas.Bool.{cond-false, ne_eqb}
use Rattle.rack.specs.Sets.{primary_copy}
use Rattle.rack.specs.Test.{loss_figure}
use Rattle.plantest.specs.JobFigures.{shown}
use Rattle.plantest.proofs.Sweeps.{loss_found}
use Rattle.plantest.proofs.known.Known.lost_figure.Goals as goal

pub returns : goal.returns
returns g c =
    let known = c.args.self.now in
    let b = g.R.Precedence.before known.tested.now.rule.now in
    let ps = known.tested.now.placements.now in
    let p = c.args.p.now in
    let f = c.args.f in
    let found = loss_found b ps known.lates.now c.as_slice.result.now p.primary f c.primary_copy.result (primary_copy p) c.figure.result c.figure.ensures.value (c.as_slice.ensures ∙ c.gather_loss.ensures) known.right c.primary_copy.ensures in
    c.unwrap_or.ensures ∙ ap shown found ∙ sym (cond-false (eqb f p.primary) 0 (shown (loss_figure b ps p f)) (ne_eqb f p.primary c.if-f-p.false))

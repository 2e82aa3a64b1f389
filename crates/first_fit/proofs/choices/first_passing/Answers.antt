use Rattle.std.proofs.Common.{vec_items, sym, ◌∙◌}
use Rattle.first_fit.proofs.Knows.{none_tried}
use Rattle.first_fit.proofs.choices.first_passing.Goals as goal

pub returns-in_err-known-clause-chosen : goal.returns-in_err-known-clause-chosen
returns-in_err-known-clause-chosen g c =
    let r = c.args.roster.now in
    c.from_residual.ensures
    ∙ sym (none_tried (g.R.Precedence.before c.args.rule.now) r.machines (vec_items r.placements) c.args.terms c.args.turns.now r.rising_numbers r.on_the_rack (sym c.in_err-known.ensures.test))

use Rattle.std.proofs.Common.{vec_items, sym}
use Rattle.first_fit.specs.Trying.{tried_at}
use Rattle.first_fit.proofs.Firsts.{first_other}
use Rattle.first_fit.proofs.search.Search.try_first.Goals as goal

pub returns-then-try_beside-clause-chosen : goal.returns-then-try_beside-clause-chosen
returns-then-try_beside-clause-chosen g c =
    let here = c.args.self.now in
    let r = c.args.roster.now in
    first_other (tried_at (g.R.Precedence.before here.rule.now) r.machines (vec_items r.placements) here.terms c.args.primary) c.args.primary here.turns.now
    c.in_ok-standby.standby (sym c.in_ok-standby.ensures) (sym c.if-try_beside.ensures.test)

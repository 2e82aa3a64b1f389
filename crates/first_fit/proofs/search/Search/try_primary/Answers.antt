use Rattle.std.proofs.Common.{vec_items, sym, refl}
use Rattle.first_fit.specs.Trying.{tried_at}
use Rattle.first_fit.proofs.Rooms.{none_with}
use Rattle.first_fit.proofs.search.Search.try_primary.Goals as goal

pub returns-then-not-has_room-clause-chosen : goal.returns-then-not-has_room-clause-chosen
returns-then-not-has_room-clause-chosen g c =
    let here = c.args.self.now in
    let r = c.args.roster.now in
    sym (none_with (tried_at (g.R.Precedence.before here.rule.now) r.machines (vec_items r.placements) here.terms c.args.primary) c.args.primary here.turns.now (c.if-not-has_room.ensures.none refl))

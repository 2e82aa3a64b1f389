use Rattle.std.proofs.Common.{◌<◌, length, vec_items, refl, ◌∙◌, arith}
use Rattle.first_fit.specs.Trying.{tried_at}
use Rattle.first_fit.proofs.Rooms.{goes_on}
use Rattle.first_fit.proofs.search.Search.first_room.Goals as goal

pub loop-i-preserved : goal.loop-i-preserved
loop-i-preserved g c =
    let l = c.loop-i in
    let r = c.args.roster.now in
    let here = c.args.self.now in
    let turns = here.turns.now in
    let test = tried_at (g.R.Precedence.before here.rule.now) r.machines (vec_items r.placements) here.terms in
    let lt : l.i < length turns = omega (arith, c.loop-i-test.true) in
    let none = rw (l.invariant.machines, l.invariant.jobs) at (c.if-has_room.ensures.none refl) in
    record {
      jobs = c.has_room.ensures.jobs ∙ l.invariant.jobs;
      machines = c.has_room.ensures.machines ∙ l.invariant.machines;
      rest = l.invariant.rest ∙ goes_on test turns turns l.i lt none;
    }

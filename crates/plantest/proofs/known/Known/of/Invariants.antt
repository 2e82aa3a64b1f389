use Rattle.std.proofs.Common.{◌≡◌, map, take, vec_items, vec_len}
use Rattle.rack.specs.Sets.{passive_late}
use Rattle.plantest.proofs.known.Known.of.Given as goal

abbrev pub invariant-loop-p : goal.invariant-loop-p
invariant-loop-p g l =
    (vec_items l.lates.held ≡ map (passive_late (g.R.Precedence.before l.tested.rule.now) l.tested.placements.now) (take l.p-index l.tested.placements.now))
    × (vec_len l.lates.held ≡ l.p-index)

use Rattle.std.proofs.Common.{◌≡◌, true, map, take, vec_items, vec_len}
use Rattle.rack.specs.Sets.{passive_late}
use Rattle.rack.specs.Test.{all_of}
use Rattle.plantest.specs.Sweep.{has_quiet}
use Rattle.plantest.proofs.known.Known.of_quiet.Given as goal

abbrev pub invariant-loop-p : goal.invariant-loop-p
invariant-loop-p g l =
    (all_of (has_quiet (g.R.Precedence.before l.tested.rule.now) l.tested.placements.now) (take l.p-index l.tested.placements.now) ≡ true)
    × (vec_items l.lates.held ≡ map (passive_late (g.R.Precedence.before l.tested.rule.now) l.tested.placements.now) (take l.p-index l.tested.placements.now))
    × (vec_len l.lates.held ≡ l.p-index)

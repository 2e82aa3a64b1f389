use Rattle.std.proofs.Common.{◌≡◌, ◌+◌, ◌≤◌, take}
use Rattle.figures.specs.Demand.{charge, all_held_off}
use Rattle.figures.proofs.windows.Held.demand_within.Given as goal

abbrev pub invariant-loop-copy : goal.invariant-loop-copy
invariant-loop-copy g l =
    (l.total ≡ charge l.self.own.now + all_held_off (g.R.Precedence.before l.self.rule.now) (take l.copy-index l.self.set.now) l.self.own.now l.x)
    × (l.total ≤ l.limit)

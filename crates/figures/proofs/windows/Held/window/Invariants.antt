use Rattle.std.proofs.Common.{◌+◌, ◌-◌, ◌≤◌}
use Rattle.figures.proofs.Climbs.{Below}
use Rattle.figures.proofs.windows.Held.window.Given as goal

-- x is at or below every window
abbrev pub invariant-loop-next : goal.invariant-loop-next
invariant-loop-next g l = record {
  below : Below (g.R.Precedence.before l.self.rule.now) l.self.set.now l.self.own.now l.x;
  short : l.x ≤ 1000000;
}

abbrev pub decreases-loop-next : goal.decreases-loop-next
decreases-loop-next g l = l.limit + 1 - l.x

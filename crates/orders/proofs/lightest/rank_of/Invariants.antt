use Rattle.std.proofs.Common.{◌≡◌, ◌≤◌}
use Rattle.orders.specs.Lightest.{rank}
use Rattle.orders.proofs.lightest.rank_of.Given as goal

abbrev pub invariant-loop-h : goal.invariant-loop-h
invariant-loop-h l = (l.before ≤ l.h) × (l.before ≡ rank l.loads l.g l.h)

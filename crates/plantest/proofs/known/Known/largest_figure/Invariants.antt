use Rattle.std.proofs.Common.{◌≡◌}
use Rattle.plantest.specs.JobFigures.{largest_lost}
use Rattle.plantest.proofs.known.Known.largest_figure.Given as goal

abbrev pub invariant-loop-f : goal.invariant-loop-f
invariant-loop-f g l = l.largest ≡ largest_lost (g.R.Precedence.before l.self.tested.now.rule.now) l.self.tested.now.placements.now l.p l.f

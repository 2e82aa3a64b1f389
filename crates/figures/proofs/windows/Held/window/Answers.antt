use Rattle.std.proofs.Common.{ℕ, arith}
use mathlib.Core.Path.{subst⁻¹}
use Rattle.figures.specs.Demand.{demand}
use Rattle.figures.proofs.Climbs.{Below, below_next}
use Rattle.figures.proofs.windows.Held.window.Goals as goal

pub loop-next-preserved : goal.loop-next-preserved
loop-next-preserved g c =
    let held = c.args.self.now in
    let b = g.R.Precedence.before held.rule.now in
    let x = c.loop-next.x in
    record {
      below = subst⁻¹ (λ (x : ℕ). Below b held.set.now held.own.now x) {y = demand b held.set.now held.own.now x} c.in_ok-next.ensures.0 (below_next b held.set.now held.own.now x c.loop-next.invariant.below);
      short = omega (arith, c.in_ok-next.ensures.1);
    }

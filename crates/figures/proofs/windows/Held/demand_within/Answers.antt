use Rattle.std.proofs.Common.{◌+◌, arith}
use Rattle.figures.proofs.Demands.{held_off_more, held_off_part}
use Rattle.figures.proofs.windows.Held.demand_within.Goals as goal

pub returns-then-total-limit-2 : goal.returns-then-total-limit-2
returns-then-total-limit-2 g c =
    let held = c.args.self.now in
    let b = g.R.Precedence.before held.rule.now in
    omega (
      arith,
      held_off_more b held.set.now held.own.now c.args.x c.loop-copy.copy-index c.copy-item.result c.loop-copy-test.true c.copy-item.is,
      held_off_part b held.set.now held.own.now c.args.x (c.loop-copy.copy-index + 1),
    )

pub loop-copy-preserved : goal.loop-copy-preserved
loop-copy-preserved g c =
    let held = c.args.self.now in
    let more = held_off_more (g.R.Precedence.before held.rule.now) held.set.now held.own.now c.args.x c.loop-copy.copy-index c.copy-item.result c.loop-copy-test.true c.copy-item.is in
    (omega (arith, more), omega arith)

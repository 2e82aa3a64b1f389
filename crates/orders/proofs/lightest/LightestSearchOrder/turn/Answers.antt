use Rattle.std.proofs.Common.{refl, sym}
use Rattle.orders.specs.ByLoad.{sorted}
use Rattle.orders.proofs.Places.{machine_found}
use Rattle.orders.proofs.lightest.LightestSearchOrder.turn.Goals as goal
use Rattle.orders.proofs.lightest.LightestSearchOrder.turn.Goals.{then-is_turn, else-is_turn}

pub returns-clause-tells : goal.returns-clause-tells
returns-clause-tells c =
    elim c.if-is_turn.branch [
      | then-is_turn w ↦
          let asked = sym w.if-is_turn.ensures in
          rw (c.unwrap_or.ensures, w.machine-is, w.machine_at-machine.ensures, machine_found c.args.loads.now c.args.count c.args.k asked, asked) refl
      | else-is_turn w ↦
          let asked = sym w.if-is_turn.ensures in
          rw (c.unwrap_or.ensures, w.machine-is, asked) refl
    ]

pub returns-clause-sorted : goal.returns-clause-sorted
returns-clause-sorted c = sorted c.args.loads.now c.args.count

use Rattle.std.proofs.Common.{◌≡◌, take}
use Rattle.calls.specs.Calls.{state_of}
use Rattle.calls.specs.Carrying.{AllCarried}
use Rattle.calls.proofs.carry.carry_all.Given as goal

abbrev pub invariant-loop-i : goal.invariant-loop-i
invariant-loop-i g l =
    let b = g.R.Precedence.before l.initial.plan.rule in
    let t = g.O.SearchOrder.turns l.initial.plan.order in
    let s = state_of l.initial.plan.roster l.initial.out in
    record {
      rule : l.plan.rule ≡ l.initial.plan.rule;
      order : l.plan.order ≡ l.initial.plan.order;
      carried : AllCarried b t g.R.Precedence.code s (take l.i l.calls) (take l.i l.answers) (state_of l.plan.roster l.out);
    }

use Rattle.std.proofs.Common.{◌<◌, length, refl, ◌∙◌, arith}
use Rattle.calls.proofs.More.{carried_on}
use Rattle.calls.proofs.Safes.{safe_so}
use Rattle.calls.proofs.carry.carry_all.Goals as goal

pub loop-i-init : goal.loop-i-init
loop-i-init g c =
    let plan = c.args.plan.now in
    record {
      rule = refl;
      order = refl;
      carried = record { answered = refl; ended = refl; holds = safe_so _ (g.met.R.Precedence.orders plan.rule) plan.roster plan.passing };
    }

pub loop-i-preserved : goal.loop-i-preserved
loop-i-preserved g c =
    let l = c.loop-i in
    let own = c.carry_one.ensures in
    let one = rw (l.invariant.rule, l.invariant.order) at own in
    let next = c.carry_one.new.plan in
    let lt : l.i < length c.args.calls.now = omega arith in
    let room : l.i < length l.answers = omega arith in
    let rule = own.same.0 ∙ l.invariant.rule in
    let safe = rw rule at (safe_so _ (g.met.R.Precedence.orders next.rule) next.roster next.passing) in
    record {
      rule = rule;
      order = own.same.1 ∙ l.invariant.order;
      carried = carried_on _ _ _ _ _ l.answers l.i _ c.carry_one.result _ _ lt room l.invariant.carried one.answered one.ended one.right safe;
    }

use Rattle.std.proofs.Common.{ℕ, ◌≤◌, List, length, vec_items, Result, sym, subst, arith}
use Rattle.terms.specs.declared.refusal.Refusal.{Refusal}
use Rattle.planner.specs.Filed.{TakenBack, write_answer}
use Rattle.planner.proofs.Taking.{taken_back}
use Rattle.planner.proofs.plan.Plan.write.Goals as goal

pub returns-clause-taken_back : goal.returns-clause-taken_back
returns-clause-taken_back g c =
    let b = g.R.Precedence.before c.args.self.now.rule in
    let code = g.R.Precedence.code in
    let r = c.args.self.now.roster in
    let m = r.machines in
    let ps = vec_items r.placements in
    let space = c.args.out.now in
    let own = c.write_file.ensures in
    let few : length ps ≤ 96 = omega (arith, r.few, r.placements.ok.0) in
    subst (λ (a : Result ℕ Refusal). TakenBack b code m ps a c.write_file.new.out) (sym own.answer)
    (subst (λ (xs : List ℕ). TakenBack b code m ps (write_answer ps space) xs) (sym own.bytes)
    (taken_back b code m ps own.code r.sized.0 r.sized.1 few r.rising_numbers r.on_the_rack space))

use Rattle.std.proofs.Common.{rules, ◌≡◌, ℕ, true, ◌++◌, length, take, drop, vec_items, sym, ap, ◌∙◌}
use Rattle.std.proofs.Math.Seq.{take-append_seam}
use Rattle.planner.specs.Answers.{is_count}
use Rattle.calls.specs.Calls.{state_of, fresh}
use Rattle.calls.proofs.Promised.{opened_fresh, promised}
use Rattle.calls.proofs.carry.carry_out.Goals as goal

pub returns-clause-promise : goal.returns-clause-promise
returns-clause-promise g c =
    let m = c.args.machines in
    let out = c.args.out.now in
    let cs = c.args.calls.now in
    let own = c.open.ensures in
    let plan = c.open.new.self in
    let old = c.args.plan.now.roster in
    let answers = c.carry_all.new.answers in
    let count : is_count m ≡ true = search rules in
    let es : state_of plan.roster out ≡ fresh m out =
    opened_fresh m plan.roster.machines old.machines (vec_items plan.roster.placements) (vec_items old.placements) out count own.machines own.jobs in
    let all = rw (own.same.0, own.same.1, es) at c.carry_all.ensures.carried in
    let long : length answers ≡ length cs = search rules in
    let told : take (length cs) (answers ++ drop (length cs) c.args.answers.now) ≡ answers = ap (λ (n : ℕ). take n (answers ++ drop (length cs) c.args.answers.now)) (sym long) ∙ take-append_seam answers (drop (length cs) c.args.answers.now) in
    rw told (promised _ _ _ m out cs answers _ all)

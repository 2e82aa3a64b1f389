use Rattle.std.proofs.Common.{◌≡◌, true, false}
use Rattle.std.proofs.lemmas.Bool.{both_ways}
use Rattle.rack.specs.Test.{passes}
use Rattle.rack.proofs.Plays.{outcome}
use Rattle.rack.proofs.Promise.{covered}
use Rattle.rack.proofs.Parts.{fewer_pass}
use Rattle.rack.proofs.Tested.{passes_means, passes_true}
use Rattle.plantest.specs.PlanTest.{is_plan}
use Rattle.plantest.proofs.Listings.{plan_means}
use Rattle.plantest.proofs.check.judge.Goals as goal

pub returns-in-Some : goal.returns-in-Some
returns-in-Some g c =
    let b = g.R.Precedence.before c.args.rule.now in
    let m = c.args.machines in
    let ps = c.args.placements.now in
    let given = c.in-Some.ensures in
    let tested = c.in-Some.plan.is_plan in
    let passed = c.if-passes.ensures in
    let is_one : is_plan m ps ≡ true = cc in
    let passing : passes b m ps ≡ true = cc in
    let plan = plan_means m ps is_one in
    let pass = passes_means b m ps passing in
    record {
      plan = plan;
      passes = pass;
      covered = covered b (g.met.R.Precedence.orders c.args.rule.now) m ps plan.arranged pass;
      fewer = fewer_pass b m ps pass;
    }

pub returns-in-Some-2 : goal.returns-in-Some-2
returns-in-Some-2 g c =
    let b = g.R.Precedence.before c.args.rule.now in
    let m = c.args.machines in
    let ps = c.args.placements.now in
    let given = c.in-Some.ensures in
    let tested = c.in-Some.plan.is_plan in
    let failed = c.if-passes.ensures in
    let is_one : is_plan m ps ≡ true = cc in
    let fails : passes b m ps ≡ false = cc in
    let plan = plan_means m ps is_one in (
      plan,
      λ pass. both_ways _ fails (passes_true b m ps pass),
      outcome b (g.met.R.Precedence.orders c.args.rule.now) m ps plan.arranged,
    )

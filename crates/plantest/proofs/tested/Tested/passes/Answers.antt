use Rattle.std.proofs.Common.{◌≡◌, false, sym, ap, ◌∙◌, arith}
use Rattle.rack.specs.Test.{all_below}
use Rattle.plantest.specs.Sweep.{machine_passes}
use Rattle.plantest.proofs.Listings.{plan_means}
use Rattle.plantest.proofs.Sweeps.{quiet_fails, machine_fails, all_swept}
use Rattle.plantest.proofs.tested.Tested.passes.Goals as goal

pub returns-in_default : goal.returns-in_default
returns-in_default g c =
    let plan = c.args.self.now in
    let ps = plan.placements.now in
    let arranged = (plan_means plan.machines ps plan.is_plan).arranged in
    sym (quiet_fails (g.R.Precedence.before plan.rule.now) plan.machines ps arranged c.in_default.ensures)

pub returns-then-not-machine_fits : goal.returns-then-not-machine_fits
returns-then-not-machine_fits g c =
    let plan = c.args.self.now in
    let ps = plan.placements.now in
    let b = g.R.Precedence.before plan.rule.now in
    let arranged = (plan_means plan.machines ps plan.is_plan).arranged in
    let same = c.in-Some.ensures.0 in
    let fails : machine_passes b plan.machines ps c.loop-g.g ≡ false = ap (λ t. machine_passes (g.R.Precedence.before t.rule.now) t.machines t.placements.now c.loop-g.g) (sym same) ∙ sym c.if-not-machine_fits.ensures in
    sym (machine_fails b plan.machines ps arranged c.loop-g.g c.loop-g-test.true fails)

pub returns : goal.returns
returns g c =
    let plan = c.args.self.now in
    let ps = plan.placements.now in
    let b = g.R.Precedence.before plan.rule.now in
    let arranged = (plan_means plan.machines ps plan.is_plan).arranged in
    let end : c.loop-g.g ≡ plan.machines = omega arith in
    sym (all_swept b plan.machines ps arranged c.in-Some.ensures.1 (ap (λ k. all_below k (machine_passes b plan.machines ps)) (sym end) ∙ c.loop-g.invariant))

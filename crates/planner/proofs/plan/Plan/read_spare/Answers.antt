use Rattle.std.proofs.Common.{vec_items, ap, ◌∙◌}
use Rattle.std.proofs.lemmas.Bool.{both_ways}
use Rattle.planfile.specs.Judging.{with_placements}
use Rattle.planner.proofs.Adopts.{held_holdable}
use Rattle.planner.proofs.plan.Plan.read_spare.Goals as goal

-- what was read may be held, so that it is taken over
pub returns-else-take_over-clause-held : goal.returns-else-take_over-clause-held
returns-else-take_over-clause-held g c =
    let ps = vec_items c.read_plan.new.out in
    let read = c.in-Ok-Some.ensures in
    let held = read.plan ∙ ap (λ o. with_placements o ps) c.in-Ok-Some.field-0-is in
    absurd
    (both_ways c.take_over.result c.if-take_over.false
    (c.take_over.ensures.test read.roomy ∙ held_holdable c.its_code.result c.args.bytes.now c.in-Ok-Some.machines ps held))

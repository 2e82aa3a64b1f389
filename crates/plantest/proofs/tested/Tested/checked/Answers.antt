use Rattle.std.proofs.Common.{sym}
use Rattle.std.proofs.lemmas.Bool.{both_ways}
use Rattle.plantest.proofs.Listings.{plan_true}
use Rattle.plantest.proofs.tested.Tested.checked.Goals as goal

pub returns-then-not-is_plan_of : goal.returns-then-not-is_plan_of
returns-then-not-is_plan_of g c =
    λ plan. both_ways _ (sym c.if-not-is_plan_of.ensures) (plan_true c.args.machines c.args.placements.now plan)

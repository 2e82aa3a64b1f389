use Rattle.std.proofs.Common.{◌≡◌, ◌≤◌, true, ℕ, List, length, vec_items, sym, ap, subst₂, arith}
use Rattle.rack.specs.declared.placement.Placement.{Placement}
use Rattle.plantest.specs.PlanTest.{is_plan}
use Rattle.plantest.proofs.Listings.{roster_plan}
use Rattle.plantest.proofs.tested.Tested.of.Goals as goal

pub invariant_of-result-clause-few : goal.invariant_of-result-clause-few
invariant_of-result-clause-few g c =
    let r = c.args.roster.now in
    omega (arith, ap length c.placements.ensures, r.placements.ok.0, r.few)

pub invariant_of-result-clause-is_plan : goal.invariant_of-result-clause-is_plan
invariant_of-result-clause-is_plan g c =
    let r = c.args.roster.now in
    let few : length (vec_items r.placements) ≤ 96 = omega (arith, r.placements.ok.0, r.few) in
    subst₂ (λ (m : ℕ) (ps : List Placement). is_plan m ps ≡ true) (sym c.machines.ensures) (sym c.placements.ensures) (roster_plan r.machines (vec_items r.placements) r.sized.0 r.sized.1 few r.rising_numbers r.on_the_rack)

use Rattle.std.proofs.Common.{vec_items, ap, ◌∙◌}
use Rattle.rack.specs.Test.{passes}
use Rattle.rack.proofs.Tested.{passes_means, passes_true}
use Rattle.planner.proofs.Choosing.{keeps_without}
use Rattle.planner.proofs.plan.Plan.withdraw.Goals as goal

pub invariant_of-self : goal.invariant_of-self
invariant_of-self g c =
    let self = c.args.self.now in
    let r = self.roster in
    let b = g.R.Precedence.before self.rule in
    let ps = vec_items r.placements in
    let out = c.take_out.ensures in
    let pass = keeps_without b r.machines c.args.number ps _ r.rising_numbers out.jobs (passes_means b r.machines ps self.passing) in
    record { passing = ap (λ n. passes b n (vec_items c.take_out.new.roster.placements)) out.machines ∙ passes_true b r.machines _ pass }

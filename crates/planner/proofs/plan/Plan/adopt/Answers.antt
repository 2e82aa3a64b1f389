use Rattle.std.proofs.Common.{vec_items}
use Rattle.planner.proofs.Taking.{adopt_means, all_bytes}
use Rattle.planner.proofs.plan.Plan.adopt.Goals as goal

pub returns-clause-means : goal.returns-clause-means
returns-clause-means g c =
    let xs = c.args.bytes.now in
    adopt_means (g.R.Precedence.before c.args.self.now.rule) g.R.Precedence.code xs (all_bytes xs c.type_inv.bytes) c.take_file.result
    (c.args.self.now.roster.machines, vec_items c.args.self.now.roster.placements)
    (c.take_file.new.self.roster.machines, vec_items c.take_file.new.self.roster.placements)
    c.take_file.ensures.answer c.take_file.ensures.plan

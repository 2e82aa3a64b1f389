use Rattle.std.proofs.Common.{◌≡◌}
use Rattle.rack.specs.Sets.{quiet_figure}
use Rattle.rack.specs.Test.{standby_figure}
use Rattle.plantest.specs.JobFigures.{largest_lost, shown}
use Rattle.plantest.proofs.answering.job_figures.Goals as goal

pub returns : goal.returns
returns g c =
    let b = g.R.Precedence.before c.args.rule.now in
    let ps = c.args.roster.now.placements.items in
    let p = c.args.p.now in
    let rule = c.of-plan.ensures.rule in
    let machines = c.of-plan.ensures.machines in
    let placements = c.of-plan.ensures.placements in
    let same = c.of-known.ensures in
    let found = c.quiet_of.ensures in
    let or_none = c.unwrap_or-quiet.ensures in
    let most = c.largest_figure.ensures in
    let at_standby = c.standby_of.ensures in
    let quiet : c.unwrap_or-quiet.result ≡ shown (quiet_figure b ps p) = cc in
    let largest : c.largest_figure.result ≡ largest_lost b ps p c.args.roster.now.machines = cc in
    let standby : c.standby_of.result ≡ shown (standby_figure b ps p) = cc in
    cc

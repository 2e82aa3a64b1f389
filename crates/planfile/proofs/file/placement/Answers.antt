use Rattle.planfile.proofs.Places.{placed_as}
use Rattle.planfile.proofs.file.placement.Goals as goal

pub returns : goal.returns
returns c =
    let job = c.args.job in
    placed_as c.args.m job.draft job.pair job.status c.place.result c.place.ensures.test c.place.ensures.stands

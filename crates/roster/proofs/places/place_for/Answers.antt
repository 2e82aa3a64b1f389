use Rattle.roster.proofs.Ordered.{orderly_with_job}
use Rattle.roster.proofs.places.place_for.Goals as goal

pub returns-clause-keeps : goal.returns-clause-keeps
returns-clause-keeps c = λ m may is. orderly_with_job m c.args.p.now c.args.placements.now may is

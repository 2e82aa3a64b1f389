use Rattle.roster.proofs.Ordered.{orderly_without}
use Rattle.roster.proofs.places.place_of.Goals as goal

pub returns-clause-keeps : goal.returns-clause-keeps
returns-clause-keeps c = λ m is. orderly_without m c.args.number c.args.placements.now is

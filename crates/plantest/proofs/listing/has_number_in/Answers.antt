use Rattle.std.proofs.Common.{rules, eqb, ◌∙◌}
use Rattle.std.proofs.lemmas.Iterator.{YieldsList-from_slice}
use Rattle.std.proofs.lemmas.Iterator.Search.{any_from_yields_List}
use Rattle.rack.specs.Plan.{number}
use Rattle.plantest.proofs.Listings.{any_has_number}
use Rattle.plantest.proofs.listing.has_number_in.Goals as goal

pub returns : goal.returns
returns c =
    any_from_yields_List (λ p. eqb (number p) c.args.number) _ _ c.any.result c.any.ensures.ran (YieldsList-from_slice c.args.placements.now cc) (λ x b q k. search (rules, k))
    ∙ any_has_number c.args.number c.args.placements.now

use Rattle.std.proofs.Common.{rules, tests}
use Rattle.roster.specs.Loads.{load}
use Rattle.roster.proofs.Filled.{from_fn_is}
use Rattle.roster.proofs.roster.Roster.loads.Goals as goal

pub returns : goal.returns
returns c =
    from_fn_is _ _ (λ g. load g c.args.self.now.placements.items) (λ i y q k. search (rules, tests)) c.from_fn.result 16 c.from_fn.ensures.items

use Rattle.std.specs.Prelude.{◌≡◌, position, ◌==◌}
use Rattle.std.proofs.Common.{rules, tests}
use Rattle.std.proofs.lemmas.Iterator.{YieldsList-from_slice}
use Rattle.std.proofs.lemmas.Iterator.Search.{position_from_yields_List}
use Rattle.precedence.proofs.Mentions.{position_or_length}
use Rattle.precedence.proofs.ranking.index_of.Goals as goal

pub returns : goal.returns
returns c =
    let list = c.args.list.now in
    let n = c.args.number in
    let found : c.position-mention.result ≡ position (λ x. x == n) list =
    position_from_yields_List (λ x. x == n) _ _ c.position-mention.result c.position-mention.ensures.ran (YieldsList-from_slice list (cc)) (λ x b q k. search (rules, tests)) in
    let first = position_or_length list n in
    cc

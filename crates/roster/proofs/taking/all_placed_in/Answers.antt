use Rattle.std.proofs.Common.{◌&&◌, rules, tests, refl, ◌∙◌}
use Rattle.std.specs.List.{list_all}
use Rattle.std.proofs.lemmas.Iterator.{YieldsList-from_slice}
use Rattle.std.proofs.lemmas.Iterator.Search.{all_from_yields_List}
use Rattle.std.proofs.lemmas.List.Recursion.{same_from_clauses}
use Rattle.roster.specs.Rising.{placed, all_placed}
use Rattle.roster.proofs.taking.all_placed_in.Goals as goal

pub returns : goal.returns
returns c =
    let ps = c.args.placements.now in
    let test = placed c.args.machines in
    all_from_yields_List test _ _ _ c.all.ensures.ran (YieldsList-from_slice ps cc) (λ x b q k. search (rules, tests))
    ∙ same_from_clauses (list_all test) (all_placed c.args.machines) (λ p rest. test p && rest) refl (λ _ _. refl) (λ _ _. refl) ps

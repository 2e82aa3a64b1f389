use Rattle.std.proofs.Common.{rules, tests}
use Rattle.std.proofs.lemmas.List.Sorted.{answers_always}
use Rattle.roster.proofs.Climb.{climbs, rising_answer}
use Rattle.roster.proofs.taking.rises.Goals as goal

pub returns : goal.returns
returns c =
    rising_answer c.args.placements.now c.is_sorted_by.result
    (c.is_sorted_by.ensures.cases climbs (answers_always _ _ _ (λ f a r g k. search (rules, tests))))

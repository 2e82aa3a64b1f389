use Rattle.std.proofs.Common.{vec_items, sym, ap, ◌∙◌}
use Rattle.terms.proofs.Alike.{drafted_some}
use Rattle.planner.specs.Answers.{admitted_terms}
use Rattle.planner.proofs.admit.admit.Goals as goal

pub returns : goal.returns
returns c =
    c.admit_terms.ensures
    ∙ ap (admitted_terms (vec_items c.args.roster.now.placements)) (sym (drafted_some c.args.draft c.in_ok-terms.terms (sym c.in_ok-terms.ensures.test) c.in_ok-terms.ensures.cases.1))

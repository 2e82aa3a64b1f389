use Rattle.std.proofs.Common.{vec_items, refl, sym, ap, ◌∙◌}
use Rattle.terms.specs.Making.{drafted}
use Rattle.roster.specs.Loads.{loads}
use Rattle.first_fit.specs.Trying.{tried_first}
use Rattle.planner.specs.Answers.{admitted, chosen, jobs_with, tried_answer}
use Rattle.planner.proofs.Choosing.{admitted_free, chosen_refused, tried_same, tried_told, no_choice, no_first, none_beside_more}
use Rattle.planner.proofs.plan.Plan.place.Goals as goal

pub returns : goal.returns
returns g c =
    let b = g.R.Precedence.before c.args.self.now.rule in
    let turns = g.O.SearchOrder.turns c.args.self.now.order in
    let r = c.args.self.now.roster in
    let m = r.machines in
    let ps = vec_items r.placements in
    let d = c.args.draft in
    let order = turns m (loads ps) in
    let each = g.met.O.SearchOrder.permutes c.args.self.now.order m (loads ps) r.sized.0 r.sized.1 refl in
    let own = c.try_draft.ensures in
    let answer = own.answer ∙ tried_told b turns m ps (drafted d) (admitted ps d) each refl in
    record {
      answer = answer;
      jobs = own.jobs ∙ ap (jobs_with ps (admitted ps d)) answer;
      same = own.same;
      means = λ t is.
          let free = admitted_free ps (drafted d) t (sym is) in
          let told =
          own.answer ∙ ap (tried_answer (λ u. tried_first b m ps u order)) is
          ∙ ap chosen (tried_same b m ps t free.0 free.1 order each) in (
            (λ refused.
                let none = no_choice b m ps t free.0 free.1 order each (chosen_refused _ (sym told ∙ refused)) in
                (none, none_beside_more b m ps t free.0 free.1 r.rising_numbers none)),
            (λ none. told ∙ ap chosen (no_first b m ps t free.0 free.1 order each none)),
          );
    }

use Rattle.std.proofs.Common.{◌≡◌, drop, vec_items}
use Rattle.first_fit.specs.Choices.{first_choice}
use Rattle.first_fit.specs.Trying.{tried_at}
use Rattle.first_fit.proofs.search.Search.try_primaries.Given as goal

abbrev pub invariant-loop-primary : goal.invariant-loop-primary
invariant-loop-primary g l =
    let test = tried_at (g.R.Precedence.before l.self.rule.now) l.initial.roster.machines (vec_items l.initial.roster.placements) l.self.terms in
    record {
      jobs : vec_items l.roster.placements ≡ vec_items l.initial.roster.placements;
      machines : l.roster.machines ≡ l.initial.roster.machines;
      rest : first_choice test l.primaries l.self.turns.now ≡ first_choice test (drop l.primary-index l.primaries) l.self.turns.now;
    }

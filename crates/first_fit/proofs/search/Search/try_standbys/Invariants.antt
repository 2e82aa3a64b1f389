use Rattle.std.proofs.Common.{◌≡◌, drop, vec_items}
use Rattle.first_fit.specs.Choices.{first_standby}
use Rattle.first_fit.specs.Trying.{tried_at}
use Rattle.first_fit.proofs.search.Search.try_standbys.Given as goal

abbrev pub invariant-loop-standby : goal.invariant-loop-standby
invariant-loop-standby g l =
    let first = first_standby (tried_at (g.R.Precedence.before l.self.rule.now) l.initial.roster.machines (vec_items l.initial.roster.placements) l.self.terms l.primary l.status) l.primary in
    record {
      jobs : vec_items l.roster.placements ≡ vec_items l.initial.roster.placements;
      machines : l.roster.machines ≡ l.initial.roster.machines;
      rest : first l.self.turns.now ≡ first (drop l.standby-index l.self.turns.now);
    }

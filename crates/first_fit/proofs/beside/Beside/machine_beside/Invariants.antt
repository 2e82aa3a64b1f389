use Rattle.std.proofs.Common.{◌≡◌, true, vec_items}
use Rattle.rack.specs.Test.{all_below}
use Rattle.first_fit.specs.Beside.{pair_beside}
use Rattle.first_fit.proofs.beside.Beside.machine_beside.Given as goal

abbrev pub invariant-loop-f : goal.invariant-loop-f
invariant-loop-f g l =
    all_below l.f (pair_beside (g.R.Precedence.before l.self.rule.now) l.self.x.now (vec_items l.self.roster.now.placements) l.g) ≡ true

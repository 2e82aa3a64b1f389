use Rattle.std.proofs.Common.{◌≡◌, true, vec_items}
use Rattle.rack.specs.Test.{all_below}
use Rattle.first_fit.specs.Beside.{machine_beside}
use Rattle.first_fit.proofs.beside.Beside.pairs_pass.Given as goal

abbrev pub invariant-loop-g : goal.invariant-loop-g
invariant-loop-g g l =
    all_below l.g (machine_beside (g.R.Precedence.before l.self.rule.now) l.self.roster.now.machines l.self.x.now (vec_items l.self.roster.now.placements)) ≡ true

use Rattle.std.proofs.Common.{◌≡◌, true, take, vec_items}
use Rattle.rack.specs.Test.{all_of}
use Rattle.first_fit.specs.Room.{quiet_on}
use Rattle.first_fit.proofs.search.Search.all_quiet_on.Given as goal

abbrev pub invariant-loop-p : goal.invariant-loop-p
invariant-loop-p g l =
    all_of (quiet_on (g.R.Precedence.before l.self.rule.now) (vec_items l.roster.placements) l.g) (take l.p-index (vec_items l.roster.placements)) ≡ true

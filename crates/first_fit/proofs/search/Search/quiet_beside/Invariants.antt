use Rattle.std.proofs.Common.{◌≡◌, true, map, length, take, vec_items, vec_len}
use Rattle.rack.specs.Sets.{passive_late}
use Rattle.rack.specs.Test.{all_of}
use Rattle.plantest.specs.Sweep.{has_quiet}
use Rattle.first_fit.proofs.search.Search.quiet_beside.Given as goal

abbrev pub invariant-loop-i : goal.invariant-loop-i
invariant-loop-i g l =
    record {
      quiet : all_of (has_quiet (g.R.Precedence.before l.self.rule.now) (vec_items l.roster.placements)) (take l.i (vec_items l.roster.placements)) ≡ true;
      figures : vec_items l.lates.held ≡ map (passive_late (g.R.Precedence.before l.self.rule.now) (vec_items l.roster.placements)) (take l.i (vec_items l.roster.placements));
      len : vec_len l.lates.held ≡ l.i;
    }

use Rattle.std.proofs.Common.{◌≡◌, map, take, vec_items, vec_len}
use Rattle.rack.specs.Sets.{passive_late}
use Rattle.first_fit.proofs.knowing.all_lates.Given as goal

abbrev pub invariant-loop-p : goal.invariant-loop-p
invariant-loop-p g l =
    record {
      figures : vec_items l.known.held ≡ map (passive_late (g.R.Precedence.before l.rule) (vec_items l.roster.placements)) (take l.p-index (vec_items l.roster.placements));
      len : vec_len l.known.held ≡ l.p-index;
    }

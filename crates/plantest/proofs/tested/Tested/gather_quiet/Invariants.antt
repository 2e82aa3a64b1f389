use Rattle.std.proofs.Common.{◌≡◌, ◌≤◌, ◌++◌, drop, vec_items, vec_len}
use Rattle.rack.specs.Sets.{quiet}
use Rattle.plantest.proofs.tested.Tested.gather_quiet.Given as goal

abbrev pub invariant-loop-p : goal.invariant-loop-p
invariant-loop-p g l =
    (quiet l.g l.self.placements.now ≡ vec_items l.copies.held ++ quiet l.g (drop l.p-index l.self.placements.now))
    × (vec_len l.copies.held ≤ l.p-index)

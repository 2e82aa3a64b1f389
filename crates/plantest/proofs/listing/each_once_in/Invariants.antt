use Rattle.std.proofs.Common.{◌≡◌, length}
use Rattle.plantest.specs.PlanTest.{each_once}
use Rattle.plantest.proofs.listing.each_once_in.Given as goal

abbrev pub invariant-loop-p : goal.invariant-loop-p
invariant-loop-p l = each_once l.placements ≡ each_once l.rest

abbrev pub decreases-loop-p : goal.decreases-loop-p
decreases-loop-p l = length l.rest

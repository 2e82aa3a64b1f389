-- Whether a list of placements is a plan, as a test.
use Rattle.std.specs.Prelude.{ℕ, Bool, true, false, not, ◌&&◌, ◌||◌, List, [], ◌∷◌, length, ◌==◌, nat_le}
use Rattle.rack.specs.declared.placement.Placement.{Placement}
use Rattle.rack.specs.Plan.{number}
use Rattle.roster.specs.Rising.{all_placed}

abbrev pub has_number : ℕ → List Placement → Bool
has_number n [] = false
has_number n (p ∷ ps) = number p == n || has_number n ps

abbrev pub each_once : List Placement → Bool
each_once [] = true
each_once (p ∷ ps) = not (has_number (number p) ps) && each_once ps

abbrev pub is_plan : ℕ → List Placement → Bool
is_plan m ps = (nat_le 2 m && nat_le m 16) && (nat_le (length ps) 96 && (all_placed m ps && each_once ps))

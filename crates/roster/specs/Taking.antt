-- Which machine counts and placements a roster may hold, as a test.
use Rattle.std.specs.Prelude.{ℕ, Bool, ◌&&◌, List, length, nat_le}
use Rattle.rack.specs.declared.placement.Placement.{Placement}
use Rattle.roster.specs.Rising.{all_placed, rising}

abbrev pub holdable : ℕ → List Placement → Bool
holdable m ps = (nat_le 2 m && nat_le m 16) && (nat_le (length ps) 96 && (rising ps && all_placed m ps))

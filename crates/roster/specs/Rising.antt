-- Placements in rising job number, each on two different machines of the rack. As tests, since they stand in a type.
use Rattle.std.specs.Prelude.{ℕ, Bool, true, not, ◌&&◌, List, [], ◌∷◌, ◌==◌, nat_lt}
use Rattle.rack.specs.declared.placement.Placement.{Placement}
use Rattle.rack.specs.Plan.{number}
use Rattle.rack.specs.Test.{all_of}

-- each number is above the one before it, the first above n
abbrev pub rising_from : ℕ → List Placement → Bool
rising_from n [] = true
rising_from n (p ∷ ps) = nat_lt n (number p) && rising_from (number p) ps

-- job numbers begin at 1
abbrev pub rising : List Placement → Bool
rising ps = rising_from 0 ps

abbrev pub placed : ℕ → Placement → Bool
placed m p = nat_lt p.primary m && (nat_lt p.standby m && not (p.primary == p.standby))

abbrev pub all_placed : ℕ → List Placement → Bool
all_placed m ps = all_of (placed m) ps

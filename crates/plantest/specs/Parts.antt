-- The parts of a loss set, with each passive standby's lateness given.
use Rattle.std.specs.Prelude.{ℕ, cond, not, ◌&&◌, List, [], ◌∷◌, ◌++◌, ◌==◌}
use Rattle.figures.specs.declared.copies.Role.TheVariants.{Standby}
use Rattle.figures.specs.declared.copies.JobCopy.{JobCopy}
use Rattle.rack.specs.declared.placement.Placement.{Placement}
use Rattle.rack.specs.Plan.{active}
use Rattle.rack.specs.Sets.{copy_of, quiet_part}

-- the passive standby on g whose primary is on f
abbrev pub passive_part : ℕ → ℕ → ℕ → Placement → List JobCopy
passive_part late g f p =
    cond (p.standby == g && (not (active p.status) && p.primary == f)) (copy_of Standby p late ∷ []) []

-- the loss set of g when f stops, with the passive latenesses of the placements in their order
abbrev pub loss_with : List ℕ → ℕ → ℕ → List Placement → List JobCopy
loss_with [] g f ps = []
loss_with (late ∷ lates) g f [] = []
loss_with (late ∷ lates) g f (p ∷ ps) = (quiet_part g p ++ passive_part late g f p) ++ loss_with lates g f ps

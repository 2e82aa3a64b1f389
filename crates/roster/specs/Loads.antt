-- How much of each machine the placements ask for, in millionths.
use Rattle.std.specs.Prelude.{ℕ, ◌+◌, ◌*◌, cond, ◌&&◌, List, [], ◌∷◌, map, ◌==◌}
use Rattle.std.specs.List.{range_with_len}
use Rattle.figures.specs.Demand.{ceil, run_of}
use Rattle.figures.specs.declared.copies.Role.{Role}
use Rattle.figures.specs.declared.copies.Role.TheVariants.{Primary, Standby}
use Rattle.rack.specs.declared.placement.Placement.{Placement}
use Rattle.rack.specs.Plan.{active}

-- the share of its machine that a copy asks for, rounded up
abbrev pub share : Role → Placement → ℕ
share role p = ceil (1000000 * run_of role p.terms) p.terms.period

-- what a job's primary adds to the load of machine g
abbrev pub primary_load : ℕ → Placement → ℕ
primary_load g p = cond (p.primary == g) (share Primary p) 0

-- what a job's standby adds to it: nothing while it is passive
abbrev pub standby_load : ℕ → Placement → ℕ
standby_load g p = cond (p.standby == g && active p.status) (share Standby p) 0

-- what a job adds to it
abbrev pub job_load : ℕ → Placement → ℕ
job_load g p = primary_load g p + standby_load g p

-- the load of machine g
abbrev pub load : ℕ → List Placement → ℕ
load g [] = 0
load g (p ∷ ps) = job_load g p + load g ps

-- the loads of the machines 0 to 15
abbrev pub loads : List Placement → List ℕ
loads ps = map (λ g. load g ps) (range_with_len 0 16)

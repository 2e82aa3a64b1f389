-- The library's quotient, rounded up, and its sum.
use Rattle.std.proofs.Common.{◌≡◌, ℕ, ◌+◌, ◌*◌, ◌<◌, ◌≤◌, List, refl, sum_by, arith}
use Rattle.std.proofs.Math.Nat.{lt_of_mul-lt-mul_right}
use Rattle.std.specs.Int.{div_ceil}
use Rattle.std.proofs.lemmas.Grind.{div_ceil_times}
use Rattle.std.proofs.lemmas.List.Recursion.{is_sum_by}
use Rattle.figures.specs.Demand.{ceil}
use Rattle.rack.specs.declared.placement.Placement.{Placement}
use Rattle.rack.proofs.SumLaws.{ceil_up, ceil_least}
use Rattle.roster.specs.Loads.{job_load, load}

pub div_ceil_same : (a b : ℕ) → 1 ≤ b → div_ceil a b ≡ ceil a b
div_ceil_same a b some =
    let times = div_ceil_times a b some in
    let least : ceil a b ≤ div_ceil a b = ceil_least a b (div_ceil a b) some times.0 in
    let up = ceil_up a b some in
    let close : div_ceil a b * b < (ceil a b + 1) * b = omega (arith, times, up) in
    omega (arith, least, lt_of_mul-lt-mul_right b close)

pub load_sum : (g : ℕ) (ps : List Placement) → load g ps ≡ sum_by (job_load g) ps
load_sum g ps = is_sum_by (load g) (job_load g) refl (λ _ _. refl) ps

-- Placements by job number: finding one, putting one in at its place, taking one out.
use Rattle.std.specs.Prelude.{◌≡◌, ℕ, ◌<◌, ◌≤◌, Bool, true, cond, not, ◌&&◌, List, [], ◌∷◌, length, is_some, Some, None, Option, ◌==◌, nat_lt, slice_index_or}
use Rattle.std.specs.List.{remove}
use Rattle.rack.specs.declared.placement.Placement.{Placement}
use Rattle.rack.specs.Plan.{number}
use Rattle.roster.specs.Rising.{placed, rising, all_placed}

-- the placement of the job with this number
abbrev pub find : ℕ → List Placement → Option Placement
find n [] = None
find n (p ∷ ps) = cond (number p == n) (Some p) (find n ps)

-- the placements with one more, before the first of a larger number
abbrev pub with_job : Placement → List Placement → List Placement
with_job p [] = p ∷ []
with_job p (q ∷ qs) = cond (nat_lt (number p) (number q)) (p ∷ q ∷ qs) (q ∷ with_job p qs)

-- the same placements but the job with this number
abbrev pub without : ℕ → List Placement → List Placement
without n [] = []
without n (p ∷ ps) = cond (number p == n) ps (p ∷ without n ps)

-- whether a job may be put in: its number is not there, fewer than 96 are there, its machines differ and are of the rack
abbrev pub addable : ℕ → List Placement → Placement → Bool
addable m ps p = not (is_some (find (number p) ps)) && (nat_lt (length ps) 96 && placed m p)

-- what a roster's type promises of its placements
pub record Orderly (m : ℕ) (ps : List Placement) : Type 0 where
  pub few : length ps ≤ 96
  pub in_order : rising ps ≡ true
  pub on_the_rack : all_placed m ps ≡ true

-- the job with this number stands at place i
pub record Stands (n : ℕ) (ps : List Placement) (i : ℕ) : Type 0 where
  pub within : i < length ps
  pub found : (p : Placement) → p ≡ slice_index_or ps i p → find n ps ≡ Some p
  pub rest : remove ps i ≡ without n ps

-- no job with this number stands there
pub record Absent (n : ℕ) (ps : List Placement) : Type 0 where
  pub none : find n ps ≡ None
  pub all : without n ps ≡ ps

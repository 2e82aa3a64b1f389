-- Which bytes are a plan file under a rule, and the plan that they hold.
use Rattle.std.specs.Prelude.{◌≡◌, ℕ, suc, ◌<◌, ◌≤◌, List, [], ◌∷◌, ◌++◌, length}
use Rattle.rack.specs.declared.placement.Placement.{Placement}
use Rattle.rack.specs.Plan.{number}
use Rattle.planfile.specs.Format.{Rec, head, job, note, end, encode, Fits}
use Rattle.planfile.specs.Jobs.{Places}

-- records one after the other, with nothing between them
abbrev pub encode_all : List Rec → List ℕ
encode_all [] = []
encode_all (r ∷ rs) = encode r ++ encode_all rs

-- jobs and notes in any mix; the placements are those of the jobs, in their sequence
abbrev pub Between : ℕ → List Rec → List Placement → Type 0
Between m [] [] = Unit {0}
Between m [] (p ∷ ps) = ⊥
Between m (job d q s ∷ rs) [] = ⊥
Between m (job d q s ∷ rs) (p ∷ ps) = Places m d q s p × Between m rs ps
Between m (note text ∷ rs) ps = Fits (note text) × Between m rs ps
Between m (head code machines ∷ rs) ps = ⊥
Between m (end ∷ rs) ps = ⊥

abbrev pub notes_in : List Rec → ℕ
notes_in [] = 0
notes_in (head code machines ∷ rs) = notes_in rs
notes_in (job d q s ∷ rs) = notes_in rs
notes_in (note text ∷ rs) = suc (notes_in rs)
notes_in (end ∷ rs) = notes_in rs

-- each number is larger than the one before it, the first larger than n
abbrev pub RisingFrom : ℕ → List Placement → Type 0
RisingFrom n [] = Unit {0}
RisingFrom n (p ∷ ps) = (n < number p) × RisingFrom (number p) ps

-- the bytes are a plan file under the rule with this code: m machines, and these placements
pub record PlanFile (code : ℕ) (bytes : List ℕ) (m : ℕ) (ps : List Placement) : Type 0 where
  pub items : List Rec
  pub laid_out : bytes ≡ encode (head code m) ++ (encode_all items ++ encode end)
  pub two_machines : 2 ≤ m
  pub sixteen_machines : m ≤ 16
  pub jobs_and_notes : Between m items ps
  pub rising : RisingFrom 0 ps
  pub few_jobs : length ps ≤ 96
  pub few_notes : notes_in items ≤ 64

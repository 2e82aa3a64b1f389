-- Adopt and write: the plan as a file.
use Rattle.std.specs.Prelude.{◌≡◌, ℕ, Bool, true, false, cond, List, ◌++◌, length, take, drop, Some, None, Ok, Err, Option, Result, nat_le}
use Rattle.terms.specs.declared.terms.Terms.{Terms}
use Rattle.terms.specs.declared.refusal.Refusal.{Refusal}
use Rattle.terms.specs.declared.refusal.Refusal.TheVariants.{NotAPlan, PlanFails, Short}
use Rattle.terms.specs.Refusals.{number_of}
use Rattle.rack.specs.declared.placement.Placement.{Placement}
use Rattle.rack.specs.Test.{Passes, passes}
use Rattle.planfile.specs.File.{PlanFile}
use Rattle.planfile.specs.Judging.{plan_of}
use Rattle.filewriter.specs.Written.{file_of, file_length}

-- 8 for what is no plan file under the rule's code, 9 for a plan that fails
abbrev pub adopted : (Terms → Terms → Bool) → Option (ℕ × List Placement) → Result (Unit {0}) Refusal
adopted before None = Err NotAPlan
adopted before (Some plan) = cond (passes before plan.0 plan.1) (Ok tt) (Err PlanFails)

abbrev pub adopt_answer : (Terms → Terms → Bool) → ℕ → List ℕ → Result (Unit {0}) Refusal
adopt_answer before code bytes = adopted before (plan_of code bytes)

-- an accepted file replaces machine count and jobs
abbrev pub taken : (Terms → Terms → Bool) → Option (ℕ × List Placement) → ℕ × List Placement → ℕ × List Placement
taken before None plan = plan
taken before (Some file) plan = cond (passes before file.0 file.1) file plan

abbrev pub adopt_plan : (Terms → Terms → Bool) → ℕ → List ℕ → ℕ × List Placement → ℕ × List Placement
adopt_plan before code bytes plan = taken before (plan_of code bytes) plan

-- the number that a call is refused with, 0 where it is not refused
abbrev pub refused_with : {A : Type 0} → Result A Refusal → ℕ
refused_with (Ok x) = 0
refused_with (Err e) = number_of e

-- what adopt means, by its number and the relation that says which bytes are a plan file
pub record AdoptMeans (before : Terms → Terms → Bool) (code : ℕ) (bytes : List ℕ) (n : ℕ) (old new : ℕ × List Placement) : Type 0 where
  -- a plan file whose plan passes replaces machine count and jobs
  pub takes :
      (m : ℕ) (ps : List Placement) → PlanFile code bytes m ps → Passes before m ps → (n ≡ 0) × (new ≡ (m, ps))
  -- one whose plan fails is refused with 9
  pub fails :
      (m : ℕ) (ps : List Placement) → PlanFile code bytes m ps → (Passes before m ps → ⊥) → (n ≡ 9) × (new ≡ old)
  -- what is no plan file under the rule's code is refused with 8
  pub none : ((m : ℕ) (ps : List Placement) → PlanFile code bytes m ps → ⊥) → (n ≡ 8) × (new ≡ old)

-- the file's length, or 10 where the space is shorter
abbrev pub write_answer : List Placement → List ℕ → Result ℕ Refusal
write_answer ps space = cond (nat_le (file_length ps) (length space)) (Ok (file_length ps)) (Err Short)

-- the file, and then the later bytes of the space as they were; all of it as it was on a refusal
abbrev pub write_bytes : ℕ → ℕ → List Placement → List ℕ → List ℕ
write_bytes code m ps space =
    cond (nat_le (file_length ps) (length space)) (file_of code m ps ++ drop (file_length ps) space) space

-- what was written is adopted as the same plan, whatever plan stands where it is adopted, if it passes there
abbrev pub TakenBack : (Terms → Terms → Bool) → ℕ → ℕ → List Placement → Result ℕ Refusal → List ℕ → Type 0
TakenBack before code m ps (Err e) out = Unit {0}
TakenBack before code m ps (Ok n) out =
    Passes before m ps → (plan : ℕ × List Placement) →
    (adopt_answer before code (take n out) ≡ Ok tt) × (adopt_plan before code (take n out) plan ≡ (m, ps))

-- whether the bytes are a plan file, and then its machine count and jobs
abbrev pub HeldIn : ℕ → List ℕ → Bool → ℕ → List Placement → Type 0
HeldIn code bytes true m ps = plan_of code bytes ≡ Some (m, ps)
HeldIn code bytes false m ps = plan_of code bytes ≡ None

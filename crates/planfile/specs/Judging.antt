-- The same by computing: what plan the bytes hold, if any.
use Rattle.std.specs.Prelude.{◌≡◌, ℕ, zero, suc, ◌+◌, cond, ◌&&◌, List, [], ◌∷◌, ◌++◌, length, Some, None, Option, ◌==◌, nat_le, nat_lt}
use Rattle.std.specs.Option.{option_map}
use Rattle.terms.specs.declared.draft.Draft.{Draft}
use Rattle.rack.specs.declared.placement.Placement.{Placement}
use Rattle.planfile.specs.Format.{Rec, head, job, note, end, Bytes, parse_record}
use Rattle.planfile.specs.Jobs.{placement_of}
use Rattle.planfile.specs.File.{PlanFile}

-- what is read on, from the number of the last job, the jobs and the notes so far, and the bytes that are left
abbrev pub Onward : Type 0
Onward = ℕ → ℕ → ℕ → List ℕ → Option (List Placement)

-- after placements that were read before
abbrev pub following : List Placement → Option (List Placement) → Option (List Placement)
following before rest = option_map (λ ps. before ++ ps) rest

abbrev pub after_job : Option Placement → Option (List Placement) → Option (List Placement)
after_job None rest = None
after_job (Some p) rest = option_map (λ ps. p ∷ ps) rest

-- a job's placement, if there is room for it and its number is larger than the last
abbrev pub admitted : ℕ → ℕ → ℕ → Draft → ℕ → ℕ → Option Placement
admitted m last jobs d q s = cond (nat_lt jobs 96 && nat_lt last d.number) (placement_of m d q s) None

-- one record between head and end, and then the rest
abbrev pub judge : ℕ → ℕ → ℕ → ℕ → Onward → Rec → List ℕ → Option (List Placement)
judge m last jobs notes onward (head code machines) xs = None
judge m last jobs notes onward (job d q s) xs =
    after_job (admitted m last jobs d q s) (onward d.number (jobs + 1) notes xs)
judge m last jobs notes onward (note text) xs = cond (nat_lt notes 64) (onward last jobs (notes + 1) xs) None
judge m last jobs notes onward end xs = cond (length xs == 0) (Some []) None

abbrev pub judge_first : ℕ → ℕ → ℕ → ℕ → Onward → Option (Rec × List ℕ) → Option (List Placement)
judge_first m last jobs notes onward None = None
judge_first m last jobs notes onward (Some x) = judge m last jobs notes onward x.0 x.1

-- at most that many records
abbrev pub body_within : ℕ → ℕ → Onward
body_within zero m last jobs notes xs = None
body_within (suc n) m last jobs notes xs = judge_first m last jobs notes (body_within n m) (parse_record xs)

-- every record has a byte
unfoldable pub body_of : ℕ → Onward
body_of m last jobs notes xs = body_within (length xs) m last jobs notes xs

abbrev pub on_machines : ℕ → Option (List Placement) → Option (ℕ × List Placement)
on_machines m rest = option_map (λ ps. (m, ps)) rest

abbrev pub under_head : ℕ → Rec → List ℕ → Option (ℕ × List Placement)
under_head code (head c m) xs =
    cond (c == code && (nat_le 2 m && nat_le m 16)) (on_machines m (body_of m 0 0 0 xs)) None
under_head code (job d q s) xs = None
under_head code (note text) xs = None
under_head code end xs = None

abbrev pub by_head : ℕ → Option (Rec × List ℕ) → Option (ℕ × List Placement)
by_head code None = None
by_head code (Some x) = under_head code x.0 x.1

-- the machine count and the placements of a plan file under the rule with this code
abbrev pub plan_of : ℕ → List ℕ → Option (ℕ × List Placement)
plan_of code xs = by_head code (parse_record xs)

-- a machine count, if there is one, and its placements
abbrev pub with_placements : Option ℕ → List Placement → Option (ℕ × List Placement)
with_placements None ps = None
with_placements (Some m) ps = Some (m, ps)

-- of bytes, it computes exactly what they hold
abbrev pub Agree : Type 0
Agree =
    (code : ℕ) (xs : List ℕ) (m : ℕ) (ps : List Placement) → Bytes xs →
    (PlanFile code xs m ps → plan_of code xs ≡ Some (m, ps)) × (plan_of code xs ≡ Some (m, ps) → PlanFile code xs m ps)

-- What a plan promises of every day.
use Rattle.std.specs.Prelude.{◌≡◌, ℕ, Bool, ◌⊎◌, List}
use Rattle.terms.specs.declared.terms.Terms.{Terms}
use Rattle.figures.specs.declared.copies.Role.TheVariants.{Primary, Standby}
use Rattle.rack.specs.declared.placement.Placement.{Placement}
use Rattle.rack.specs.Plan.{In}
use Rattle.rack.specs.Day.{Day, due, Stop, Within}
use Rattle.rack.specs.Run.{Run, Finished, Keeps}

-- a copy of call-up k finishes no later than due
abbrev pub Served : Day → Run → Placement → ℕ → Type 0
Served day run p k =
    Finished day run Primary p k (due day p.terms k) ⊎ Finished day run Standby p k (due day p.terms k)

-- what comes of a day: exactly one run keeps its rules
pub record Outcome (before : Terms → Terms → Bool) (ps : List Placement) (day : Day) (stop : Stop) : Type 0 where
  pub run : Run
  pub keeps : Keeps before ps day stop run
  pub only : (other : Run) → Keeps before ps day stop other → (g t : ℕ) → other g t ≡ run g t

-- every day has its one run, also where the plan does not pass
abbrev pub OneRun : (Terms → Terms → Bool) → List Placement → Type 0
OneRun before ps = (day : Day) (stop : Stop) → Outcome before ps day stop

-- on every day, whichever machine of the rack stops at whichever tick, or none, the day has its one run,
-- and in it every call-up of every job has a copy that finishes on time
abbrev pub Covered : (Terms → Terms → Bool) → ℕ → List Placement → Type 0
Covered before m ps =
    (day : Day) (stop : Stop) → Within m stop →
    (outcome : Outcome before ps day stop) × ((p : Placement) → In p ps → (k : ℕ) → Served day outcome.run p k)

-- A day: when each job is first called up, and how late and how long each copy of each call-up is. Then, what stops.
use Rattle.std.specs.Prelude.{ℕ, ◌+◌, ◌*◌, ◌<◌, min, max, Bool, false, ◌&&◌, ◌==◌, nat_le}
use Rattle.terms.specs.declared.terms.Terms.{Terms}
use Rattle.figures.specs.declared.copies.Role.{Role}
use Rattle.figures.specs.Demand.{run_of}

-- by job number; by job number, call-up and copy
pub record Day : Type 0 where
  pub offset : ℕ → ℕ
  pub lateness : ℕ → ℕ → Role → ℕ
  pub running : ℕ → ℕ → Role → ℕ

-- when call-up k of a job is invoked
abbrev pub invoked : Day → Terms → ℕ → ℕ
invoked day t k = day.offset t.number + k * t.period

abbrev pub due : Day → Terms → ℕ → ℕ
due day t k = invoked day t k + t.deadline

-- how late a copy's release is; above its limit it counts as the limit
abbrev pub late : Day → Role → Terms → ℕ → ℕ
late day role t k = min t.lateness (day.lateness t.number k role)

-- the ticks of work of a copy; above its limit it counts as the limit, and 0 counts as 1
abbrev pub work : Day → Role → Terms → ℕ → ℕ
work day role t k = max 1 (min (run_of role t) (day.running t.number k role))

-- no machine stops, or one machine at one tick
pub data Stop : Type 0 where
  no_stop : Stop
  stops : (machine tick : ℕ) → Stop

-- a machine of the rack
abbrev pub Within : ℕ → Stop → Type 0
Within m no_stop = Unit {0}
Within m (stops f s) = f < m

-- the machine has stopped by tick t
abbrev pub halted : Stop → ℕ → ℕ → Bool
halted no_stop g t = false
halted (stops f s) g t = f == g && nat_le s t

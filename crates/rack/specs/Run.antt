-- What the machines do on a day: the rules of a run, as a relation between a plan, a day, a stop and a run.
use Rattle.std.specs.Prelude.{◌≡◌, ℕ, zero, suc, ◌+◌, ◌<◌, ◌≤◌, Bool, true, false, cond, not, ◌&&◌, ◌⊎◌, List, ◌==◌, nat_le}
use Rattle.terms.specs.declared.terms.Terms.{Terms}
use Rattle.figures.specs.declared.copies.Role.{Role}
use Rattle.figures.specs.declared.copies.Role.TheVariants.{Primary, Standby}
use Rattle.rack.specs.declared.placement.Status.{Status}
use Rattle.rack.specs.declared.placement.Status.TheVariants.{Passive, Active}
use Rattle.rack.specs.declared.placement.Placement.{Placement}
use Rattle.rack.specs.Plan.{In, number, active, machine}
use Rattle.rack.specs.Day.{Day, invoked, late, work, Stop, no_stop, stops, halted}

-- a machine's tick: nothing, or a call-up of the job with a number
pub data Slot : Type 0 where
  idle : Slot
  runs : (job call : ℕ) → Slot

-- what each machine does in each tick
abbrev pub Run : Type 0
Run = ℕ → ℕ → Slot

-- f 0 + .. + f (n - 1)
abbrev pub sum_to : ℕ → (ℕ → ℕ) → ℕ
sum_to zero f = 0
sum_to (suc n) f = sum_to n f + f n

abbrev pub hit : Slot → ℕ → ℕ → ℕ
hit idle n k = 0
hit (runs job call) n k = cond (job == n && call == k) 1 0

-- the ticks before t in which machine g ran call-up k of job n
abbrev pub worked : Run → ℕ → ℕ → ℕ → ℕ → ℕ
worked run g n k t = sum_to t (λ u. hit (run g u) n k)

-- the copy has done all its work before tick t: its last tick of work is below t
abbrev pub Finished : Day → Run → Role → Placement → ℕ → ℕ → Type 0
Finished day run role p k t = work day role p.terms k ≤ worked run (machine role p) (number p) k t

-- a passive standby wakes only for a job whose primary is on the machine that stops, and only for call-ups that
-- are not finished there by then; those invoked before wake at once, later ones their lateness after the invocation
abbrev pub Wakes : Day → Stop → Run → Placement → ℕ → ℕ → Type 0
Wakes day no_stop run p k r = ⊥
Wakes day (stops f s) run p k r =
    (p.primary ≡ f) × (worked run p.primary (number p) k s < work day Primary p.terms k)
    × (invoked day p.terms k < s → r ≡ s)
    × (s ≤ invoked day p.terms k → r ≡ invoked day p.terms k + late day Standby p.terms k)

-- a copy of call-up k is released at tick r
abbrev pub StandbyReleased : Status → Day → Stop → Run → Placement → ℕ → ℕ → Type 0
StandbyReleased Active day stop run p k r = r ≡ invoked day p.terms k + late day Standby p.terms k
StandbyReleased Passive day stop run p k r = Wakes day stop run p k r

abbrev pub Released : Day → Stop → Run → Role → Placement → ℕ → ℕ → Type 0
Released day stop run Primary p k r = r ≡ invoked day p.terms k + late day Primary p.terms k
Released day stop run Standby p k r = StandbyReleased p.status day stop run p k r

-- from the stop on, the active copies of jobs whose primary is elsewhere are dropped
abbrev pub dropped : Stop → Role → Placement → ℕ → Bool
dropped no_stop role p t = false
dropped (stops f s) Primary p t = false
dropped (stops f s) Standby p t = nat_le s t && (active p.status && not (p.primary == f))

-- machine g has a copy of call-up k that is released, unfinished and not dropped
pub record Ready (day : Day) (stop : Stop) (run : Run) (g : ℕ) (p : Placement) (k t : ℕ) : Type 0 where
  pub role : Role
  pub here : machine role p ≡ g
  pub since : ℕ
  pub released : Released day stop run role p k since
  pub begun : since ≤ t
  pub unfinished : worked run g (number p) k t < work day role p.terms k
  pub kept : dropped stop role p t ≡ false

-- call-up j of job q may run while call-up k of job p could: q goes before p, or it is the same job and no later call-up
abbrev pub Ahead : (Terms → Terms → Bool) → Placement → ℕ → Placement → ℕ → Type 0
Ahead before q j p k = (before q.terms p.terms ≡ true) ⊎ ((number q ≡ number p) × (j ≤ k))

pub record Keeps (before : Terms → Terms → Bool) (ps : List Placement) (day : Day) (stop : Stop) (run : Run) : Type 0 where
  -- a machine that has stopped runs nothing
  pub halts : (g t : ℕ) → halted stop g t ≡ true → run g t ≡ idle
  -- a machine runs only what is ready there
  pub only_ready : (g t n k : ℕ) → run g t ≡ runs n k → (p : Placement) × In p ps × (number p ≡ n) × Ready day stop run g p k t
  -- where anything is ready it runs the job that goes before the others, and of that job the earliest call-up
  pub most_urgent :
      (g t : ℕ) (p : Placement) (k : ℕ) → halted stop g t ≡ false → In p ps → Ready day stop run g p k t →
      (q : Placement) × (j : ℕ) × In q ps × (run g t ≡ runs (number q) j) × Ahead before q j p k

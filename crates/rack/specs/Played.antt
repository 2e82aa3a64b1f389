-- The run of a day, computed tick by tick: in each tick each machine takes the first in precedence of what is ready.
use Rattle.std.specs.Prelude.{ℕ, zero, suc, ◌+◌, Bool, false, cond, not, ◌&&◌, ◌||◌, List, [], ◌∷◌, ◌++◌, map, ◌==◌, nat_le, nat_lt, slice_index_or}
use Rattle.std.specs.List.{range_with_len}
use Rattle.terms.specs.declared.terms.Terms.{Terms}
use Rattle.figures.specs.declared.copies.Role.{Role}
use Rattle.figures.specs.declared.copies.Role.TheVariants.{Primary, Standby}
use Rattle.rack.specs.declared.placement.Status.{Status}
use Rattle.rack.specs.declared.placement.Status.TheVariants.{Passive, Active}
use Rattle.rack.specs.declared.placement.Placement.{Placement}
use Rattle.rack.specs.Plan.{number, machine}
use Rattle.rack.specs.Day.{Day, invoked, late, work, Stop, no_stop, stops, halted}
use Rattle.rack.specs.Run.{Slot, idle, runs, Run, worked, dropped}

-- a passive standby of call-up k has woken by tick t
abbrev pub has_woken : Day → Stop → Run → Placement → ℕ → ℕ → Bool
has_woken day no_stop run p k t = false
has_woken day (stops f s) run p k t =
    (p.primary == f)
    && (nat_le (cond (nat_lt (invoked day p.terms k) s) s (invoked day p.terms k + late day Standby p.terms k)) t
    && nat_lt (worked run p.primary (number p) k s) (work day Primary p.terms k))

-- a copy of call-up k has been released by tick t
abbrev pub standby_out : Status → Day → Stop → Run → Placement → ℕ → ℕ → Bool
standby_out Active day stop run p k t = nat_le (invoked day p.terms k + late day Standby p.terms k) t
standby_out Passive day stop run p k t = has_woken day stop run p k t

abbrev pub is_out : Day → Stop → Run → Role → Placement → ℕ → ℕ → Bool
is_out day stop run Primary p k t = nat_le (invoked day p.terms k + late day Primary p.terms k) t
is_out day stop run Standby p k t = standby_out p.status day stop run p k t

-- the copy stands on machine g, and is released, unfinished and not dropped
abbrev pub is_ready_as : Day → Stop → Run → ℕ → Role → Placement → ℕ → ℕ → Bool
is_ready_as day stop run g role p k t =
    (machine role p == g)
    && (is_out day stop run role p k t
    && (nat_lt (worked run g (number p) k t) (work day role p.terms k) && not (dropped stop role p t)))

abbrev pub is_ready : Day → Stop → Run → ℕ → Placement → ℕ → ℕ → Bool
is_ready day stop run g p k t = is_ready_as day stop run g Primary p k t || is_ready_as day stop run g Standby p k t

-- nothing, or a call-up of a job
pub data Choice : Type 0 where
  nothing : Choice
  call_up : Placement → ℕ → Choice

-- the one, and where it is nothing the other
abbrev pub or_else : Choice → Choice → Choice
or_else nothing other = other
or_else (call_up p k) other = call_up p k

-- the earliest of the first n call-ups of a job that pass
abbrev pub earliest : (ℕ → Bool) → Placement → ℕ → Choice
earliest test p zero = nothing
earliest test p (suc n) = or_else (earliest test p n) (cond (test n) (call_up p n) nothing)

-- of two jobs the one that goes before the other
abbrev pub first_of : (Terms → Terms → Bool) → Choice → Choice → Choice
first_of before nothing other = other
first_of before (call_up p k) nothing = call_up p k
first_of before (call_up p k) (call_up q j) = cond (before p.terms q.terms) (call_up p k) (call_up q j)

-- what machine g can take at tick t: no call-up after the first t + 1 is invoked by then
abbrev pub best : (Terms → Terms → Bool) → Day → Stop → Run → ℕ → ℕ → List Placement → Choice
best before day stop run g t [] = nothing
best before day stop run g t (p ∷ ps) =
    first_of before (earliest (λ k. is_ready day stop run g p k t) p (suc t)) (best before day stop run g t ps)

abbrev pub slot_of : Choice → Slot
slot_of nothing = idle
slot_of (call_up p k) = runs (number p) k

-- what machine g does at tick t after what has run
abbrev pub next_slot : (Terms → Terms → Bool) → List Placement → Day → Stop → Run → ℕ → ℕ → Slot
next_slot before ps day stop run t g = cond (halted stop g t) idle (slot_of (best before day stop run g t ps))

-- a record of the ticks so far, for each tick what each machine did
abbrev pub recorded : List (List Slot) → Run
recorded ticks g t = slice_index_or (slice_index_or ticks t []) g idle

abbrev pub one_more : (Terms → Terms → Bool) → ℕ → List Placement → Day → Stop → ℕ → List (List Slot) → List (List Slot)
one_more before m ps day stop t ticks = ticks ++ (map (next_slot before ps day stop (recorded ticks) t) (range_with_len 0 m) ∷ [])

-- the first t ticks of the m machines
abbrev pub ticks_to : (Terms → Terms → Bool) → ℕ → List Placement → Day → Stop → ℕ → List (List Slot)
ticks_to before m ps day stop zero = []
ticks_to before m ps day stop (suc t) = one_more before m ps day stop t (ticks_to before m ps day stop t)

-- the run
abbrev pub played : (Terms → Terms → Bool) → ℕ → List Placement → Day → Stop → Run
played before m ps day stop g t = recorded (ticks_to before m ps day stop (suc t)) g t

-- A copy's figure in a set: its window and its own lateness; there is none if that would exceed the deadline.
use Rattle.std.specs.Prelude.{◌≡◌, ℕ, zero, suc, ◌+◌, ◌<◌, ◌≤◌, Bool, cond, List, Some, None, Option, ◌==◌, nat_lt}
use Rattle.terms.specs.declared.terms.Terms.{Terms}
use Rattle.figures.specs.declared.copies.JobCopy.{JobCopy}
use Rattle.figures.specs.Demand.{charge, demand}
use Rattle.figures.specs.Window.{Window}

-- what a figure means
abbrev pub Figured : (Terms → Terms → Bool) → List JobCopy → JobCopy → Option ℕ → Type 0
Figured before set own None = (x : ℕ) → Window before set own x → own.terms.deadline < x + own.lateness
Figured before set own (Some f) = (x : ℕ) × Window before set own x × (f ≡ x + own.lateness) × (f ≤ own.terms.deadline)

-- a window, if there is one, and the copy's own lateness
abbrev pub with_lateness : JobCopy → Option ℕ → Option ℕ
with_lateness own None = None
with_lateness own (Some x) = Some (x + own.lateness)

-- and how it computes: from x on, up to the first number that repeats itself, or past the deadline
abbrev pub climb : (Terms → Terms → Bool) → List JobCopy → JobCopy → ℕ → ℕ → Option ℕ
climb before set own zero x = None
climb before set own (suc turns) x =
    cond (nat_lt own.terms.deadline (x + own.lateness)) None
    (cond ((demand before set own x) == x) (Some (x + own.lateness)) (climb before set own turns (demand before set own x)))

abbrev pub figure_of : (Terms → Terms → Bool) → List JobCopy → JobCopy → Option ℕ
figure_of before set own = climb before set own (own.terms.deadline + 1) (charge own)

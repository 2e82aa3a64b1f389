-- A copy's window in a set: the least number of ticks that holds what is asked of it.
use Rattle.std.specs.Prelude.{◌≡◌, ℕ, ◌+◌, ◌<◌, ◌≤◌, Bool, List, Some, None, Option}
use Rattle.terms.specs.declared.terms.Terms.{Terms}
use Rattle.figures.specs.declared.copies.JobCopy.{JobCopy}
use Rattle.figures.specs.Demand.{demand}

pub record Window (before : Terms → Terms → Bool) (set : List JobCopy) (own : JobCopy) (x : ℕ) : Type 0 where
  pub some : 1 ≤ x
  pub fixed : x ≡ demand before set own x
  pub least : (y : ℕ) → 1 ≤ y → y ≡ demand before set own y → x ≤ y

-- the answer of the search: the window, if with the copy's lateness it ends within the deadline
abbrev pub Windowed : (Terms → Terms → Bool) → List JobCopy → JobCopy → Option ℕ → Type 0
Windowed before set own None = (x : ℕ) → Window before set own x → own.terms.deadline < x + own.lateness
Windowed before set own (Some x) = Window before set own x × (x + own.lateness ≤ own.terms.deadline)

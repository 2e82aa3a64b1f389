-- The work that a set of copies can ask of a machine in a window of x ticks.
use Rattle.std.specs.Prelude.{ℕ, ◌+◌, ◌-◌, ◌*◌, ◌/◌, Bool, cond, List, [], ◌∷◌}
use Rattle.terms.specs.declared.terms.Terms.{Terms}
use Rattle.figures.specs.declared.copies.Role.{Role}
use Rattle.figures.specs.declared.copies.Role.TheVariants.{Primary, Standby}
use Rattle.figures.specs.declared.copies.JobCopy.{JobCopy}

-- a / b, rounded up
abbrev pub ceil : ℕ → ℕ → ℕ
ceil a b = (a + (b - 1)) / b

-- a copy's run: C of a primary, S of a standby
abbrev pub run_of : Role → Terms → ℕ
run_of Primary t = t.run
run_of Standby t = t.standby

-- what one release of a copy is charged
abbrev pub charge : JobCopy → ℕ
charge c = run_of c.role c.terms

-- the copy's releases that can fall into a window of x ticks, each charged in full
abbrev pub work_in : JobCopy → ℕ → ℕ
work_in c x = charge c * ceil (x + c.lateness) c.terms.period

-- by how much a copy can hold off another in a window of x ticks: not at all, unless it goes before
abbrev pub held_off : (Terms → Terms → Bool) → JobCopy → JobCopy → ℕ → ℕ
held_off before c own x = cond (before c.terms own.terms) (work_in c x) 0

-- by how much a set can hold off a copy
abbrev pub all_held_off : (Terms → Terms → Bool) → List JobCopy → JobCopy → ℕ → ℕ
all_held_off before [] own x = 0
all_held_off before (c ∷ set) own x = held_off before c own x + all_held_off before set own x

-- own run, and the work of what goes before
abbrev pub demand : (Terms → Terms → Bool) → List JobCopy → JobCopy → ℕ → ℕ
demand before set own x = charge own + all_held_off before set own x

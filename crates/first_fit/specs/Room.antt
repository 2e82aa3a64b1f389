-- Whether the quiet figures of one machine are there.
use Rattle.std.specs.Prelude.{ℕ, Bool, not, ◌||◌, List, ◌==◌}
use Rattle.terms.specs.declared.terms.Terms.{Terms}
use Rattle.rack.specs.declared.placement.Placement.{Placement}
use Rattle.plantest.specs.Sweep.{has_quiet}

-- the job's primary, if it stands on g, has its quiet figure
abbrev pub quiet_on : (Terms → Terms → Bool) → List Placement → ℕ → Placement → Bool
quiet_on before ps g p = not (p.primary == g) || has_quiet before ps p

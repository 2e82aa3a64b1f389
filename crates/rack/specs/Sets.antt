-- The copies that share a machine: its quiet set, and its loss sets.
use Rattle.std.specs.Prelude.{ℕ, Bool, cond, not, ◌&&◌, List, [], ◌∷◌, ◌++◌, Option, ◌==◌}
use Rattle.std.specs.Option.{unwrap_or}
use Rattle.terms.specs.declared.terms.Terms.{Terms}
use Rattle.figures.specs.declared.copies.Role.{Role}
use Rattle.figures.specs.declared.copies.Role.TheVariants.{Primary, Standby}
use Rattle.figures.specs.declared.copies.JobCopy.{JobCopy}
use Rattle.figures.specs.Figure.{figure_of}
use Rattle.rack.specs.declared.placement.Placement.{Placement}
use Rattle.rack.specs.Plan.{active}

abbrev pub copy_of : Role → Placement → ℕ → JobCopy
copy_of role p lateness = record { terms = p.terms; role = role; lateness = lateness }

abbrev pub primary_copy : Placement → JobCopy
primary_copy p = copy_of Primary p p.terms.lateness

-- what a placement adds to each list of copies
abbrev pub gather : (Placement → List JobCopy) → List Placement → List JobCopy
gather part [] = []
gather part (p ∷ ps) = part p ++ gather part ps

-- Q(g): the primaries and the active standbys on machine g
abbrev pub quiet_part : ℕ → Placement → List JobCopy
quiet_part g p =
    cond (p.primary == g) (primary_copy p ∷ [])
    (cond (p.standby == g && active p.status) (copy_of Standby p p.terms.lateness ∷ []) [])

abbrev pub quiet : ℕ → List Placement → List JobCopy
quiet g ps = gather (quiet_part g) ps

-- the figure of a job's primary in the quiet set of its machine
abbrev pub quiet_figure : (Terms → Terms → Bool) → List Placement → Placement → Option ℕ
quiet_figure before ps p = figure_of before (quiet p.primary ps) (primary_copy p)

-- how late a passive standby can be: by the quiet figure of its primary. Where there is none the plan fails, whatever stands here
abbrev pub passive_late : (Terms → Terms → Bool) → List Placement → Placement → ℕ
passive_late before ps p = unwrap_or (quiet_figure before ps p) p.terms.deadline

abbrev pub standby_late : (Terms → Terms → Bool) → List Placement → Placement → ℕ
standby_late before ps p = cond (active p.status) p.terms.lateness (passive_late before ps p)

abbrev pub standby_copy : (Terms → Terms → Bool) → List Placement → Placement → JobCopy
standby_copy before ps p = copy_of Standby p (standby_late before ps p)

-- L(g, f): the quiet set of g, and the passive standbys on g whose primary is on f
abbrev pub loss_part : (Terms → Terms → Bool) → List Placement → ℕ → ℕ → Placement → List JobCopy
loss_part before ps g f p =
    quiet_part g p
    ++ cond (p.standby == g && (not (active p.status) && p.primary == f)) (standby_copy before ps p ∷ []) []

abbrev pub loss : (Terms → Terms → Bool) → List Placement → ℕ → ℕ → List JobCopy
loss before ps g f = gather (loss_part before ps g f) ps

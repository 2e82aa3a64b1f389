-- The plan test, machine by machine: each loss set is gathered once, and whatever stands in it is looked at.
use Rattle.std.specs.Prelude.{ℕ, Bool, true, cond, not, ◌&&◌, ◌||◌, List, [], ◌∷◌, length, is_some, ◌==◌}
use Rattle.terms.specs.declared.terms.Terms.{Terms}
use Rattle.figures.specs.Figure.{figure_of}
use Rattle.figures.specs.declared.copies.JobCopy.{JobCopy}
use Rattle.figures.specs.declared.copies.Role.TheVariants.{Standby}
use Rattle.rack.specs.declared.placement.Placement.{Placement}
use Rattle.rack.specs.Plan.{active}
use Rattle.rack.specs.Sets.{copy_of, primary_copy, standby_copy, quiet_figure, loss}
use Rattle.rack.specs.Test.{all_below, all_of}
use Rattle.plantest.specs.Parts.{loss_with}

-- the primary, if it stands on g, and the standby, if it stands on g and its primary on f, have figures in the set
abbrev pub copies_fit : (Terms → Terms → Bool) → List JobCopy → JobCopy → ℕ → ℕ → Placement → Bool
copies_fit before set standby g f p =
    (not (p.primary == g) || is_some (figure_of before set (primary_copy p)))
    && (not (p.standby == g && p.primary == f) || is_some (figure_of before set standby))

abbrev pub pair_fits : (Terms → Terms → Bool) → List Placement → ℕ → ℕ → Placement → Bool
pair_fits before ps g f p = copies_fit before (loss before ps g f) (standby_copy before ps p) g f p

abbrev pub pair_passes : (Terms → Terms → Bool) → List Placement → ℕ → ℕ → Bool
pair_passes before ps g f = all_of (pair_fits before ps g f) ps

abbrev pub lost_passes : (Terms → Terms → Bool) → List Placement → ℕ → ℕ → Bool
lost_passes before ps g f = f == g || pair_passes before ps g f

abbrev pub machine_passes : (Terms → Terms → Bool) → ℕ → List Placement → ℕ → Bool
machine_passes before m ps g = all_below m (lost_passes before ps g)

abbrev pub has_quiet : (Terms → Terms → Bool) → List Placement → Placement → Bool
has_quiet before ps p = is_some (quiet_figure before ps p)

abbrev pub quiet_passes : (Terms → Terms → Bool) → List Placement → Bool
quiet_passes before ps = all_of (has_quiet before ps) ps

abbrev pub sweep : (Terms → Terms → Bool) → ℕ → List Placement → Bool
sweep before m ps = quiet_passes before ps && all_below m (machine_passes before m ps)

-- the test of one placement's copies in a set, with its passive lateness given
abbrev pub late_fits : (Terms → Terms → Bool) → List JobCopy → ℕ → ℕ → ℕ → Placement → Bool
late_fits before set g f late p =
    copies_fit before set (copy_of Standby p (cond (active p.status) p.terms.lateness late)) g f p

-- the same of all placements, with their passive latenesses in their order
abbrev pub all_fit : (Terms → Terms → Bool) → List JobCopy → ℕ → ℕ → List ℕ → List Placement → Bool
all_fit before set g f [] ps = true
all_fit before set g f (late ∷ lates) [] = true
all_fit before set g f (late ∷ lates) (p ∷ ps) = late_fits before set g f late p && all_fit before set g f lates ps

-- there is a passive lateness for each placement, and with them every copy in the loss set of g when f stops has its figure
abbrev pub pair_with : (Terms → Terms → Bool) → List ℕ → List Placement → ℕ → ℕ → Bool
pair_with before lates ps g f =
    (length lates == length ps) && all_fit before (loss_with lates g f ps) g f lates ps

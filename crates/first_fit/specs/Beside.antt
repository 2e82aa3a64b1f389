-- What of a plan a further job can change, and the plan test of that alone.
use Rattle.std.specs.Prelude.{◌≡◌, ℕ, ◌<◌, Bool, true, false, not, ◌&&◌, ◌||◌, ◌⊎◌, List, [], length, Some, ◌==◌, slice_index, slice_index_or}
use Rattle.std.specs.List.{list_any}
use Rattle.terms.specs.declared.terms.Terms.{Terms}
use Rattle.rack.specs.declared.placement.Placement.{Placement}
use Rattle.rack.specs.Plan.{active}
use Rattle.rack.specs.Sets.{quiet_figure}
use Rattle.rack.specs.Test.{all_below, passes}
use Rattle.roster.specs.Changes.{addable, with_job}
use Rattle.plantest.specs.Sweep.{pair_passes, quiet_passes}

-- the job has a copy in the quiet set of machine g
abbrev pub changed : Placement → ℕ → Bool
changed x g = x.primary == g || (x.standby == g && active x.status)

-- a placement on whose account g is tested for the loss of f: its standby is on g, its primary on f, and
-- the quiet set of g has changed, or that of f has and the standby is passive, so that its lateness may have
abbrev pub asks : Bool → Bool → ℕ → ℕ → Placement → Bool
asks here there g f p =
    (p.standby == g && p.primary == f) && (here || (there && not (active p.status)))

-- some placement passes a test
abbrev pub any_of : (Placement → Bool) → List Placement → Bool
any_of test ps = list_any test ps

-- beside the further job x, g is tested for the loss of f
abbrev pub asked : Placement → List Placement → ℕ → ℕ → Bool
asked x ps g f = any_of (asks (changed x g) (changed x f) g f) ps

-- the test of g for the loss of f, where it is asked for
abbrev pub pair_beside : (Terms → Terms → Bool) → Placement → List Placement → ℕ → ℕ → Bool
pair_beside before x ps g f = f == g || (not (asked x ps g f) || pair_passes before ps g f)

-- the same of g for each machine
abbrev pub machine_beside : (Terms → Terms → Bool) → ℕ → Placement → List Placement → ℕ → Bool
machine_beside before m x ps g = all_below m (pair_beside before x ps g)

-- the test of all that x can change in the plan that has it: the pair of its own standby first
abbrev pub touched_passes : (Terms → Terms → Bool) → ℕ → Placement → List Placement → Bool
touched_passes before m x ps =
    quiet_passes before ps
    && (pair_passes before ps x.standby x.primary && all_below m (machine_beside before m x ps))

-- numbers for the placements of a plan: those of jobs whose primary's machine has not changed are their quiet figures
pub record Known (before : Terms → Terms → Bool) (x : Placement) (ps : List Placement) (known : List ℕ) : Type 0 where
  pub long : length known ≡ length ps
  pub figures :
      (i : ℕ) (p : Placement) → i < length ps → p ≡ slice_index_or ps i p → changed x p.primary ≡ false →
      quiet_figure before ps p ≡ Some (slice_index known i)

-- a plan that passes, with the quiet figures that stand whichever choice for a job of these terms is put in
pub record Ready (before : Terms → Terms → Bool) (m : ℕ) (ps : List Placement) (t : Terms) (known : List ℕ) : Type 0 where
  pub passing : passes before m ps ≡ true
  pub beside : (x : Placement) → x.terms ≡ t → addable m ps x ≡ true → Known before x (with_job x ps) known

-- the same, where nothing may be known yet
abbrev pub KnownYet : (Terms → Terms → Bool) → Placement → List Placement → List ℕ → Type 0
KnownYet before x ps known = (known ≡ []) ⊎ Known before x ps known

-- a plan that passes, of which nothing may be known yet
abbrev pub ReadyYet : (Terms → Terms → Bool) → ℕ → List Placement → Terms → List ℕ → Type 0
ReadyYet before m ps t known = (passes before m ps ≡ true) × ((known ≡ []) ⊎ Ready before m ps t known)

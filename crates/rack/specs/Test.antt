-- The plan test.
use Rattle.std.specs.Prelude.{◌≡◌, ℕ, zero, suc, ◌<◌, Bool, true, ◌&&◌, ◌||◌, List, [], ◌∷◌, is_some, Option, ◌==◌, ◌≢◌}
use Rattle.terms.specs.declared.terms.Terms.{Terms}
use Rattle.figures.specs.Figure.{figure_of}
use Rattle.rack.specs.declared.placement.Placement.{Placement}
use Rattle.rack.specs.Plan.{In}
use Rattle.rack.specs.Sets.{primary_copy, standby_copy, quiet_figure, loss}

-- the figure of a job's primary when machine f stops
abbrev pub loss_figure : (Terms → Terms → Bool) → List Placement → Placement → ℕ → Option ℕ
loss_figure before ps p f = figure_of before (loss before ps p.primary f) (primary_copy p)

-- the figure of a job's standby when the machine of its primary stops
abbrev pub standby_figure : (Terms → Terms → Bool) → List Placement → Placement → Option ℕ
standby_figure before ps p = figure_of before (loss before ps p.standby p.primary) (standby_copy before ps p)

-- what the test asks of one job
pub record Fits (before : Terms → Terms → Bool) (m : ℕ) (ps : List Placement) (p : Placement) : Type 0 where
  pub quiet : is_some (quiet_figure before ps p) ≡ true
  pub lost : (f : ℕ) → f < m → (f ≢ p.primary) → is_some (loss_figure before ps p f) ≡ true
  pub standby : is_some (standby_figure before ps p) ≡ true

-- a plan passes when every job fits
abbrev pub Passes : (Terms → Terms → Bool) → ℕ → List Placement → Type 0
Passes before m ps = (p : Placement) → In p ps → Fits before m ps p

-- the same as a test that computes
abbrev pub all_below : ℕ → (ℕ → Bool) → Bool
all_below zero test = true
all_below (suc n) test = all_below n test && test n

abbrev pub all_of : (Placement → Bool) → List Placement → Bool
all_of test [] = true
all_of test (p ∷ ps) = test p && all_of test ps

abbrev pub fits : (Terms → Terms → Bool) → ℕ → List Placement → Placement → Bool
fits before m ps p =
    is_some (quiet_figure before ps p)
    && (all_below m (λ f. (f == p.primary) || is_some (loss_figure before ps p f)) && is_some (standby_figure before ps p))

abbrev pub passes : (Terms → Terms → Bool) → ℕ → List Placement → Bool
passes before m ps = all_of (fits before m ps) ps

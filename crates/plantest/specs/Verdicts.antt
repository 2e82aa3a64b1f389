-- What each verdict of the plan test means.
use Rattle.std.specs.Prelude.{ℕ, Bool, List}
use Rattle.terms.specs.declared.terms.Terms.{Terms}
use Rattle.rack.specs.declared.placement.Placement.{Placement}
use Rattle.rack.specs.Plan.{Plan}
use Rattle.rack.specs.Test.{Passes}
use Rattle.rack.specs.Covered.{Covered, OneRun}
use Rattle.rack.specs.Fewer.{FewerPass}
use Rattle.plantest.specs.declared.verdict.Verdict.{Verdict}
use Rattle.plantest.specs.declared.verdict.Verdict.TheVariants.{NoPlan, Fails, Passing}

-- a plan that passes: every day has its one run, and in it every call-up is served in time, whichever machine stops;
-- and each part of it passes too
pub record Safe (before : Terms → Terms → Bool) (m : ℕ) (ps : List Placement) : Type 0 where
  pub plan : Plan m ps
  pub passes : Passes before m ps
  pub covered : Covered before m ps
  pub fewer : FewerPass before m ps

-- a plan that fails still has its one run on every day
abbrev pub Means : (Terms → Terms → Bool) → ℕ → List Placement → Verdict → Type 0
Means before m ps NoPlan = Plan m ps → ⊥
Means before m ps Fails = Plan m ps × (Passes before m ps → ⊥) × OneRun before ps
Means before m ps Passing = Safe before m ps

-- Fewer, shorter or earlier copies never make a figure larger.
use Rattle.std.specs.Prelude.{◌≡◌, ℕ, ◌≤◌, Bool, true, List, [], ◌∷◌, Some, None, Option}
use Rattle.terms.specs.declared.terms.Terms.{Terms}
use Rattle.figures.specs.declared.copies.JobCopy.{JobCopy}
use Rattle.figures.specs.Demand.{charge}
use Rattle.figures.specs.Figure.{figure_of}

-- a copy that asks no more: no longer a run, no more often, no later
pub record NoHeavier (c d : JobCopy) : Type 0 where
  pub shorter : charge c ≤ charge d
  pub rarer : d.terms.period ≤ c.terms.period
  pub earlier : c.lateness ≤ d.lateness

-- the set of `light` is that of `heavy` with copies left out or no heavier, of which none goes before `light`
-- unless the one in its place goes before `heavy`
pub data Lighter (before : Terms → Terms → Bool) (light heavy : JobCopy) : List JobCopy → List JobCopy → Type 0 where
  empty : Lighter before light heavy [] []
  left_out : {cs ds : List JobCopy} (d : JobCopy) → Lighter before light heavy cs ds → Lighter before light heavy cs (d ∷ ds)
  replaced :
      {cs ds : List JobCopy} (c d : JobCopy) → NoHeavier c d →
      (before c.terms light.terms ≡ true → before d.terms heavy.terms ≡ true) →
      Lighter before light heavy cs ds → Lighter before light heavy (c ∷ cs) (d ∷ ds)

-- where there is a figure, a copy no heavier and no sooner due has one in every lighter set, and it is no larger
abbrev pub NoLonger : (Terms → Terms → Bool) → List JobCopy → JobCopy → Option ℕ → Type 0
NoLonger before set own None = Unit {0}
NoLonger before set own (Some f) =
    (light_set : List JobCopy) (light : JobCopy) →
    Lighter before light own light_set set → NoHeavier light own → own.terms.deadline ≤ light.terms.deadline →
    (e : ℕ) × (figure_of before light_set light ≡ Some e) × (e ≤ f)

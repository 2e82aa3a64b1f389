-- The three figures of a job of a plan that passes are there, and the second is the largest.
use Rattle.std.proofs.Common.{◌≡◌, ℕ, zero, suc, ◌<◌, ◌≤◌, Bool, true, ◌⊎◌, List, is_some, Some, None, Option, sym, refl, ap, ◌∙◌, inl, inr, ⊎_elim, arith}
use Rattle.std.proofs.lemmas.Bool.{cases_eq, cases_lt}
use Rattle.std.proofs.lemmas.Grind.{common_steps}
use Rattle.terms.specs.declared.terms.Terms.{Terms}
use Rattle.rack.specs.declared.placement.Placement.{Placement}
use Rattle.rack.specs.Plan.{In, number}
use Rattle.rack.specs.Sets.{quiet_figure}
use Rattle.rack.specs.Test.{loss_figure, standby_figure}
use Rattle.rack.proofs.Same.{same_number}
use Rattle.roster.specs.Changes.{find}
use Rattle.roster.proofs.Jobs.{find_some, find_none}
use Rattle.plantest.specs.JobFigures.{shown, lost_shown, largest_lost}
use Rattle.plantest.specs.Verdicts.{Safe}
use Rattle.calls.specs.Meanings.{Figured}

-- a figure that is there is shown
shown_some : (o : Option ℕ) → is_some o ≡ true → o ≡ Some (shown o)
shown_some o e = grind (arith, common_steps)

-- a planned job is found by its number
pub found_planned : (before : Terms → Terms → Bool) (m : ℕ) (ps : List Placement) (p : Placement) → Safe before m ps → In p ps → find (number p) ps ≡ Some p
found_planned before m ps p safe at = go (find (number p) ps) refl
  where
    go : (o : Option Placement) → find (number p) ps ≡ o → find (number p) ps ≡ Some p
    go None e = absurd (find_none (number p) ps e p at refl)
    go (Some q) e =
        let there = find_some (number p) ps q e in
        e ∙ ap (λ (x : Placement). Some x) (same_number ps q p safe.plan.arranged.once there.0 at there.1)

module _ (before : Terms → Terms → Bool) (ps : List Placement) (p : Placement) where
  -- none is larger than the largest
  lost_below : (n f : ℕ) → f < n → lost_shown before ps p f ≤ largest_lost before ps p n
  lost_below zero f lt = omega arith
  lost_below (suc n) f lt = grind (arith, common_steps, lost_below n f)

  -- and one is as large, unless the largest is 0
  lost_reached : (n : ℕ) → (largest_lost before ps p n ≡ 0) ⊎ ((f : ℕ) × (f < n) × (lost_shown before ps p f ≡ largest_lost before ps p n))
  lost_reached zero = inl refl
  lost_reached (suc n) =
      ⊎_elim
      (λ less. inr (n, omega arith, omega (arith, less)))
      (λ most.
      ⊎_elim
      (λ none. inl (omega (arith, none, most)))
      (λ at. inr (at.0, omega (arith, at.1), at.2 ∙ omega (arith, most)))
      (lost_reached n))
      (cases_lt (largest_lost before ps p n) (lost_shown before ps p n))

  -- another machine's figure is shown as it is
  lost_elsewhere : (f : ℕ) → (f ≡ p.primary → ⊥) → lost_shown before ps p f ≡ shown (loss_figure before ps p f)
  lost_elsewhere f other = grind (arith, common_steps)

  lost_own : lost_shown before ps p p.primary ≡ 0
  lost_own = grind (arith, common_steps)

-- some machine is not the primary's
another : (m g : ℕ) → 2 ≤ m → (f : ℕ) × (f < m) × (f ≡ g → ⊥)
another m g two =
    ⊎_elim
    (λ (zeroth : g ≡ 0). (1, omega arith, λ same. let z : ⊥ = omega (arith, same, zeroth) in z))
    (λ (other : g ≡ 0 → ⊥). (0, omega arith, λ same. other (sym same)))
    (cases_eq g 0)

module _ (before : Terms → Terms → Bool) (m : ℕ) (ps : List Placement) (p : Placement) (safe : Safe before m ps) (at : In p ps) where
  figure_there : (f : ℕ) → f < m → (f ≡ p.primary → ⊥) → loss_figure before ps p f ≡ Some (lost_shown before ps p f)
  figure_there f lt other =
      shown_some (loss_figure before ps p f) ((safe.passes p at).lost f lt other) ∙ ap (λ (x : ℕ). Some x) (sym (lost_elsewhere before ps p f other))

  -- where the largest is 0, every other machine reaches it
  zero_reached : largest_lost before ps p m ≡ 0 → (f : ℕ) × (f < m) × (f ≡ p.primary → ⊥) × (loss_figure before ps p f ≡ Some (largest_lost before ps p m))
  zero_reached none =
      let f = another m p.primary safe.plan.from_two in
      let same : lost_shown before ps p f.0 ≡ largest_lost before ps p m = omega (arith, none, lost_below before ps p m f.0 f.1) in
      (f.0, f.1, f.2, figure_there f.0 f.1 f.2 ∙ ap (λ (x : ℕ). Some x) same)

  reached : (f : ℕ) × (f < m) × (f ≡ p.primary → ⊥) × (loss_figure before ps p f ≡ Some (largest_lost before ps p m))
  reached =
      ⊎_elim
      zero_reached
      (λ (w : (f : ℕ) × (f < m) × (lost_shown before ps p f ≡ largest_lost before ps p m)).
      ⊎_elim
      (λ (own : w.0 ≡ p.primary).
      zero_reached (sym w.2 ∙ ap (lost_shown before ps p) own ∙ lost_own before ps p))
      (λ (other : w.0 ≡ p.primary → ⊥).
      (w.0, w.1, other, figure_there w.0 w.1 other ∙ ap (λ (x : ℕ). Some x) w.2))
      (cases_eq w.0 p.primary))
      (lost_reached before ps p m)

  pub figured_so :
      Figured before m ps p (shown (quiet_figure before ps p)) (largest_lost before ps p m) (shown (standby_figure before ps p))
  figured_so =
      record {
        quiet = shown_some (quiet_figure before ps p) (safe.passes p at).quiet;
        none_larger = λ f lt other. (lost_shown before ps p f, figure_there f lt other, lost_below before ps p m f lt);
        reached = reached;
        standby = shown_some (standby_figure before ps p) (safe.passes p at).standby;
      }

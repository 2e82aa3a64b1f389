-- The climb finds the least fixed point.
use Rattle.std.proofs.Common.{◌≡◌, ℕ, zero, suc, ◌+◌, ◌<◌, ◌≤◌, Bool, List, Some, None, Option, sym, refl, ap, ⊎_elim, arith}
use Rattle.std.proofs.lemmas.Bool.{cases_lt, cases_eq, lt-ltb, le-ltb, eq-eqb, ne_eqb}
use Rattle.terms.specs.declared.terms.Terms.{Terms}
use Rattle.figures.specs.declared.copies.JobCopy.{JobCopy}
use Rattle.figures.specs.Demand.{charge, demand}
use Rattle.figures.specs.Window.{Window, Windowed}
use Rattle.figures.specs.Figure.{Figured, climb, figure_of, with_lateness}
use Rattle.figures.proofs.Demands.{charge_some, demand_mono}

module _ (before : Terms → Terms → Bool) (set : List JobCopy) (own : JobCopy) where
  -- x is at or below every fixed point, and still rising
  pub record Below (x : ℕ) : Type 0 where
    pub some : 1 ≤ x
    pub rises : x ≤ demand before set own x
    pub under : (y : ℕ) → 1 ≤ y → y ≡ demand before set own y → x ≤ y

  pub below_start : Below (charge own)
  below_start = record {
    some = charge_some own;
    rises = omega arith;
    under = λ y some fixed. omega (arith, fixed);
  }

  pub below_next : (x : ℕ) → Below x → Below (demand before set own x)
  below_next x b = record {
    some = omega (arith, b.some, b.rises);
    rises = demand_mono before set own x (demand before set own x) b.rises;
    under = λ y some fixed. omega (arith, fixed, demand_mono before set own x y (b.under y some fixed));
  }

  pub below_window : (x : ℕ) → Below x → x ≡ demand before set own x → Window before set own x
  below_window x b e = record { some = b.some; fixed = e; least = b.under }

  -- a window is no shorter than what is asked of a number below it
  pub below_within : (x y : ℕ) → Below x → Window before set own y → demand before set own x ≤ y
  below_within x y b w = omega (arith, w.fixed, demand_mono before set own x y (b.under y w.some w.fixed))

  same_window : (x y : ℕ) → Window before set own x → Window before set own y → x ≡ y
  same_window x y w v = omega (arith, w.least y v.some v.fixed, v.least x w.some w.fixed)

  pub figured_same : (r s : Option ℕ) → Figured before set own r → Figured before set own s → r ≡ s
  figured_same None None f g = refl
  figured_same None (Some b) f g = absurd (omega (arith, f g.0 g.1, g.2, g.3))
  figured_same (Some a) None f g = absurd (omega (arith, g f.0 f.1, f.2, f.3))
  figured_same (Some a) (Some b) f g =
      let same = same_window f.0 g.0 f.1 g.1 in
      let e : a ≡ b = omega (arith, f.2, g.2, same) in
      ap Some e

  climb_figured : (turns x : ℕ) → Below x → own.terms.deadline < x + turns → Figured before set own (climb before set own turns x)
  climb_figured zero x b far = λ y w. omega (arith, b.under y w.some w.fixed)
  climb_figured (suc turns) x b far =
      ⊎_elim
      (λ late. rw (lt-ltb own.terms.deadline (x + own.lateness) late) (λ y w. omega (arith, b.under y w.some w.fixed)))
      (λ in_time.
      rw (le-ltb own.terms.deadline (x + own.lateness) in_time)
      (⊎_elim
      (λ rests. rw (eq-eqb (demand before set own x) x rests) (x, below_window x b (sym rests), refl, in_time))
      (λ goes_on. rw (ne_eqb (demand before set own x) x goes_on) (climb_figured turns (demand before set own x) (below_next x b) (omega (arith, b.rises))))
      (cases_eq (demand before set own x) x)))
      (cases_lt own.terms.deadline (x + own.lateness))

  pub figure_figured : Figured before set own (figure_of before set own)
  figure_figured = climb_figured (own.terms.deadline + 1) (charge own) below_start (omega (arith, below_start.some))

  pub figure_is : (r : Option ℕ) → Figured before set own r → r ≡ figure_of before set own
  figure_is r f = figured_same r (figure_of before set own) f figure_figured

  -- a window and the lateness are the figure
  pub figure_with : (r : Option ℕ) → Windowed before set own r → with_lateness own r ≡ figure_of before set own
  figure_with None w = figure_is None w
  figure_with (Some x) w = figure_is (Some (x + own.lateness)) (x, w.0, refl, w.1)

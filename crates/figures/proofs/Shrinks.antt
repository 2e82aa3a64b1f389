-- Where less is asked, the figure is no larger.
use Rattle.std.proofs.Common.{◌≡◌, ℕ, zero, suc, ◌+◌, ◌-◌, ◌*◌, ◌<◌, ◌≤◌, Bool, true, false, cond, ◌⊎◌, List, Some, None, Option, sym, refl, ap, inl, inr, ⊎_elim, mul-le-mul, arith}
use Rattle.std.proofs.lemmas.Bool.{cases_lt, cond-true}
use Rattle.std.proofs.lemmas.Nat.{div_below}
use Rattle.terms.specs.declared.terms.Terms.{Terms}
use Rattle.figures.specs.declared.copies.JobCopy.{JobCopy}
use Rattle.figures.specs.Demand.{ceil, work_in, all_held_off, demand}
use Rattle.figures.specs.Window.{Window}
use Rattle.figures.specs.Figure.{Figured, figure_of}
use Rattle.figures.specs.Lighter.{NoHeavier, Lighter, empty, left_out, replaced, NoLonger}
use Rattle.figures.proofs.Demands.{charge_some, period_some, demand_mono}
use Rattle.figures.proofs.Climbs.{figure_figured, figure_is}

-- the least number below n that a function does not raise
lowest : (f : ℕ → ℕ) (n : ℕ) → ((m : ℕ) × (m < n) × (f m ≤ m) × ((k : ℕ) → k < m → k < f k)) ⊎ ((k : ℕ) → k < n → k < f k)
lowest f zero = inr (λ k l. absurd (omega arith))
lowest f (suc n) =
    ⊎_elim
    (λ p. inl (p.0, omega arith, p.2, p.3))
    (λ none.
    ⊎_elim
    (λ up. inr (λ k l. ⊎_elim (λ less. none k less) (λ most. let e : k ≡ n = omega arith in omega (arith, e, ap f e)) (cases_lt k n)))
    (λ down. inl (n, omega arith, down, none))
    (cases_lt n (f n)))
    (lowest f n)

-- a monotone function that does not raise x has a least fixed point up to x
resting : (f : ℕ → ℕ) → ((a b : ℕ) → a ≤ b → f a ≤ f b) → (x : ℕ) → f x ≤ x → (y : ℕ) × (y ≤ x) × (y ≡ f y) × ((z : ℕ) → z ≡ f z → y ≤ z)
resting f mono x down =
    ⊎_elim
    (λ p.
    let y : ℕ = p.0 in
    let up : y ≤ f y = ⊎_elim (λ less. absurd (omega (arith, p.3 (f y) less, mono (f y) y p.2))) (λ most. most) (cases_lt (f y) y) in
    (y, omega arith, omega (arith, up, p.2), λ z e. ⊎_elim (λ less. absurd (omega (arith, p.3 z less, e))) (λ most. most) (cases_lt z y)))
    (λ none. absurd (omega (arith, none x (omega arith))))
    (lowest f (suc x))

module _ (before : Terms → Terms → Bool) where
  -- a window that holds all that is asked is no shorter than the least one
  pub window_within : (set : List JobCopy) (own : JobCopy) (x : ℕ) → demand before set own x ≤ x → (y : ℕ) × Window before set own y × (y ≤ x)
  window_within set own x holds =
      let p = resting (demand before set own) (demand_mono before set own) x holds in (
        p.0,
        record { some = omega (arith, p.2, charge_some own); fixed = p.2; least = λ z some fixed. p.3 z fixed },
        p.1,
      )

  -- where less is asked in every window, and the copy is no later and no sooner due, the figure is no larger
  pub figure_shrinks :
      (light_set set : List JobCopy) (light own : JobCopy) →
      ((x : ℕ) → demand before light_set light x ≤ demand before set own x) →
      light.lateness ≤ own.lateness → own.terms.deadline ≤ light.terms.deadline →
      (f : ℕ) → figure_of before set own ≡ Some f → (e : ℕ) × (figure_of before light_set light ≡ Some e) × (e ≤ f)
  figure_shrinks light_set set light own less earlier due f is =
      let found : Figured before set own (Some f) = rw is at (figure_figured before set own) in
      let x : ℕ = found.0 in
      let w = window_within light_set light x (omega (arith, less x, found.1.fixed)) in
      let e : ℕ = w.0 + light.lateness in
      let figured : Figured before light_set light (Some e) = (w.0, w.1, refl, omega (arith, w.2, found.2, found.3)) in
      (e, sym (figure_is before light_set light (Some e) figured), omega (arith, w.2, found.2))

  ceil_anti : (a b k j : ℕ) → 1 ≤ k → k ≤ j → a ≤ b → ceil a j ≤ ceil b k
  ceil_anti a b k j some longer less =
      let c = ceil b k in
      let up : b ≤ c * k = omega arith in
      let wide : c * k ≤ c * j = mul-le-mul (omega arith) longer in
      omega (arith, div_below (a + (j - 1)) j (suc c) (omega arith) (omega arith))

  work_less : (c d : JobCopy) → NoHeavier c d → (x : ℕ) → work_in c x ≤ work_in d x
  work_less c d l x =
      mul-le-mul l.shorter (ceil_anti (x + c.lateness) (x + d.lateness) d.terms.period c.terms.period (period_some d.terms) l.rarer (omega (arith, l.earlier)))

  cond_less : (b c : Bool) (m n : ℕ) → (b ≡ true → c ≡ true) → m ≤ n → cond b m 0 ≤ cond c n 0
  cond_less true c m n same less = omega (arith, less, cond-true c n 0 (same refl))
  cond_less false c m n same less = omega arith

  lighter_asks : {light own : JobCopy} {cs ds : List JobCopy} → Lighter before light own cs ds → (x : ℕ) → all_held_off before cs light x ≤ all_held_off before ds own x
  lighter_asks empty x = omega arith
  lighter_asks (left_out d rest) x = omega (arith, lighter_asks rest x)
  lighter_asks {light} {own} (replaced c d l same rest) x =
      omega (arith, lighter_asks rest x, cond_less (before c.terms light.terms) (before d.terms own.terms) (work_in c x) (work_in d x) same (work_less c d l x))

  pub no_longer : (set : List JobCopy) (own : JobCopy) (r : Option ℕ) → r ≡ figure_of before set own → NoLonger before set own r
  no_longer set own None is = tt
  no_longer set own (Some f) is =
      λ light_set light lighter l due.
      figure_shrinks light_set set light own (λ x. omega (arith, lighter_asks lighter x, l.shorter)) l.earlier due f (sym is)

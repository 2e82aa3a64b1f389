-- The plan test that computes and the relation agree, and what a loop needs on the way.
use Rattle.std.proofs.Common.{◌≡◌, ℕ, zero, suc, ◌+◌, ◌<◌, Bool, true, false, ◌&&◌, ◌||◌, eqb, List, [], ◌∷◌, length, get_or, take, is_some, sym, refl, ap, ◌∙◌, inl, inr, ⊎_elim, le_of_suc-le-suc, not-suc-le-zero, add-one, arith}
use Rattle.std.proofs.lemmas.Bool.{cases_lt, cases_eq, eq-eqb, eqb-true, and_from, and_parts, and_left, and_right, or_cases, or_left, or_right}
use Rattle.terms.specs.declared.terms.Terms.{Terms}
use Rattle.rack.specs.declared.placement.Placement.{Placement}
use Rattle.rack.specs.Plan.{In}
use Rattle.rack.specs.Sets.{quiet_figure}
use Rattle.rack.specs.Test.{loss_figure, standby_figure, Fits, Passes, all_below, all_of, fits, passes}

-- what stands at a place of a list stands in the list
pub in_at : {A : Type 0} (ps : List A) (i : ℕ) (x : A) → i < length ps → x ≡ get_or ps i x → In x ps
in_at [] i x lt read = absurd (not-suc-le-zero lt)
in_at (y ∷ ps) zero x lt read = inl read
in_at (y ∷ ps) (suc i) x lt read = inr (in_at ps i x (le_of_suc-le-suc lt) read)

-- what stands in a list stands at a place of it
pub at_in : {A : Type 0} (ps : List A) (x : A) → In x ps → (i : ℕ) × (i < length ps) × (get_or ps i x ≡ x)
at_in [] x at = absurd at
at_in (y ∷ ps) x at =
    ⊎_elim
    (λ first. (zero, omega arith, sym first))
    (λ later. let r = at_in ps x later in (suc r.0, omega (arith, r.1), r.2))
    at

module _ (test : Placement → Bool) where
  -- a test that all of a list pass, each passes
  pub all_of_each : (ps : List Placement) (p : Placement) → all_of test ps ≡ true → In p ps → test p ≡ true
  all_of_each [] p all at = absurd at
  all_of_each (q ∷ ps) p all at =
      let parts = and_parts (test q) (all_of test ps) all in
      ⊎_elim (λ first. ap test first ∙ parts.0) (λ later. all_of_each ps p parts.1 later) at

  -- a test that each of a list passes, all pass
  pub each_all_of : (ps : List Placement) → ((p : Placement) → In p ps → test p ≡ true) → all_of test ps ≡ true
  each_all_of [] each = refl
  each_all_of (q ∷ ps) each = and_from (test q) (all_of test ps) (each q (inl refl)) (each_all_of ps (λ p at. each p (inr at)))

  -- a test that one of a list fails, all fail
  pub all_of_part_false : (ps : List Placement) (p : Placement) → In p ps → test p ≡ false → all_of test ps ≡ false
  all_of_part_false [] p at fails = absurd at
  all_of_part_false (q ∷ ps) p at fails =
      ⊎_elim
      (λ first. and_left (test q) (all_of test ps) (ap test (sym first) ∙ fails))
      (λ later. and_right (test q) (all_of test ps) (all_of_part_false ps p later fails))
      at

  -- one placement more of the list
  pub all_of_more :
      (ps : List Placement) (n : ℕ) (p : Placement) → n < length ps → p ≡ get_or ps n p →
      all_of test (take (n + 1) ps) ≡ (all_of test (take n ps) && test p)
  all_of_more ps n p lt read = rw add-one (all_of_suc ps n p lt read)
    where
      -- of three in a row, the last may stand apart
      and_last : (a b c d : Bool) → b ≡ (c && d) → (a && b) ≡ ((a && c) && d)
      and_last true b c d e = e
      and_last false b c d e = refl

      -- one alone, before or after
      and_one : (a b : Bool) → a ≡ b → (a && true) ≡ (true && b)
      and_one true b e = e
      and_one false b e = e

      -- the same at the successor
      all_of_suc :
          (ps : List Placement) (n : ℕ) (p : Placement) → n < length ps → p ≡ get_or ps n p →
          all_of test (take (suc n) ps) ≡ (all_of test (take n ps) && test p)
      all_of_suc [] n p lt read = absurd (not-suc-le-zero lt)
      all_of_suc (q ∷ ps) zero p lt read = and_one (test q) (test p) (ap test (sym read))
      all_of_suc (q ∷ ps) (suc n) p lt read =
          and_last (test q) (all_of test (take (suc n) ps)) (all_of test (take n ps)) (test p) (all_of_suc ps n p (le_of_suc-le-suc lt) read)

module _ (test : ℕ → Bool) where
  -- a test that all below n pass, each below n passes
  pub all_below_each : (n f : ℕ) → all_below n test ≡ true → f < n → test f ≡ true
  all_below_each zero f all lt = absurd (not-suc-le-zero lt)
  all_below_each (suc n) f all lt =
      let parts = and_parts (all_below n test) (test n) all in
      ⊎_elim
      (λ less. all_below_each n f parts.0 less)
      (λ most. let e : f ≡ n = omega arith in ap test e ∙ parts.1)
      (cases_lt f n)

  -- a test that each below n passes, all below n pass
  pub each_all_below : (n : ℕ) → ((f : ℕ) → f < n → test f ≡ true) → all_below n test ≡ true
  each_all_below zero each = refl
  each_all_below (suc n) each =
      and_from (all_below n test) (test n) (each_all_below n (λ f lt. each f (omega arith))) (each n (omega arith))

  -- a test that one below n fails, all below n fail
  pub all_below_part_false : (n f : ℕ) → f < n → test f ≡ false → all_below n test ≡ false
  all_below_part_false zero f lt fails = absurd (not-suc-le-zero lt)
  all_below_part_false (suc n) f lt fails =
      ⊎_elim
      (λ less. and_left (all_below n test) (test n) (all_below_part_false n f less fails))
      (λ most. let e : f ≡ n = omega arith in and_right (all_below n test) (test n) (ap test (sym e) ∙ fails))
      (cases_lt f n)

  -- one machine more
  pub all_below_more : (n : ℕ) → all_below (n + 1) test ≡ (all_below n test && test n)
  all_below_more n = rw add-one

module _ (before : Terms → Terms → Bool) (m : ℕ) (ps : List Placement) where
  -- what the test asks of a job when machine f stops
  abbrev pub lost_fits : Placement → ℕ → Bool
  lost_fits p f = eqb f p.primary || is_some (loss_figure before ps p f)

  -- a job that passes its part of the test fits
  pub fits_means : (p : Placement) → fits before m ps p ≡ true → Fits before m ps p
  fits_means p all =
      let outer =
      and_parts (is_some (quiet_figure before ps p)) (all_below m (lost_fits p) && is_some (standby_figure before ps p)) all in
      let inner = and_parts (all_below m (lost_fits p)) (is_some (standby_figure before ps p)) outer.1 in
      record {
        quiet = outer.0;
        lost = λ f lt elsewhere.
            ⊎_elim
            (λ own. absurd (elsewhere (eqb-true f p.primary own)))
            (λ some. some)
            (or_cases (eqb f p.primary) (is_some (loss_figure before ps p f)) (all_below_each (lost_fits p) m f inner.0 lt));
        standby = inner.1;
      }

  -- a job that fits passes its part of the test
  pub fits_true : (p : Placement) → Fits before m ps p → fits before m ps p ≡ true
  fits_true p fit =
      and_from (is_some (quiet_figure before ps p)) (all_below m (lost_fits p) && is_some (standby_figure before ps p)) fit.quiet
      (and_from (all_below m (lost_fits p)) (is_some (standby_figure before ps p))
      (each_all_below (lost_fits p) m
      (λ f lt.
      ⊎_elim
      (λ own. or_left (eqb f p.primary) (is_some (loss_figure before ps p f)) (eq-eqb f p.primary own))
      (λ elsewhere. or_right (eqb f p.primary) (is_some (loss_figure before ps p f)) (fit.lost f lt elsewhere))
      (cases_eq f p.primary)))
      fit.standby)

  -- where the test says yes, the plan passes
  pub passes_means : passes before m ps ≡ true → Passes before m ps
  passes_means all = λ p at. fits_means p (all_of_each (fits before m ps) ps p all at)

  -- where the plan passes, the test says yes
  pub passes_true : Passes before m ps → passes before m ps ≡ true
  passes_true pass = each_all_of (fits before m ps) ps (λ p at. fits_true p (pass p at))

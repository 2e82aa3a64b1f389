-- The sweep, step by step, and that it is the plan test.
use Rattle.std.proofs.Common.{◌≡◌, ℕ, ◌+◌, ◌<◌, Bool, true, false, not, ◌&&◌, ◌||◌, eqb, List, [], ◌∷◌, ◌++◌, map, length, get_or, take, is_some, Some, Option, unwrap_or, sym, refl, ap, ◌∙◌, ⊎_elim}
use Rattle.std.specs.List.{list_all, zip}
use Rattle.std.proofs.lemmas.List as lists
use Rattle.std.proofs.lemmas.List.{get_or-map, length-map}
use Rattle.std.proofs.lemmas.Bool.{and_from, and_parts, and_left, and_right, or_right, both_ways, cases_eq, eq-eqb, eqb-true, ne_eqb}
use Rattle.terms.specs.declared.terms.Terms.{Terms}
use Rattle.figures.specs.declared.copies.JobCopy.{JobCopy}
use Rattle.figures.specs.Figure.{figure_of}
use Rattle.rack.specs.declared.placement.Placement.{Placement}
use Rattle.rack.specs.Plan.{In, Arranged}
use Rattle.rack.specs.Sets.{primary_copy, standby_copy, quiet_figure, passive_late, loss}
use Rattle.rack.specs.Test.{all_of, all_below, loss_figure, standby_figure, Passes, passes}
use Rattle.rack.proofs.Tested.{all_of_more, all_of_each, each_all_of, all_below_each, each_all_below, all_below_part_false, passes_means, passes_true}
use Rattle.plantest.specs.Parts.{loss_with}
use Rattle.plantest.specs.Sweep.{has_quiet, pair_fits, pair_passes, lost_passes, machine_passes, quiet_passes, sweep, late_fits, all_fit}
use Rattle.plantest.proofs.Gathers.{loss_is}

-- the test of all pairs is the test of both lists side by side
pub all_fit_zip :
    (before : Terms → Terms → Bool) (set : List JobCopy) (g f : ℕ) (lates : List ℕ) (ps : List Placement) →
    list_all (λ (t : Placement × ℕ). late_fits before set g f t.1 t.0) (zip ps lates) ≡ all_fit before set g f lates ps
all_fit_zip before set g f [] [] = refl
all_fit_zip before set g f [] (p ∷ ps) = refl
all_fit_zip before set g f (late ∷ lates) [] = refl
all_fit_zip before set g f (late ∷ lates) (p ∷ ps) = ap (λ z. late_fits before set g f late p && z) (all_fit_zip before set g f lates ps)

-- with the quiet figures as latenesses, in the loss set, it is the pair's test
pub all_fit_is :
    (before : Terms → Terms → Bool) (all ps : List Placement) (set : List JobCopy) (g f : ℕ) → set ≡ loss before all g f →
    all_fit before set g f (map (passive_late before all) ps) ps ≡ all_of (pair_fits before all g f) ps
all_fit_is before all [] set g f whole = refl
all_fit_is before all (p ∷ ps) set g f whole =
    ap (λ s. late_fits before s g f (passive_late before all p) p && all_fit before set g f (map (passive_late before all) ps) ps) whole
    ∙ ap (λ z. pair_fits before all g f p && z) (all_fit_is before all ps set g f whole)

-- the same with latenesses that are the quiet figures
pub pair_is :
    (before : Terms → Terms → Bool) (ps : List Placement) (lates : List ℕ) (g f : ℕ) → lates ≡ map (passive_late before ps) ps →
    all_fit before (loss_with lates g f ps) g f lates ps ≡ pair_passes before ps g f
pair_is before ps lates g f figures =
    ap (λ l. all_fit before (loss_with l g f ps) g f l ps) figures
    ∙ all_fit_is before ps ps (loss_with (map (passive_late before ps) ps) g f ps) g f (loss_is before ps ps g f)

or_second : (a b : Bool) → a ≡ false → (a || b) ≡ true → b ≡ true
or_second true b e t = absurd (both_ways true e refl)
or_second false b e t = t

-- a premise as a test: it is not met, or what it asks holds
unless : (a b : Bool) → (a ≡ true → b ≡ true) → (not a || b) ≡ true
unless true b h = h refl
unless false b h = refl

unless_met : (a b : Bool) → (not a || b) ≡ true → a ≡ true → b ≡ true
unless_met true b h e = h
unless_met false b h e = absurd (both_ways false refl e)

-- two tests that hold under the same conditions are equal
same_test : (a b : Bool) → (a ≡ true → b ≡ true) → (b ≡ true → a ≡ true) → a ≡ b
same_test true b f g = sym (f refl)
same_test false true f g = g refl
same_test false false f g = refl

module _ (before : Terms → Terms → Bool) (m : ℕ) (ps : List Placement) (arranged : Arranged m ps) where
  -- what the sweep asks of a pair of machines, for one placement
  pair_at : (g f : ℕ) (p : Placement) → sweep before m ps ≡ true → g < m → f < m → (f ≡ g → ⊥) → In p ps → pair_fits before ps g f p ≡ true
  pair_at g f p swept g_in f_in other in_ps =
      let at_g = all_below_each (machine_passes before m ps) m g (and_parts _ _ swept).1 g_in in
      let at_f = all_below_each (lost_passes before ps g) m f at_g f_in in
      all_of_each (pair_fits before ps g f) ps p (or_second (eqb f g) (pair_passes before ps g f) (ne_eqb f g other) at_f) in_ps

  pub sweep_means : sweep before m ps ≡ true → Passes before m ps
  sweep_means swept p in_ps =
      let placed = arranged.placed p in_ps in
      record {
        quiet = all_of_each (has_quiet before ps) ps p (and_parts _ _ swept).0 in_ps;
        lost = λ f f_in other.
            unless_met (eqb p.primary p.primary) (is_some (loss_figure before ps p f)) (and_parts _ _ (pair_at p.primary f p swept placed.primary f_in other in_ps)).0 (eq-eqb p.primary p.primary refl);
        standby =
            unless_met (eqb p.standby p.standby && eqb p.primary p.primary) (is_some (standby_figure before ps p)) (and_parts _ _ (pair_at p.standby p.primary p swept placed.standby placed.primary placed.apart in_ps)).1 (and_from _ _ (eq-eqb p.standby p.standby refl) (eq-eqb p.primary p.primary refl));
      }

  pair_true : (g f : ℕ) → f < m → (f ≡ g → ⊥) → Passes before m ps → (p : Placement) → In p ps → pair_fits before ps g f p ≡ true
  pair_true g f f_in other pass p in_ps =
      let fit = pass p in_ps in
      and_from _ _
      (unless (eqb p.primary g) (is_some (figure_of before (loss before ps g f) (primary_copy p)))
      (λ e.
      let here : p.primary ≡ g = eqb-true p.primary g e in
      ap (λ z. is_some (figure_of before (loss before ps z f) (primary_copy p))) (sym here) ∙ fit.lost f f_in (λ same. other (same ∙ here))))
      (unless (eqb p.standby g && eqb p.primary f) (is_some (figure_of before (loss before ps g f) (standby_copy before ps p)))
      (λ e.
      let both = and_parts _ _ e in
      ap (λ z. is_some (figure_of before (loss before ps z f) (standby_copy before ps p))) (sym (eqb-true p.standby g both.0))
      ∙ ap (λ z. is_some (figure_of before (loss before ps p.standby z) (standby_copy before ps p))) (sym (eqb-true p.primary f both.1))
      ∙ fit.standby))

  pub sweep_true : Passes before m ps → sweep before m ps ≡ true
  sweep_true pass =
      and_from _ _
      (each_all_of (has_quiet before ps) ps (λ p in_ps. (pass p in_ps).quiet))
      (each_all_below (machine_passes before m ps) m
      (λ g g_in.
      each_all_below (lost_passes before ps g) m
      (λ f f_in.
      ⊎_elim
      (λ same. ap (λ z. z || pair_passes before ps g f) (eq-eqb f g same))
      (λ other. or_right (eqb f g) (pair_passes before ps g f) (each_all_of (pair_fits before ps g f) ps (pair_true g f f_in other pass)))
      (cases_eq f g))))

  -- the sweep is the plan test
  pub sweep_is : sweep before m ps ≡ passes before m ps
  sweep_is = same_test (sweep before m ps) (passes before m ps) (λ swept. passes_true before m ps (sweep_means swept)) (λ passed. sweep_true (passes_means before m ps passed))

  -- a primary without a quiet figure fails the plan
  pub quiet_fails : quiet_passes before ps ≡ false → passes before m ps ≡ false
  quiet_fails e = sym sweep_is ∙ and_left _ _ e

  -- so does a machine
  pub machine_fails : (g : ℕ) → g < m → machine_passes before m ps g ≡ false → passes before m ps ≡ false
  machine_fails g g_in e = sym sweep_is ∙ and_right _ _ (all_below_part_false (machine_passes before m ps) m g g_in e)

  pub all_swept : quiet_passes before ps ≡ true → all_below m (machine_passes before m ps) ≡ true → passes before m ps ≡ true
  all_swept quiet machines = sym sweep_is ∙ and_from _ _ quiet machines

-- the figure of a copy in the gathered loss set
pub loss_found :
    (before : Terms → Terms → Bool) (ps : List Placement) (lates : List ℕ) (set : List JobCopy) (g f : ℕ) (own copy : JobCopy) (r : Option ℕ) →
    r ≡ figure_of before set own → set ≡ loss_with lates g f ps → lates ≡ map (passive_late before ps) ps → own ≡ copy →
    r ≡ figure_of before (loss before ps g f) copy
loss_found before ps lates set g f own copy r is gathered figures same =
    is
    ∙ ap (λ s. figure_of before s own) (gathered ∙ ap (λ l. loss_with l g f ps) figures ∙ loss_is before ps ps g f)
    ∙ ap (λ o. figure_of before (loss before ps g f) o) same

-- what a loop over a plan's latenesses needs
pub map_length : {A B : Type 0} (f : A → B) (xs : List A) → length (map f xs) ≡ length xs
map_length f xs = length-map xs f

pub map_at : {A : Type 0} (f : A → ℕ) (xs : List A) (n : ℕ) (x : A) → n < length xs → x ≡ get_or xs n x → get_or (map f xs) n 0 ≡ f x
map_at f xs n x lt read = get_or-map f xs n x 0 lt ∙ ap f (sym read)

pub map_more : {A B : Type 0} (f : A → B) (xs : List A) (n : ℕ) (x : A) → n < length xs → x ≡ get_or xs n x → map f (take (n + 1) xs) ≡ map f (take n xs) ++ f x ∷ []
map_more f xs n x lt read = lists.map_more f xs n x lt ∙ ap (λ z. map f (take n xs) ++ f z ∷ []) (sym read)

pub lates_long : (before : Terms → Terms → Bool) (ps : List Placement) (lates : List ℕ) → lates ≡ map (passive_late before ps) ps → length lates ≡ length ps
lates_long before ps lates figures = ap length figures ∙ map_length (passive_late before ps) ps

module _ (before : Terms → Terms → Bool) where
  -- the figure, where there is one, is the passive lateness
  pub passive_found : (ps : List Placement) (p : Placement) (late : ℕ) → Some late ≡ quiet_figure before ps p → late ≡ passive_late before ps p
  passive_found ps p late is = ap (λ r. unwrap_or r p.terms.deadline) is

  -- a figure more
  pub quiet_more : (all ps : List Placement) (n : ℕ) (p : Placement) (late : ℕ) → n < length ps → p ≡ get_or ps n p → Some late ≡ quiet_figure before all p → all_of (has_quiet before all) (take n ps) ≡ true → all_of (has_quiet before all) (take (n + 1) ps) ≡ true
  quiet_more all ps n p late lt read is so_far =
      all_of_more (has_quiet before all) ps n p lt read ∙ and_from _ _ so_far (ap is_some (sym is))

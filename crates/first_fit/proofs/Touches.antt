-- What a further job can change in a plan that passes: testing that alone is the plan test.
use Rattle.std.proofs.Common.{◌≡◌, ℕ, ◌<◌, Bool, true, false, cond, not, ◌&&◌, ◌||◌, eqb, ltb, List, [], ◌∷◌, ◌++◌, length, is_some, unwrap_or, sym, refl, ap, ◌∙◌, inl, inr, ⊎_elim, append-nil}
use Rattle.std.specs.Cmp as cmp
use Rattle.std.proofs.lemmas.Bool.{and_from, and_parts, and_cases, both_ways, cases_Bool, cases_eq, cond_both, cond-true, cond-false, eq-eqb, eqb-true, not-true, not_from_false, or_cases, or_parts, or_left, or_right}
use Rattle.terms.specs.declared.terms.Terms.{Terms}
use Rattle.figures.specs.declared.copies.JobCopy.{JobCopy}
use Rattle.figures.specs.declared.copies.Role.TheVariants.{Standby}
use Rattle.figures.specs.Figure.{figure_of}
use Rattle.rack.specs.declared.placement.Placement.{Placement}
use Rattle.rack.specs.Plan.{In, number, active, Arranged}
use Rattle.rack.specs.Sets.{copy_of, primary_copy, gather, quiet_part, quiet, quiet_figure, passive_late, standby_late, standby_copy, loss_part, loss}
use Rattle.rack.specs.Test.{passes}
use Rattle.rack.proofs.Tested.{all_of_each, each_all_of, all_below_each, each_all_below, passes_means, passes_true}
use Rattle.rack.proofs.Parts.{fewer_pass}
use Rattle.roster.specs.Changes.{find, with_job, addable}
use Rattle.roster.specs.Rising.{rising, placed, all_placed}
use Rattle.roster.proofs.Jobs.{in_with_job, with_job_has, with_job_keeps}
use Rattle.roster.proofs.Ordered.{roster_arranged, rising_with_job, placed_with_job}
use Rattle.plantest.specs.Sweep.{has_quiet, copies_fit, pair_fits, pair_passes, lost_passes, machine_passes, quiet_passes, sweep}
use Rattle.plantest.proofs.Sweeps.{sweep_is}
use Rattle.first_fit.proofs.Tries.{new_number}
use Rattle.first_fit.specs.Trying.{tried}
use Rattle.first_fit.specs.Beside.{changed, asks, any_of, asked, pair_beside, machine_beside, touched_passes}

-- what no placement passes, none of them passes
pub none_of : (test : Placement → Bool) (ps : List Placement) (p : Placement) → any_of test ps ≡ false → In p ps → test p ≡ false
none_of test [] p none at = absurd at
none_of test (q ∷ ps) p none at =
    let parts = or_parts (test q) (any_of test ps) none in
    ⊎_elim (λ first. ap test first ∙ parts.0) (λ later. none_of test ps p parts.1 later) at

-- two parts that agree on a list gather the same
gather_same : (one other : Placement → List JobCopy) (ps : List Placement) → ((p : Placement) → In p ps → one p ≡ other p) → gather one ps ≡ gather other ps
gather_same one other [] same = refl
gather_same one other (p ∷ ps) same =
    ap (λ l. l ++ gather one ps) (same p (inl refl)) ∙ ap (λ l. other p ++ l) (gather_same one other ps (λ q at. same q (inr at)))

-- a job that adds nothing leaves what is gathered as it is
gather_with_job : (part : Placement → List JobCopy) (x : Placement) (ps : List Placement) → part x ≡ [] → gather part (with_job x ps) ≡ gather part ps
gather_with_job part x [] none = ap (λ l. l ++ []) none
gather_with_job part x (q ∷ qs) none =
    cond_both (ltb (number x) (number q)) (x ∷ q ∷ qs) (q ∷ with_job x qs) (λ l. gather part l ≡ gather part (q ∷ qs))
    (λ _. ap (λ l. l ++ gather part (q ∷ qs)) none)
    (λ _. ap (λ l. part q ++ l) (gather_with_job part x qs none))

-- a job without a copy in the quiet set of g adds nothing to it
unchanged_part : (x : Placement) (g : ℕ) → changed x g ≡ false → quiet_part g x ≡ []
unchanged_part x g not_there =
    let parts = or_parts (eqb x.primary g) (eqb x.standby g && active x.status) not_there in
    cond-false (eqb x.primary g) (primary_copy x ∷ []) (cond (eqb x.standby g && active x.status) (copy_of Standby x x.terms.lateness ∷ []) []) parts.0
    ∙ cond-false (eqb x.standby g && active x.status) (copy_of Standby x x.terms.lateness ∷ []) [] parts.1

module _ (before : Terms → Terms → Bool) (ps : List Placement) (x : Placement) where
  -- the plan with the further job
  abbrev wider : List Placement
  wider = with_job x ps

  quiet_same : (g : ℕ) → changed x g ≡ false → quiet g wider ≡ quiet g ps
  quiet_same g not_there = gather_with_job (quiet_part g) x ps (unchanged_part x g not_there)

  -- on a machine that has not changed each primary keeps its quiet figure
  pub quiet_figure_same : (q : Placement) → changed x q.primary ≡ false → quiet_figure before wider q ≡ quiet_figure before ps q
  quiet_figure_same q not_there = ap (λ s. figure_of before s (primary_copy q)) (quiet_same q.primary not_there)

  passive_same : (q : Placement) → changed x q.primary ≡ false → passive_late before wider q ≡ passive_late before ps q
  passive_same q not_there = ap (λ r. unwrap_or r q.terms.deadline) (quiet_figure_same q not_there)

  module _ (g f : ℕ) where
    -- the standby is passive and stands on g, and its primary on f
    abbrev sleeps : Placement → Bool
    sleeps q = eqb q.standby g && (not (active q.status) && eqb q.primary f)

    module _ (here : changed x g ≡ false) (there : (q : Placement) → In q wider → sleeps q ≡ true → changed x f ≡ false) where
      -- so each passive standby there is as late as it was
      late_same : (q : Placement) → In q wider → sleeps q ≡ true → passive_late before wider q ≡ passive_late before ps q
      late_same q at asleep =
          let rest = (and_parts (eqb q.standby g) (not (active q.status) && eqb q.primary f) asleep).1 in
          let on_f : q.primary ≡ f = eqb-true q.primary f (and_parts (not (active q.status)) (eqb q.primary f) rest).1 in
          passive_same q (ap (changed x) on_f ∙ there q at asleep)

      standby_same : (q : Placement) → In q wider → (eqb q.standby g && eqb q.primary f) ≡ true → standby_late before wider q ≡ standby_late before ps q
      standby_same q at both =
          let parts = and_parts (eqb q.standby g) (eqb q.primary f) both in
          ⊎_elim
          (λ awake.
          cond-true (active q.status) q.terms.lateness (passive_late before wider q) awake
          ∙ sym (cond-true (active q.status) q.terms.lateness (passive_late before ps q) awake))
          (λ passive.
          ap (λ l. cond (active q.status) q.terms.lateness l)
          (late_same q at (and_from _ _ parts.0 (and_from _ _ (not_from_false _ passive) parts.1))))
          (cases_Bool (active q.status))

      part_same : (q : Placement) → In q wider → loss_part before wider g f q ≡ loss_part before ps g f q
      part_same q at =
          ⊎_elim
          (λ asleep.
          let parts = and_parts (eqb q.standby g) (not (active q.status) && eqb q.primary f) asleep in
          let both = and_from (eqb q.standby g) (eqb q.primary f) parts.0 (and_parts (not (active q.status)) (eqb q.primary f) parts.1).1 in
          ap (λ (l : ℕ). quiet_part g q ++ cond (sleeps q) (copy_of Standby q l ∷ []) []) (standby_same q at both))
          (λ not_so.
          ap (λ l. quiet_part g q ++ l)
          (cond-false (sleeps q) (standby_copy before wider q ∷ []) [] not_so
          ∙ sym (cond-false (sleeps q) (standby_copy before ps q ∷ []) [] not_so)))
          (cases_Bool (sleeps q))

      -- the job itself does not stand there
      own_not : sleeps x ≡ false
      own_not =
          ⊎_elim
          (λ asleep.
          let rest = (and_parts (eqb x.standby g) (not (active x.status) && eqb x.primary f) asleep).1 in
          let on_f = (and_parts (not (active x.status)) (eqb x.primary f) rest).1 in
          absurd
          (both_ways (changed x f) (there x (with_job_has x ps) asleep)
          (or_left (eqb x.primary f) (eqb x.standby f && active x.status) on_f)))
          (λ not_so. not_so)
          (cases_Bool (sleeps x))

      own_part : loss_part before ps g f x ≡ []
      own_part =
          ap (λ l. l ++ cond (sleeps x) (standby_copy before ps x ∷ []) []) (unchanged_part x g here)
          ∙ cond-false (sleeps x) (standby_copy before ps x ∷ []) [] own_not

      -- the loss set is what it was
      loss_same : loss before wider g f ≡ loss before ps g f
      loss_same =
          gather_same (loss_part before wider g f) (loss_part before ps g f) wider part_same
          ∙ gather_with_job (loss_part before ps g f) x ps own_part

      -- and the copies of each job of the plan have their figures there as they had them
      fits_same : (q : Placement) → In q ps → pair_fits before wider g f q ≡ pair_fits before ps g f q
      fits_same q at =
          ap (λ s. copies_fit before s (standby_copy before wider q) g f q) loss_same
          ∙ ⊎_elim
          (λ both. ap (λ (l : ℕ). copies_fit before (loss before ps g f) (copy_of Standby q l) g f q) (standby_same q (with_job_keeps x q ps at) both))
          (λ not_so.
          let skip = not_from_false _ not_so in
          ap (λ z. (not (eqb q.primary g) || is_some (figure_of before (loss before ps g f) (primary_copy q))) && (z || is_some (figure_of before (loss before ps g f) (standby_copy before wider q)))) skip
          ∙ sym (ap (λ z. (not (eqb q.primary g) || is_some (figure_of before (loss before ps g f) (primary_copy q))) && (z || is_some (figure_of before (loss before ps g f) (standby_copy before ps q)))) skip))
          (cases_Bool (eqb q.standby g && eqb q.primary f))

      -- the job has no copy there
      own_fits : pair_fits before wider g f x ≡ true
      own_fits =
          let away = or_parts (eqb x.primary g) (eqb x.standby g && active x.status) here in
          and_from _ _
          (or_left _ _ (not_from_false _ away.0))
          (or_left _ _
          (not_from_false _
          (⊎_elim
          (λ (both : (eqb x.standby g && eqb x.primary f) ≡ true).
          let parts = and_parts (eqb x.standby g) (eqb x.primary f) both in
          ⊎_elim
          (λ awake. absurd (both_ways _ away.1 (and_from _ _ parts.0 awake)))
          (λ passive. absurd (both_ways _ own_not (and_from _ _ parts.0 (and_from _ _ (not_from_false _ passive) parts.1))))
          (cases_Bool (active x.status)))
          (λ not_so. not_so)
          (cases_Bool (eqb x.standby g && eqb x.primary f)))))

      -- so where the pair passed, it passes
      pub pair_kept : pair_passes before ps g f ≡ true → pair_passes before wider g f ≡ true
      pair_kept passed =
          each_all_of (pair_fits before wider g f) wider
          (λ q at.
          ⊎_elim
          (λ own. ap (pair_fits before wider g f) own ∙ own_fits)
          (λ other. fits_same q other ∙ all_of_each (pair_fits before ps g f) ps q passed other)
          (in_with_job x q ps at))

-- where no standby on g has its primary on f, the loss set of g is its quiet set
pub no_standby_passes :
    (before : Terms → Terms → Bool) (ps : List Placement) (g f : ℕ) →
    ((q : Placement) → In q ps → (eqb q.standby g && eqb q.primary f) ≡ false) →
    quiet_passes before ps ≡ true → pair_passes before ps g f ≡ true
no_standby_passes before ps g f none quiets =
    each_all_of (pair_fits before ps g f) ps
    (λ q at.
    and_from _ _
    (⊎_elim
    (λ on_g.
    or_right _ _
    (ap (λ s. is_some (figure_of before s (primary_copy q))) set
    ∙ ap (λ k. is_some (figure_of before (quiet k ps) (primary_copy q))) (sym (eqb-true q.primary g on_g))
    ∙ all_of_each (has_quiet before ps) ps q quiets at))
    (λ away. or_left _ _ (not_from_false _ away))
    (cases_Bool (eqb q.primary g)))
    (or_left _ _ (not_from_false _ (none q at))))
  where
    awake : (q : Placement) → In q ps → (eqb q.standby g && (not (active q.status) && eqb q.primary f)) ≡ false
    awake q at =
        ⊎_elim
        (λ (asleep : (eqb q.standby g && (not (active q.status) && eqb q.primary f)) ≡ true).
        let parts = and_parts (eqb q.standby g) (not (active q.status) && eqb q.primary f) asleep in
        absurd (both_ways (eqb q.standby g && eqb q.primary f) (none q at) (and_from (eqb q.standby g) (eqb q.primary f) parts.0 (and_parts (not (active q.status)) (eqb q.primary f) parts.1).1)))
        (λ not_so. not_so)
        (cases_Bool (eqb q.standby g && (not (active q.status) && eqb q.primary f)))

    set : loss before ps g f ≡ quiet g ps
    set =
        gather_same (loss_part before ps g f) (quiet_part g) ps
        (λ q at.
        ap (λ l. quiet_part g q ++ l) (cond-false (eqb q.standby g && (not (active q.status) && eqb q.primary f)) (standby_copy before ps q ∷ []) [] (awake q at))
        ∙ append-nil (quiet_part g q))

-- the placements of a roster are arranged with a further job that may be put in
pub arranged_with :
    (m : ℕ) (ps : List Placement) (x : Placement) → addable m ps x ≡ true → rising ps ≡ true → all_placed m ps ≡ true → Arranged m (with_job x ps)
arranged_with m ps x may up all =
    let outer = and_parts (not (is_some (find (number x) ps))) (ltb (length ps) 96 && placed m x) may in
    let inner = and_parts (ltb (length ps) 96) (placed m x) outer.1 in
    roster_arranged m (with_job x ps) (rising_with_job x ps up (new_number m ps x may)) (placed_with_job m x ps all inner.1)

-- what a sweep found of two different machines
each_pair :
    (before : Terms → Terms → Bool) (m : ℕ) (ps : List Placement) (g f : ℕ) → sweep before m ps ≡ true → g < m → f < m → (f ≡ g → ⊥) →
    pair_passes before ps g f ≡ true
each_pair before m ps g f swept g_in f_in other =
    let at_g = all_below_each (machine_passes before m ps) m g (and_parts _ _ swept).1 g_in in
    ⊎_elim
    (λ same. absurd (other (eqb-true f g same)))
    (λ passed. passed)
    (or_cases (eqb f g) (pair_passes before ps g f) (all_below_each (lost_passes before ps g) m f at_g f_in))

module _ (before : Terms → Terms → Bool) (m : ℕ) (ps : List Placement) (x : Placement) (arranged : Arranged m ps) (arranged_with : Arranged m (with_job x ps)) where
  -- a pair that is not asked for passes
  unasked :
      (g f : ℕ) → passes before m ps ≡ true → quiet_passes before (with_job x ps) ≡ true → g < m → f < m → (f ≡ g → ⊥) →
      asked x (with_job x ps) g f ≡ false → pair_passes before (with_job x ps) g f ≡ true
  unasked g f pass quiets g_in f_in other none =
      ⊎_elim
      (λ here.
      no_standby_passes before (with_job x ps) g f
      (λ q at.
      ⊎_elim (λ away. away)
      (λ (not_asked : (changed x g || (changed x f && not (active q.status))) ≡ false). absurd (both_ways _ (or_parts (changed x g) (changed x f && not (active q.status)) not_asked).0 here))
      (and_cases (eqb q.standby g && eqb q.primary f) (changed x g || (changed x f && not (active q.status))) (none_of (asks (changed x g) (changed x f) g f) (with_job x ps) q none at)))
      quiets)
      (λ away.
      pair_kept before ps x g f away
      (λ q at asleep.
      let parts = and_parts (eqb q.standby g) (not (active q.status) && eqb q.primary f) asleep in
      let inner = and_parts (not (active q.status)) (eqb q.primary f) parts.1 in
      ⊎_elim
      (λ not_both. absurd (both_ways _ not_both (and_from _ _ parts.0 inner.1)))
      (λ (not_asked : (changed x g || (changed x f && not (active q.status))) ≡ false).
      ⊎_elim
      (λ there. there)
      (λ awake. absurd (both_ways _ awake inner.0))
      (and_cases (changed x f) (not (active q.status)) (or_parts (changed x g) (changed x f && not (active q.status)) not_asked).1))
      (and_cases (eqb q.standby g && eqb q.primary f) (changed x g || (changed x f && not (active q.status))) (none_of (asks (changed x g) (changed x f) g f) (with_job x ps) q none at)))
      (each_pair before m ps g f (sweep_is before m ps arranged ∙ pass) g_in f_in other))
      (cases_Bool (changed x g))

  -- in a plan that passes, the test of all that a further job can change is the plan test
  pub touched_is : passes before m ps ≡ true → passes before m (with_job x ps) ≡ touched_passes before m x (with_job x ps)
  touched_is pass =
      cmp.both_ways (passes before m (with_job x ps)) (touched_passes before m x (with_job x ps))
      (λ whole.
      let swept = sweep_is before m (with_job x ps) arranged_with ∙ whole in
      let own = arranged_with.placed x (with_job_has x ps) in
      and_from _ _ (and_parts _ _ swept).0
      (and_from _ _
      (each_pair before m (with_job x ps) x.standby x.primary swept own.standby own.primary own.apart)
      (each_all_below (machine_beside before m x (with_job x ps)) m
      (λ g g_in.
      each_all_below (pair_beside before x (with_job x ps) g) m
      (λ f f_in.
      ⊎_elim
      (λ same. or_left _ _ (eq-eqb f g same))
      (λ other.
      or_right (eqb f g) (not (asked x (with_job x ps) g f) || pair_passes before (with_job x ps) g f)
      (or_right (not (asked x (with_job x ps) g f)) (pair_passes before (with_job x ps) g f) (each_pair before m (with_job x ps) g f swept g_in f_in other)))
      (cases_eq f g))))))
      (λ touched.
      let outer = and_parts _ _ touched in
      let inner = and_parts _ _ outer.1 in
      sym (sweep_is before m (with_job x ps) arranged_with)
      ∙ and_from _ _ outer.0
      (each_all_below (machine_passes before m (with_job x ps)) m
      (λ g g_in.
      let at_g = all_below_each (machine_beside before m x (with_job x ps)) m g inner.1 g_in in
      each_all_below (lost_passes before (with_job x ps) g) m
      (λ f f_in.
      ⊎_elim
      (λ same. or_left _ _ (eq-eqb f g same))
      (λ other.
      or_right _ _
      (⊎_elim
      (λ same. absurd (other (eqb-true f g same)))
      (λ rest.
      ⊎_elim
      (λ not_asked. unasked g f pass outer.0 g_in f_in other (not-true _ not_asked))
      (λ passed. passed)
      (or_cases (not (asked x (with_job x ps) g f)) (pair_passes before (with_job x ps) g f) rest))
      (or_cases (eqb f g) (not (asked x (with_job x ps) g f) || pair_passes before (with_job x ps) g f) (all_below_each (pair_beside before x (with_job x ps) g) m f at_g f_in))))
      (cases_eq f g)))))

  -- a plan that does not pass passes with no further job
  pub fails_with_more : passes before m ps ≡ false → passes before m (with_job x ps) ≡ false
  fails_with_more fails =
      ⊎_elim
      (λ whole.
      absurd
      (both_ways _ fails
      (passes_true before m ps
      (fewer_pass before m (with_job x ps) (passes_means before m (with_job x ps) whole) ps arranged.once (λ q at. with_job_keeps x q ps at)))))
      (λ not_so. not_so)
      (cases_Bool (passes before m (with_job x ps)))

-- beside a plan that passes, a job is tried by the test of all that it can change
pub tried_touched :
    (before : Terms → Terms → Bool) (m m' : ℕ) (ps qs : List Placement) (x : Placement) → passes before m ps ≡ true → rising ps ≡ true → all_placed m ps ≡ true →
    addable m ps x ≡ true → m' ≡ m → qs ≡ with_job x ps → tried before m ps x ≡ touched_passes before m' x qs
tried_touched before m m' ps qs x pass up all may count put =
    ap (λ b. b && passes before m (with_job x ps)) may
    ∙ touched_is before m ps x (roster_arranged m ps up all) (arranged_with m ps x may up all) pass
    ∙ ap (λ k. touched_passes before k x (with_job x ps)) (sym count)
    ∙ ap (touched_passes before m' x) (sym put)

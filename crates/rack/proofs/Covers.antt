-- A plan that passes serves every call-up of every day, whichever machine stops.
use Rattle.std.proofs.Common.{◌≡◌, ℕ, suc, ◌+◌, ◌<◌, ◌≤◌, Bool, true, false, cond, not, ◌&&◌, eqb, leb, ◌⊎◌, List, [], ◌∷◌, ◌++◌, is_some, Some, None, Option, unwrap_or, sym, refl, ap, ◌∙◌, subst, inl, inr, ⊎_elim, arith}
use Rattle.std.proofs.lemmas.Bool.{cases_lt, cases_eq, cases_Bool, eq-eqb, ne_eqb, eqb-true, and_from, and_parts, and_left, and_right, not_from_true, not_from_false, cond-true, cond-false, both_ways, lt-leb}
use Rattle.terms.specs.declared.terms.Terms.{Terms}
use Rattle.precedence.specs.Laws.{Laws}
use Rattle.figures.specs.declared.copies.Role.{Role}
use Rattle.figures.specs.declared.copies.Role.TheVariants.{Primary, Standby}
use Rattle.figures.specs.declared.copies.JobCopy.{JobCopy}
use Rattle.figures.specs.Window.{Window}
use Rattle.figures.specs.Figure.{Figured, figure_of}
use Rattle.figures.proofs.Climbs.{figure_figured}
use Rattle.rack.specs.declared.placement.Status.{Status}
use Rattle.rack.specs.declared.placement.Status.TheVariants.{Passive, Active}
use Rattle.rack.specs.declared.placement.Placement.{Placement}
use Rattle.rack.specs.Plan.{In, number, active, machine, Placed, Arranged}
use Rattle.rack.specs.Day.{Day, invoked, due, late, work, Stop, no_stop, stops, Within, halted}
use Rattle.rack.specs.Run.{Run, worked, Finished, Wakes, StandbyReleased, Released, dropped, Keeps}
use Rattle.rack.specs.Sets.{copy_of, primary_copy, gather, quiet_part, quiet, passive_late, standby_late, standby_copy, loss_part, loss}
use Rattle.rack.specs.Test.{Passes}
use Rattle.rack.specs.Covered.{Served}
use Rattle.rack.proofs.Bound.{worked_mono, Described, finished_within}

-- a member of the first part is a member of the whole
pub in_left : {A : Type 0} (c : A) (xs ys : List A) → In c xs → In c (xs ++ ys)
in_left c [] ys i = absurd i
in_left c (x ∷ xs) ys i = ⊎_elim (λ first. inl first) (λ rest. inr (in_left c xs ys rest)) i

-- and so is one of the second
pub in_right : {A : Type 0} (c : A) (xs ys : List A) → In c ys → In c (xs ++ ys)
in_right c [] ys i = i
in_right c (x ∷ xs) ys i = inr (in_right c xs ys i)

-- a member of the whole is a member of a part
pub in_either : {A : Type 0} (c : A) (xs ys : List A) → In c (xs ++ ys) → In c xs ⊎ In c ys
in_either c [] ys i = inr i
in_either c (x ∷ xs) ys i =
    ⊎_elim
    (λ first. inl (inl first))
    (λ rest. ⊎_elim (λ l. inl (inr l)) (λ r. inr r) (in_either c xs ys rest))
    i

-- a member of a list that hangs on a test
pub in_cond :
    {A : Type 0} (P : Type 0) (b : Bool) (c : A) (xs ys : List A) →
    (b ≡ true → In c xs → P) → (b ≡ false → In c ys → P) → In c (cond b xs ys) → P
in_cond P true c xs ys yes' no' i = yes' refl i
in_cond P false c xs ys yes' no' i = no' refl i

-- what a placement adds is gathered
pub gathered :
    (part : Placement → List JobCopy) (ps : List Placement) (q : Placement) (c : JobCopy) →
    In q ps → In c (part q) → In c (gather part ps)
gathered part [] q c q_in i = absurd q_in
gathered part (p ∷ ps) q c q_in i =
    ⊎_elim
    (λ first. in_left c (part p) (gather part ps) (subst (λ z. In c (part z)) first i))
    (λ rest. in_right c (part p) (gather part ps) (gathered part ps q c rest i))
    q_in

-- what is gathered some placement adds
pub gathered_from :
    (part : Placement → List JobCopy) (ps : List Placement) (c : JobCopy) →
    In c (gather part ps) → (q : Placement) × In q ps × In c (part q)
gathered_from part [] c i = absurd i
gathered_from part (p ∷ ps) c i =
    ⊎_elim
    (λ here. (p, inl refl, here))
    (λ rest. let more = gathered_from part ps c rest in (more.0, inr more.1, more.2))
    (in_either c (part p) (gather part ps) i)

-- the copy is one of q's, and stands on g
abbrev Stands : ℕ → Placement → JobCopy → Type 0
Stands g q c = (c.terms ≡ q.terms) × (machine c.role q ≡ g)

-- a lone copy that stands on g
single_stands : (g : ℕ) (q : Placement) (c d : JobCopy) → Stands g q d → In c (d ∷ []) → Stands g q c
single_stands g q c d stands i = ⊎_elim (λ is. subst (λ z. Stands g q z) (sym is) stands) (λ none. absurd none) i

-- each copy of the quiet set of g stands on g
quiet_part_stands : (g : ℕ) (q : Placement) (c : JobCopy) → In c (quiet_part g q) → Stands g q c
quiet_part_stands g q c i =
    in_cond (Stands g q c) (eqb q.primary g) c _ _
    (λ here j. single_stands g q c (primary_copy q) (refl, eqb-true q.primary g here) j)
    (λ elsewhere j.
    in_cond (Stands g q c) (eqb q.standby g && active q.status) c _ _
    (λ here l. single_stands g q c (copy_of Standby q q.terms.lateness) (refl, eqb-true q.standby g (and_parts _ _ here).0) l)
    (λ none l. absurd l)
    j)
    i

-- and each copy of its loss sets
loss_part_stands :
    (before : Terms → Terms → Bool) (ps : List Placement) (g f : ℕ) (q : Placement) (c : JobCopy) →
    In c (loss_part before ps g f q) → Stands g q c
loss_part_stands before ps g f q c i =
    ⊎_elim
    (λ in_quiet. quiet_part_stands g q c in_quiet)
    (λ joins.
    in_cond (Stands g q c) (eqb q.standby g && (not (active q.status) && eqb q.primary f)) c _ _
    (λ here l. single_stands g q c (standby_copy before ps q) (refl, eqb-true q.standby g (and_parts _ _ here).0) l)
    (λ none l. absurd l)
    joins)
    (in_either c (quiet_part g q) _ i)

-- the lateness that a copy has in the sets
abbrev late_in : (Terms → Terms → Bool) → List Placement → Role → Placement → ℕ
late_in before ps Primary q = q.terms.lateness
late_in before ps Standby q = standby_late before ps q

-- a primary on g is in the quiet set
primary_in_part : (g : ℕ) (q : Placement) → q.primary ≡ g → In (primary_copy q) (quiet_part g q)
primary_in_part g q here = rw (eq-eqb q.primary g here) (inl refl)

-- so is an active standby
active_in_part :
    (before : Terms → Terms → Bool) (ps : List Placement) (m g : ℕ) (q : Placement) → Placed m q →
    active q.status ≡ true → q.standby ≡ g → In (standby_copy before ps q) (quiet_part g q)
active_in_part before ps m g q placed runs_along here =
    rw (ne_eqb q.primary g (λ e. placed.apart (e ∙ sym here)), eq-eqb q.standby g here, runs_along) (inl refl)

-- and a passive one is in the loss set of its primary's machine
passive_in_part :
    (before : Terms → Terms → Bool) (ps : List Placement) (g f : ℕ) (q : Placement) →
    active q.status ≡ false → q.standby ≡ g → q.primary ≡ f → In (standby_copy before ps q) (loss_part before ps g f q)
passive_in_part before ps g f q sleeps here there =
    let joins = and_from _ _ (eq-eqb q.standby g here) (and_from _ _ (not_from_false _ sleeps) (eq-eqb q.primary f there)) in
    in_right (standby_copy before ps q) (quiet_part g q) _ (rw (cond-true _ (standby_copy before ps q ∷ []) [] joins) (inl refl))

-- when an active standby is released
as_active :
    (status : Status) (day : Day) (stop : Stop) (run : Run) (p : Placement) (k r : ℕ) → active status ≡ true →
    StandbyReleased status day stop run p k r → r ≡ invoked day p.terms k + late day Standby p.terms k
as_active Active day stop run p k r e released = released
as_active Passive day stop run p k r e released = absurd (both_ways _ refl e)

-- and when a passive one is
as_passive :
    (status : Status) (day : Day) (stop : Stop) (run : Run) (p : Placement) (k r : ℕ) → active status ≡ false →
    StandbyReleased status day stop run p k r → Wakes day stop run p k r
as_passive Active day stop run p k r e released = absurd (both_ways _ e refl)
as_passive Passive day stop run p k r e released = released

-- a figure is there: a window and the lateness, within the deadline
abbrev Known : (Terms → Terms → Bool) → List JobCopy → JobCopy → Option ℕ → Type 0
Known before set own o =
    (x : ℕ) × Window before set own x × (o ≡ Some (x + own.lateness)) × (x + own.lateness ≤ own.terms.deadline)

-- what the meaning of a figure says of one that is there
some_known :
    (before : Terms → Terms → Bool) (set : List JobCopy) (own : JobCopy) (o : Option ℕ) →
    is_some o ≡ true → Figured before set own o → Known before set own o
some_known before set own None some f = absurd (both_ways _ refl some)
some_known before set own (Some w) some f = (f.0, f.1, ap Some f.2, omega (arith, f.2, f.3))

-- and so of the figure that is computed
figure_known :
    (before : Terms → Terms → Bool) (set : List JobCopy) (own : JobCopy) →
    is_some (figure_of before set own) ≡ true → Known before set own (figure_of before set own)
figure_known before set own some = some_known before set own (figure_of before set own) some (figure_figured before set own)

-- a call-up that is unfinished on the machine that stopped has its standby released
standby_release :
    (status : Status) (day : Day) (f s : ℕ) (run : Run) (p : Placement) (k : ℕ) →
    p.primary ≡ f → worked run p.primary (number p) k s < work day Primary p.terms k →
    (r : ℕ) × StandbyReleased status day (stops f s) run p k r
standby_release Active day f s run p k there undone = (invoked day p.terms k + late day Standby p.terms k, refl)
standby_release Passive day f s run p k there undone =
    ⊎_elim
    (λ before. (s, (there, undone, (λ l. refl), (λ l. absurd (omega arith)))))
    (λ since. (invoked day p.terms k + late day Standby p.terms k, (there, undone, (λ l. absurd (omega arith)), (λ l. refl))))
    (cases_lt (invoked day p.terms k) s)

-- a standby whose primary stood on the machine that stopped is not dropped
standby_kept : (f s : ℕ) (p : Placement) → p.primary ≡ f → (t : ℕ) → dropped (stops f s) Standby p t ≡ false
standby_kept f s p there t = and_right (leb s t) _ (and_right (active p.status) _ (not_from_true _ (eq-eqb p.primary f there)))

-- the other machines go on
others_go : (f s g : ℕ) → (f ≡ g → ⊥) → (t : ℕ) → halted (stops f s) g t ≡ false
others_go f s g other t = and_left _ _ (ne_eqb f g other)

module _
    (before : Terms → Terms → Bool) (laws : Laws before) (m : ℕ) (ps : List Placement) (plan : Arranged m ps)
    (passes : Passes before m ps) (day : Day) (run : Run) where
  -- a set describes a machine if it is made of what stands there, has its quiet set, and has what wakes there
  described_by :
      (stop : Stop) (g H : ℕ) (part : Placement → List JobCopy) →
      ((q : Placement) (c : JobCopy) → In c (part q) → Stands g q c) →
      ((q : Placement) (c : JobCopy) → In c (quiet_part g q) → In c (part q)) →
      ((q : Placement) → In q ps → (k r : ℕ) → active q.status ≡ false → q.standby ≡ g → Wakes day stop run q k r →
      In (standby_copy before ps q) (part q) × (r ≤ invoked day q.terms k + passive_late before ps q)) →
      Described ps day stop run g H (late_in before ps) (gather part ps)
  described_by stop g H part stands wide wakes = record {
    stands = λ c i.
        let from = gathered_from part ps c i in
        let on_g = stands from.0 c from.2 in
        (from.0, from.1, on_g.0, on_g.1);
    releases = releases;
  }
    where
      -- what is released on g is in the set, and no later than it says
      releases :
          (q : Placement) → In q ps → (role : Role) → machine role q ≡ g → (k r : ℕ) → Released day stop run role q k r → r < H →
          In (copy_of role q (late_in before ps role q)) (gather part ps) × (r ≤ invoked day q.terms k + late_in before ps role q)
      releases q q_in Primary here k r released below =
          (gathered part ps q (primary_copy q) q_in (wide q (primary_copy q) (primary_in_part g q here)), omega (arith, released))
      releases q q_in Standby here k r released below =
          ⊎_elim
          (λ runs_along.
          let c : JobCopy = standby_copy before ps q in
          let is_J = cond-true (active q.status) q.terms.lateness (passive_late before ps q) runs_along in (
            gathered part ps q c q_in (wide q c (active_in_part before ps m g q (plan.placed q q_in) runs_along here)),
            omega (arith, as_active q.status day stop run q k r runs_along released, is_J),
          ))
          (λ sleeps.
          let w = wakes q q_in k r sleeps here (as_passive q.status day stop run q k r sleeps released) in
          let is_W = cond-false (active q.status) q.terms.lateness (passive_late before ps q) sleeps in
          (gathered part ps q (standby_copy before ps q) q_in w.0, omega (arith, w.1, is_W)))
          (cases_Bool (active q.status))

  -- a machine on which nothing wakes is described by its quiet set
  quiet_described :
      (stop : Stop) (g H : ℕ) → ((q : Placement) → In q ps → (k r : ℕ) → q.standby ≡ g → Wakes day stop run q k r → ⊥) →
      Described ps day stop run g H (late_in before ps) (quiet g ps)
  quiet_described stop g H none =
      described_by stop g H (quiet_part g) (quiet_part_stands g) (λ q c i. i) (λ q q_in k r sleeps here w. absurd (none q q_in k r here w))

  -- a copy finishes within its window and its lateness
  by_window :
      (stop : Stop) → Keeps before ps day stop run → (role : Role) (p : Placement) → In p ps → ((t : ℕ) → dropped stop role p t ≡ false) →
      (H : ℕ) → ((t : ℕ) → t < H → halted stop (machine role p) t ≡ false) →
      (set : List JobCopy) → Described ps day stop run (machine role p) H (late_in before ps) set →
      (x : ℕ) → Window before set (copy_of role p (late_in before ps role p)) x → x + late_in before ps role p ≤ p.terms.deadline →
      (k r : ℕ) → Released day stop run role p k r → r ≤ invoked day p.terms k + late_in before ps role p →
      invoked day p.terms k + (x + late_in before ps role p) ≤ H →
      Finished day run role p k (invoked day p.terms k + (x + late_in before ps role p))
  by_window stop keeps role p p_in never_dropped H goes set described x window within k r released in_time ends =
      omega (
        arith,
        finished_within before laws m ps plan day stop run keeps role p p_in never_dropped H goes (late_in before ps) set described
            x (omega (arith, window.fixed)) (omega (arith, p.terms.bounded)) k r released (omega arith),
        worked_mono run (machine role p) (number p) k (r + x) (invoked day p.terms k + (x + late_in before ps role p)) (omega arith),
      )

  -- on a machine that goes on, a copy with a figure finishes when it is due
  on_time :
      (stop : Stop) → Keeps before ps day stop run → (role : Role) (p : Placement) → In p ps → ((t : ℕ) → dropped stop role p t ≡ false) →
      ((t : ℕ) → halted stop (machine role p) t ≡ false) →
      (set : List JobCopy) → ((H : ℕ) → Described ps day stop run (machine role p) H (late_in before ps) set) →
      is_some (figure_of before set (copy_of role p (late_in before ps role p))) ≡ true →
      (k r : ℕ) → Released day stop run role p k r → Finished day run role p k (due day p.terms k)
  on_time stop keeps role p p_in never_dropped goes set described some k r released =
      let known = figure_known before set (copy_of role p (late_in before ps role p)) some in
      let x : ℕ = known.0 in
      let H : ℕ = suc (r + due day p.terms k) in
      let in_time = ((described H).releases p p_in role refl k r released (omega arith)).1 in
      omega (
        arith,
        by_window stop keeps role p p_in never_dropped H (λ t l. goes t) set (described H)
            x known.1 known.3 k r released in_time (omega (arith, known.3)),
        worked_mono run (machine role p) (number p) k (invoked day p.terms k + (x + late_in before ps role p)) (due day p.terms k)
            (omega (arith, known.3)),
      )

  -- no machine stops: the primary is on time
  served_quiet : Keeps before ps day no_stop run → (p : Placement) → In p ps → (k : ℕ) → Served day run p k
  served_quiet keeps p p_in k =
      inl (on_time no_stop keeps Primary p p_in (λ t. refl) (λ t. refl)
      (quiet p.primary ps) (λ H. quiet_described no_stop p.primary H (λ q q_in j r here w. w))
      (passes p p_in).quiet k (invoked day p.terms k + late day Primary p.terms k) refl)

  module _ (f s : ℕ) (keeps : Keeps before ps day (stops f s) run) where
    -- until it stops, the machine finishes its primaries within their quiet figures
    finished_before_stop :
        (p : Placement) → In p ps → p.primary ≡ f →
        (x : ℕ) → Window before (quiet p.primary ps) (primary_copy p) x → x + p.terms.lateness ≤ p.terms.deadline →
        (k : ℕ) → invoked day p.terms k + (x + p.terms.lateness) ≤ s →
        Finished day run Primary p k (invoked day p.terms k + (x + p.terms.lateness))
    finished_before_stop p p_in there x window within k ends =
        by_window (stops f s) keeps Primary p p_in (λ t. refl) s (λ t l. and_right _ _ (lt-leb s t l))
        (quiet p.primary ps) (quiet_described (stops f s) p.primary s (λ q q_in j r here w. (plan.placed q q_in).apart (w.0 ∙ sym there ∙ sym here)))
        x window within k (invoked day p.terms k + late day Primary p.terms k) refl (omega arith) ends

    -- a passive standby wakes no later than its primary's quiet figure
    woken_in_time :
        (p : Placement) → In p ps → (k r : ℕ) → Wakes day (stops f s) run p k r →
        r ≤ invoked day p.terms k + passive_late before ps p
    woken_in_time p p_in k r w =
        let known = figure_known before (quiet p.primary ps) (primary_copy p) (passes p p_in).quiet in
        let W : ℕ = known.0 + p.terms.lateness in
        let is_W : passive_late before ps p ≡ W = ap (λ o. unwrap_or o p.terms.deadline) known.2 in
        let sooner : s ≤ invoked day p.terms k + W =
        ⊎_elim
        (λ early.
        let done = finished_before_stop p p_in w.0 known.0 known.1 known.3 k (omega arith) in
        let still = worked_mono run p.primary (number p) k (invoked day p.terms k + W) s (omega arith) in
        absurd (omega (arith, done, still, w.1)))
        (λ soon. soon)
        (cases_lt (invoked day p.terms k + W) s)
        in
        ⊎_elim
        (λ before_stop. omega (arith, w.2 before_stop))
        (λ since. omega (arith, w.3 since))
        (cases_lt (invoked day p.terms k) s)

    -- a machine is described by its loss set
    loss_described : (g H : ℕ) → Described ps day (stops f s) run g H (late_in before ps) (loss before ps g f)
    loss_described g H =
        described_by (stops f s) g H (loss_part before ps g f)
        (loss_part_stands before ps g f)
        (λ q c i. in_left c (quiet_part g q) _ i)
        (λ q q_in k r sleeps here w. (passive_in_part before ps g f q sleeps here w.0, woken_in_time q q_in k r w))

    -- the primary stands on another machine
    served_elsewhere : f < m → (p : Placement) → In p ps → (f ≡ p.primary → ⊥) → (k : ℕ) → Served day run p k
    served_elsewhere within p p_in other k =
        inl (on_time (stops f s) keeps Primary p p_in (λ t. refl) (others_go f s p.primary other)
        (loss before ps p.primary f) (loss_described p.primary)
        ((passes p p_in).lost f within other) k (invoked day p.terms k + late day Primary p.terms k) refl)

    -- the primary was finished when its machine stopped
    served_before_stop :
        (p : Placement) → In p ps → p.primary ≡ f → (k : ℕ) → Finished day run Primary p k s → Served day run p k
    served_before_stop p p_in there k done =
        let known = figure_known before (quiet p.primary ps) (primary_copy p) (passes p p_in).quiet in
        let W : ℕ = known.0 + p.terms.lateness in
        inl
        (⊎_elim
        (λ later.
        omega (
          arith,
          finished_before_stop p p_in there known.0 known.1 known.3 k (omega (arith, known.3)),
          worked_mono run p.primary (number p) k (invoked day p.terms k + W) (due day p.terms k) (omega (arith, known.3)),
        ))
        (λ sooner. omega (arith, done, worked_mono run p.primary (number p) k s (due day p.terms k) sooner))
        (cases_lt (due day p.terms k) s))

    -- it was not: the standby is on time
    served_by_standby :
        (p : Placement) → In p ps → p.primary ≡ f →
        (k : ℕ) → worked run p.primary (number p) k s < work day Primary p.terms k → Served day run p k
    served_by_standby p p_in there k undone =
        let release = standby_release p.status day f s run p k there undone in
        let some : is_some (figure_of before (loss before ps p.standby f) (standby_copy before ps p)) ≡ true =
        subst (λ z. is_some (figure_of before (loss before ps p.standby z) (standby_copy before ps p)) ≡ true) there (passes p p_in).standby
        in
        inr (on_time (stops f s) keeps Standby p p_in (standby_kept f s p there)
        (others_go f s p.standby (λ e. (plan.placed p p_in).apart (there ∙ e)))
        (loss before ps p.standby f) (loss_described p.standby) some k release.0 release.1)

    -- the three cases of a stop
    served_at_stop : f < m → (p : Placement) → In p ps → (k : ℕ) → Served day run p k
    served_at_stop within p p_in k =
        ⊎_elim
        (λ there.
        ⊎_elim
        (λ undone. served_by_standby p p_in (sym there) k undone)
        (λ done. served_before_stop p p_in (sym there) k done)
        (cases_lt (worked run p.primary (number p) k s) (work day Primary p.terms k)))
        (λ other. served_elsewhere within p p_in other k)
        (cases_eq f p.primary)

-- a plan that passes: on every day, whatever stops, a copy of each call-up finishes when it is due at the latest
pub served :
    (before : Terms → Terms → Bool) → Laws before → (m : ℕ) (ps : List Placement) → Arranged m ps → Passes before m ps →
    (day : Day) (stop : Stop) → Within m stop → (run : Run) → Keeps before ps day stop run →
    (p : Placement) → In p ps → (k : ℕ) → Served day run p k
served before laws m ps plan passes day no_stop within run keeps p p_in k =
    served_quiet before laws m ps plan passes day run keeps p p_in k
served before laws m ps plan passes day (stops f s) within run keeps p p_in k =
    served_at_stop before laws m ps plan passes day run f s keeps within p p_in k

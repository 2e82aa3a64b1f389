-- The bound: a copy that is never dropped finishes within its window, on a machine that a set of copies describes.
use Rattle.std.proofs.Common.{◌≡◌, ℕ, zero, suc, ◌+◌, ◌-◌, ◌*◌, ◌<◌, ◌≤◌, Bool, true, false, cond, not, ◌&&◌, eqb, leb, ◌⊎◌, List, [], ◌∷◌, sym, refl, ap, ◌∙◌, subst, inl, inr, ⊎_elim, mul-le-mul_right, arith}
use Rattle.std.proofs.lemmas.Bool.{cases_lt, cases_Bool, eq-eqb, eqb-true, and_from, and_parts, cond-true, cond-false, both_ways, le-leb, leb-true}
use Rattle.terms.specs.declared.terms.Terms.{Terms}
use Rattle.precedence.specs.Laws.{Laws}
use Rattle.figures.specs.declared.copies.Role.{Role}
use Rattle.figures.specs.declared.copies.Role.TheVariants.{Primary, Standby}
use Rattle.figures.specs.declared.copies.JobCopy.{JobCopy}
use Rattle.figures.specs.Demand.{ceil, run_of, charge, work_in, held_off, all_held_off, demand}
use Rattle.figures.proofs.Demands.{run_some, period_some}
use Rattle.rack.specs.declared.placement.Status.{Status}
use Rattle.rack.specs.declared.placement.Status.TheVariants.{Passive, Active}
use Rattle.rack.specs.declared.placement.Placement.{Placement}
use Rattle.rack.specs.Plan.{In, number, active, machine, Placed, Arranged}
use Rattle.rack.specs.Day.{Day, invoked, work, Stop, no_stop, stops, halted}
use Rattle.rack.specs.Run.{Slot, idle, runs, Run, sum_to, hit, worked, Finished, StandbyReleased, Released, dropped, Ready, Keeps}
use Rattle.rack.specs.Sets.{copy_of}
use Rattle.rack.proofs.Same.{same_number, slot_cases}
use Rattle.rack.proofs.SumLaws.{sum_add, sum_swap, sum_most, sum_least, sum_split, sum_one, sum_cond_le, sum_over, sum_over_swap, sum_over_one, window_low, window_high}

-- the hit of the slot's own call-up
hit_same : (n k : ℕ) → hit (runs n k) n k ≡ 1
hit_same n k = cond-true _ 1 0 (and_from _ _ (eq-eqb n n refl) (eq-eqb k k refl))

-- a slot that is hit runs that call-up
hit_cases : (slot : Slot) (n k : ℕ) → (hit slot n k ≡ 0) ⊎ ((slot ≡ runs n k) × (hit slot n k ≡ 1))
hit_cases idle n k = inl refl
hit_cases (runs a b) n k =
    ⊎_elim
    (λ same. let p = and_parts _ _ same in inr ((λ z. runs (eqb-true a n p.0 z) (eqb-true b k p.1 z)), cond-true _ 1 0 same))
    (λ other. inl (cond-false _ 1 0 other))
    (cases_Bool (eqb a n && eqb b k))

-- the same slot under other names for its numbers
runs_as : {slot : Slot} {n k j l : ℕ} → slot ≡ runs n k → n ≡ j → k ≡ l → slot ≡ runs j l
runs_as is same_job same_call = is ∙ (λ z. runs (same_job z) (same_call z))

-- more time, no less work
pub worked_mono : (run : Run) (g n k t u : ℕ) → t ≤ u → worked run g n k t ≤ worked run g n k u
worked_mono run g n k t u l =
    let e : u ≡ t + (u - t) = omega arith in
    omega (arith, ap (worked run g n k) e, sum_split t (u - t) (λ v. hit (run g v) n k))

-- a copy's work is at least 1
pub work_some : (day : Day) (role : Role) (t : Terms) (k : ℕ) → 1 ≤ work day role t k
work_some day role t k = omega arith

-- and at most its run
pub work_most : (day : Day) (role : Role) (t : Terms) (k : ℕ) → work day role t k ≤ run_of role t
work_most day role t k = omega (arith, run_some role t)

-- a standby is not released before its invocation
standby_not_early :
    (status : Status) (stop : Stop) (day : Day) (run : Run) (p : Placement) (k r : ℕ) →
    StandbyReleased status day stop run p k r → invoked day p.terms k ≤ r
standby_not_early Active stop day run p k r e = omega (arith, e)
standby_not_early Passive no_stop day run p k r e = absurd e
standby_not_early Passive (stops f s) day run p k r e =
    ⊎_elim
    (λ before. omega (arith, e.2 before))
    (λ since. omega (arith, e.3 since))
    (cases_lt (invoked day p.terms k) s)

-- no copy is
pub not_early :
    (role : Role) (day : Day) (stop : Stop) (run : Run) (p : Placement) (k r : ℕ) →
    Released day stop run role p k r → invoked day p.terms k ≤ r
not_early Primary day stop run p k r e = omega (arith, e)
not_early Standby day stop run p k r e = standby_not_early p.status stop day run p k r e

-- what is dropped stays dropped
kept_before :
    (stop : Stop) (role : Role) (p : Placement) (t u : ℕ) → t ≤ u →
    dropped stop role p u ≡ false → dropped stop role p t ≡ false
kept_before no_stop role p t u l kept = refl
kept_before (stops f s) Primary p t u l kept = refl
kept_before (stops f s) Standby p t u l kept =
    ⊎_elim
    (λ gone.
    let parts = and_parts (leb s t) (active p.status && not (eqb p.primary f)) gone in
    absurd (both_ways _ kept (and_from _ _ (le-leb s u (omega (arith, leb-true s t parts.0))) parts.1)))
    (λ still. still)
    (cases_Bool (dropped (stops f s) Standby p t))

-- a machine has one copy of a job at most
pub one_role : (m : ℕ) (p : Placement) → Placed m p → (a b : Role) → machine a p ≡ machine b p → a ≡ b
one_role m p placed Primary Primary e = refl
one_role m p placed Primary Standby e = absurd (placed.apart e)
one_role m p placed Standby Primary e = absurd (placed.apart (sym e))
one_role m p placed Standby Standby e = refl

-- up to tick H, machine g is described by a set of copies, with the lateness that each copy has there
pub record Described
    (ps : List Placement) (day : Day) (stop : Stop) (run : Run) (g H : ℕ) (late_of : Role → Placement → ℕ) (set : List JobCopy) : Type 0 where
  -- only copies that stand on g are in the set
  pub stands : (c : JobCopy) → In c set → (q : Placement) × In q ps × (c.terms ≡ q.terms) × (machine c.role q ≡ g)
  -- a copy on g that is released before H is in the set, and as late as it says at most
  pub releases :
      (q : Placement) → In q ps → (role : Role) → machine role q ≡ g → (k r : ℕ) → Released day stop run role q k r → r < H →
      In (copy_of role q (late_of role q)) set × (r ≤ invoked day q.terms k + late_of role q)

module _
    (before : Terms → Terms → Bool) (laws : Laws before) (m : ℕ) (ps : List Placement) (plan : Arranged m ps)
    (day : Day) (stop : Stop) (run : Run) (keeps : Keeps before ps day stop run) (g : ℕ) where
  -- what runs on g is ready there
  ready_now : (p : Placement) → In p ps → (k t : ℕ) → run g t ≡ runs (number p) k → Ready day stop run g p k t
  ready_now p p_in k t is =
      let found = keeps.only_ready g t (number p) k is in
      let same : found.0 ≡ p = same_number ps found.0 p plan.once found.1 p_in found.2 in
      subst (λ z. Ready day stop run g z k t) same found.3

  -- and in the role that the job has there
  ready_in_role :
      (p : Placement) → In p ps → (role : Role) → machine role p ≡ g → (k t : ℕ) → run g t ≡ runs (number p) k →
      (since : ℕ) × Released day stop run role p k since × (since ≤ t) × (worked run g (number p) k t < work day role p.terms k)
  ready_in_role p p_in role here k t is =
      let ready = ready_now p p_in k t is in
      let as_here : ready.role ≡ role = one_role m p (plan.placed p p_in) ready.role role (ready.here ∙ sym here) in
      subst (λ z. (since : ℕ) × Released day stop run z p k since × (since ≤ t) × (worked run g (number p) k t < work day z p.terms k)) as_here
      (ready.since, ready.released, ready.begun, ready.unfinished)

  -- a call-up never gets more than its work
  worked_most : (p : Placement) → In p ps → (role : Role) → machine role p ≡ g → (k t : ℕ) → worked run g (number p) k t ≤ work day role p.terms k
  worked_most p p_in role here k zero = omega arith
  worked_most p p_in role here k (suc t) =
      ⊎_elim
      (λ none. omega (arith, worked_most p p_in role here k t))
      (λ one. omega (arith, (ready_in_role p p_in role here k t one.0).3))
      (hit_cases (run g t) (number p) k)

  -- a job that goes before p runs at t
  abbrev Higher : Placement → ℕ → Type 0
  Higher p t = (q : Placement) × (k : ℕ) × In q ps × (run g t ≡ runs (number q) k) × (before q.terms p.terms ≡ true)

  -- that can be told
  higher_or_not : (p : Placement) (t : ℕ) → Higher p t ⊎ (Higher p t → ⊥)
  higher_or_not p t =
      ⊎_elim
      (λ nothing. inr (λ h. let e = h.3 in let z : ◌≡◌ {A = ℕ} 0 1 = cc in omega arith))
      (λ some.
      let found = keeps.only_ready g t some.0 some.1 some.2 in
      ⊎_elim
      (λ yes'. inl (found.0, some.1, found.1, runs_as some.2 (sym found.2) refl, yes'))
      (λ no'.
      inr
      (λ h.
      let e = h.3 in
      let d = some.2 in
      let n : some.0 ≡ number h.0 = cc in
      let same : h.0 ≡ found.0 = same_number ps h.0 found.0 plan.once h.2 found.1 (sym n ∙ sym found.2) in
      both_ways _ no' (ap (λ z. before z.terms p.terms) (sym same) ∙ h.4)))
      (cases_Bool (before found.0.terms p.terms)))
      (slot_cases (run g t))

  -- the ticks just before r in which only jobs that go before p run
  busy_start :
      (p : Placement) (r : ℕ) →
      (from : ℕ) × (from ≤ r) × ((t : ℕ) → from ≤ t → t < r → Higher p t) × ((u : ℕ) → suc u ≡ from → Higher p u → ⊥)
  busy_start p zero = (0, omega arith, (λ t a b. absurd (omega arith)), (λ u e h. absurd (omega arith)))
  busy_start p (suc r) =
      let rest = busy_start p r in
      ⊎_elim
      (λ here. (
        rest.0,
        omega arith,
        (λ t a b.
            ⊎_elim
            (λ less. rest.2 t a less)
            (λ most. let e : r ≡ t = omega arith in subst (λ u. Higher p u) e here)
            (cases_lt t r)),
        rest.3,
      ))
      (λ not_here. (
        suc r,
        omega arith,
        (λ t a b. absurd (omega arith)),
        (λ u e h. let same : u ≡ r = omega arith in not_here (subst (λ v. Higher p v) same h)),
      ))
      (higher_or_not p r)

  module _
      (H : ℕ) (goes : (t : ℕ) → t < H → halted stop g t ≡ false)
      (late_of : Role → Placement → ℕ) (set : List JobCopy) (described : Described ps day stop run g H late_of set) where
    -- one call-up takes no more than its copy is charged
    copy_most : (c : JobCopy) → In c set → (k t : ℕ) → worked run g c.terms.number k t ≤ charge c
    copy_most c c_in k t =
        let at = described.stands c c_in in
        let most : worked run g (number at.0) k t ≤ run_of c.role at.0.terms =
        omega (arith, worked_most at.0 at.1 c.role at.3 k t, work_most day c.role at.0.terms k)
        in
        subst (λ (z : Terms). worked run g z.number k t ≤ run_of c.role z) (sym at.2) most

    -- the first call-up of a copy that can be released at or after from
    abbrev first : ℕ → JobCopy → ℕ
    first from c = ceil (from - (day.offset c.terms.number + c.lateness)) c.terms.period

    -- how many can be in a window of x ticks
    abbrev many : ℕ → JobCopy → ℕ
    many x c = ceil (x + c.lateness) c.terms.period

    -- 1 if the slot is one of the copy's call-ups that can be released in the window
    abbrev ours : ℕ → ℕ → Slot → JobCopy → ℕ
    ours from x slot c = sum_to (many x c) (λ j. hit slot c.terms.number (first from c + j))

    -- the same over the copies that go before a job
    abbrev all : Terms → ℕ → ℕ → Slot → ℕ
    all own from x slot = sum_over set (λ c. cond (before c.terms own) (ours from x slot c) 0)

    -- a copy takes no more of a window than it is held to
    ours_most : (from x : ℕ) (c : JobCopy) → In c set → sum_to x (λ u. ours from x (run g (from + u)) c) ≤ work_in c x
    ours_most from x c c_in =
        rw (sum_swap x (many x c) (λ u j. hit (run g (from + u)) c.terms.number (first from c + j)))
        (sum_most (many x c) (charge c) (λ j. sum_to x (λ u. hit (run g (from + u)) c.terms.number (first from c + j)))
        (λ j l. omega (arith, copy_most c c_in (first from c + j) (from + x), sum_split from x (λ v. hit (run g v) c.terms.number (first from c + j)))))

    -- a sum whose terms are at most what each copy can hold off
    held_most :
        (part : List JobCopy) (own : JobCopy) (x : ℕ) (f : JobCopy → ℕ) → ((c : JobCopy) → In c part → f c ≤ held_off before c own x) →
        sum_over part f ≤ all_held_off before part own x
    held_most [] own x f h = omega arith
    held_most (c ∷ part) own x f h = omega (arith, h c (inl refl), held_most part own x f (λ d d_in. h d (inr d_in)))

    -- all of them take no more of a window than they can hold off
    all_most : (own : JobCopy) (from x : ℕ) → sum_to x (λ u. all own.terms from x (run g (from + u))) ≤ all_held_off before set own x
    all_most own from x =
        rw (sum_over_swap x set (λ u c. cond (before c.terms own.terms) (ours from x (run g (from + u)) c) 0))
        (held_most set own x (λ c. sum_to x (λ u. cond (before c.terms own.terms) (ours from x (run g (from + u)) c) 0))
        (λ c c_in. sum_cond_le (before c.terms own.terms) x (work_in c x) (λ u. ours from x (run g (from + u)) c) (ours_most from x c c_in)))

    -- a higher job's call-up that is released in the window counts
    counts :
        (p : Placement) (from x : ℕ) (q : Placement) (role : Role) (k r : ℕ) (slot : Slot) →
        In q ps → machine role q ≡ g → before q.terms p.terms ≡ true → slot ≡ runs (number q) k →
        Released day stop run role q k r → r < H → from ≤ r → r < from + x → 1 ≤ all p.terms from x slot
    counts p from x q role k r slot q_in here higher is released below begins ends =
        let c : JobCopy = copy_of role q (late_of role q) in
        let known = described.releases q q_in role here k r released below in
        let T = q.terms.period in
        let L = late_of role q in
        let O = day.offset (number q) in
        let early = not_early role day stop run q k r released in
        let low = window_low T L O from x k r (period_some q.terms) early known.1 begins ends in
        let high = window_high T L O from x k r (period_some q.terms) early known.1 begins ends in
        let j : ℕ = k - first from c in
        let place : first from c + j ≡ k = omega arith in
        let one : hit slot (number q) (first from c + j) ≡ 1 =
        ap (hit slot (number q)) place ∙ ap (λ z. hit z (number q) k) is ∙ hit_same (number q) k
        in
        let inner = sum_one (many x c) j (λ n. hit slot (number q) (first from c + n)) (omega arith) in
        let outer = sum_over_one set c (λ d. cond (before d.terms p.terms) (ours from x slot d) 0) known.0 in
        omega (arith, inner, outer, one, cond-true (before q.terms p.terms) (ours from x slot c) 0 higher)

    -- what runs while a higher job is ready is higher too
    ahead_higher :
        (p q : Placement) (k t : ℕ) → t < H → In q ps → before q.terms p.terms ≡ true →
        Ready day stop run g q k t → Higher p t
    ahead_higher p q k t below q_in higher ready =
        let top = keeps.most_urgent g t q k (goes t below) q_in ready in
        ⊎_elim
        (λ more. (top.0, top.1, top.2, top.3, laws.transitive top.0.terms q.terms p.terms more higher))
        (λ same.
        let is_q : top.0 ≡ q = same_number ps top.0 q plan.once top.2 q_in same.0 in
        (top.0, top.1, top.2, top.3, ap (λ z. before z.terms p.terms) is_q ∙ higher))
        top.4

    -- with no higher job running right before from, what is ready later of a higher job was released at or after from
    released_since :
        (p : Placement) (from t : ℕ) (q : Placement) (k : ℕ) → ((u : ℕ) → suc u ≡ from → Higher p u → ⊥) →
        from ≤ t → t < H → In q ps → before q.terms p.terms ≡ true →
        (ready : Ready day stop run g q k t) → from ≤ ready.since
    released_since p from t q k none begins below q_in higher ready =
        ⊎_elim
        (λ less.
        let u : ℕ = from - 1 in
        let earlier : Ready day stop run g q k u = record {
          role = ready.role;
          here = ready.here;
          since = ready.since;
          released = ready.released;
          begun = omega arith;
          unfinished = omega (arith, worked_mono run g (number q) k u t (omega arith), ready.unfinished);
          kept = kept_before stop ready.role q u t (omega arith) ready.kept;
        } in
        absurd (none u (omega arith) (ahead_higher p q k u (omega arith) q_in higher earlier)))
        (λ most. most)
        (cases_lt ready.since from)

    module _
        (role : Role) (p : Placement) (p_in : In p ps) (here : machine role p ≡ g) (never_dropped : (t : ℕ) → dropped stop role p t ≡ false)
        (x : ℕ) (holds : demand before set (copy_of role p (late_of role p)) x ≤ x) (in_time : x + late_of role p ≤ p.terms.period) where
      -- call-up k is finished within the window
      abbrev Done : ℕ → Type 0
      Done k = (r : ℕ) → Released day stop run role p k r → r + x ≤ H → work day role p.terms k ≤ worked run g (number p) k (r + x)

      -- once the earlier call-ups are done and call-up k is not
      module _
          (k : ℕ) (earlier : (j : ℕ) → j < k → Done j) (r : ℕ) (released : Released day stop run role p k r) (within : r + x ≤ H)
          (undone : worked run g (number p) k (r + x) < work day role p.terms k) where
        -- an earlier call-up runs no more from r on
        earlier_gone : (j t : ℕ) → j < k → r ≤ t → t < H → run g t ≡ runs (number p) j → ⊥
        earlier_gone j t less begins below is =
            let open' = ready_in_role p p_in role here j t is in
            let since : ℕ = open'.0 in
            let steps : suc j * p.terms.period ≤ k * p.terms.period = mul-le-mul_right p.terms.period less in
            let in_lateness = (described.releases p p_in role here j since open'.1 (omega (arith, open'.2))).1 in
            let by_then : since + x ≤ t = omega (arith, steps, in_lateness, not_early role day stop run p k r released) in
            omega (arith, earlier j less since open'.1 (omega arith), open'.3, worked_mono run g (number p) j (since + x) t by_then)

        -- from r on call-up k or a higher job runs
        own_or_higher : (t : ℕ) → r ≤ t → t < r + x → Higher p t ⊎ (run g t ≡ runs (number p) k)
        own_or_higher t begins ends =
            let ready : Ready day stop run g p k t = record {
              role = role;
              here = here;
              since = r;
              released = released;
              begun = begins;
              unfinished = omega (arith, worked_mono run g (number p) k t (r + x) (omega arith));
              kept = never_dropped t;
            } in
            let top = keeps.most_urgent g t p k (goes t (omega arith)) p_in ready in
            ⊎_elim
            (λ more. inl (top.0, top.1, top.2, top.3, more))
            (λ same.
            ⊎_elim
            (λ less. absurd (earlier_gone top.1 t less begins (omega arith) (runs_as top.3 same.0 refl)))
            (λ most. let e : top.1 ≡ k = omega (arith, same.1) in inr (runs_as top.3 same.0 e))
            (cases_lt top.1 k))
            top.4

        -- then the window holds more than is asked of it
        no_way : ⊥
        no_way =
            let start = busy_start p r in
            let from : ℕ = start.0 in
            let from_r : from ≤ r = start.1 in
            let term : ℕ → ℕ = λ u. all p.terms from x (run g (from + u)) + hit (run g (from + u)) (number p) k in
            let by_higher : (u : ℕ) → u < x → Higher p (from + u) → 1 ≤ term u =
            λ u l h.
            let ready = ready_now h.0 h.2 h.1 (from + u) h.3 in
            let since = released_since p from (from + u) h.0 h.1 start.3 (omega arith) (omega arith) h.2 h.4 ready in
            let one =
            counts p from x h.0 ready.role h.1 ready.since (run g (from + u)) h.2 ready.here h.4 h.3 ready.released
            (omega (arith, ready.begun)) since (omega (arith, ready.begun))
            in
            omega (arith, one)
            in
            let each : (u : ℕ) → u < x → 1 ≤ term u =
            λ u l.
            ⊎_elim
            (λ less. by_higher u l (start.2 (from + u) (omega arith) less))
            (λ most.
            ⊎_elim
            (λ h. by_higher u l h)
            (λ is. omega (arith, ap (λ z. hit z (number p) k) is ∙ hit_same (number p) k))
            (own_or_higher (from + u) most (omega arith)))
            (cases_lt (from + u) r)
            in
            omega (
              arith,
              sum_least x term each,
              sum_add x (λ u. all p.terms from x (run g (from + u))) (λ u. hit (run g (from + u)) (number p) k),
              all_most (copy_of role p (late_of role p)) from x,
              sum_split from x (λ v. hit (run g v) (number p) k),
              worked_mono run g (number p) k (from + x) (r + x) (omega arith),
              work_most day role p.terms k,
            )

      -- strong induction on the call-up
      done_below : (n k : ℕ) → k < n → Done k
      done_below zero k l r released within = absurd (omega arith)
      done_below (suc n) k l r released within =
          ⊎_elim
          (λ undone. absurd (no_way k (λ j less. done_below n j (omega arith)) r released within undone))
          (λ done. done)
          (cases_lt (worked run g (number p) k (r + x)) (work day role p.terms k))

-- the bound: released at r, finished by r + x, where x holds what is asked of it and ends within the period
pub finished_within :
    (before : Terms → Terms → Bool) → Laws before → (m : ℕ) (ps : List Placement) → Arranged m ps →
    (day : Day) (stop : Stop) (run : Run) → Keeps before ps day stop run →
    (role : Role) (p : Placement) → In p ps → ((t : ℕ) → dropped stop role p t ≡ false) →
    (H : ℕ) → ((t : ℕ) → t < H → halted stop (machine role p) t ≡ false) →
    (late_of : Role → Placement → ℕ) (set : List JobCopy) → Described ps day stop run (machine role p) H late_of set →
    (x : ℕ) → demand before set (copy_of role p (late_of role p)) x ≤ x → x + late_of role p ≤ p.terms.period →
    (k r : ℕ) → Released day stop run role p k r → r + x ≤ H → Finished day run role p k (r + x)
finished_within before laws m ps plan day stop run keeps role p p_in never_dropped H goes late_of set described x holds in_time k r released within =
    done_below before laws m ps plan day stop run keeps (machine role p) H goes late_of set described
    role p p_in refl never_dropped x holds in_time (suc k) k (omega arith) r released within

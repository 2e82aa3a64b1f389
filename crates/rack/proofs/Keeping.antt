-- The computed run of a day keeps its rules, so it is the one run of the day.
use Rattle.std.proofs.Common.{◌≡◌, ℕ, zero, suc, ◌+◌, ◌*◌, ◌<◌, ◌≤◌, Bool, true, false, cond, ltb, List, [], ◌∷◌, map, length, get_or, sym, refl, ap, ◌∙◌, subst, inl, inr, ⊎_elim, arith}
use Rattle.std.specs.List.{range_with_len}
use Rattle.std.proofs.lemmas.Bool.{cases_lt, cases_Bool, both_ways, not-true, not_from_false, ltb-true, ltb-false, leb-true, eqb-true, lt-ltb, le-ltb, le-leb, eq-eqb, and_parts, and_from, or_cases, or_left, or_right, cond-true, cond-false, cond_both}
use Rattle.std.proofs.lemmas.Nat.{mul-le}
use Rattle.std.proofs.lemmas.List.{length_push, get_or_append_left, get_or_push, get_or_past}
use Rattle.std.proofs.lemmas.List.FromFn.{length-map-range_with_len, get_or-map-range_with_len}
use Rattle.terms.specs.declared.terms.Terms.{Terms}
use Rattle.precedence.specs.Laws.{Laws}
use Rattle.precedence.specs.Orders.{either_first}
use Rattle.figures.specs.declared.copies.Role.{Role}
use Rattle.figures.specs.declared.copies.Role.TheVariants.{Primary, Standby}
use Rattle.figures.proofs.Demands.{period_some}
use Rattle.rack.specs.declared.placement.Status.{Status}
use Rattle.rack.specs.declared.placement.Status.TheVariants.{Passive, Active}
use Rattle.rack.specs.declared.placement.Placement.{Placement}
use Rattle.rack.specs.Plan.{In, number, machine, Once, Placed, Arranged}
use Rattle.rack.specs.Day.{Day, invoked, late, Stop, no_stop, stops, halted}
use Rattle.rack.specs.Run.{idle, runs, Run, worked, Wakes, StandbyReleased, Released, Ready, Ahead, Keeps}
use Rattle.rack.specs.Played.{
  has_woken,
  standby_out,
  is_out,
  is_ready_as,
  is_ready,
  Choice,
  nothing,
  call_up,
  or_else,
  earliest,
  first_of,
  best,
  slot_of,
  next_slot,
  recorded,
  ticks_to,
  played,
}
use Rattle.rack.proofs.Bound.{not_early}
use Rattle.rack.proofs.Same.{same_number, idle_runs, worked_same, ready_moves, same_run}

-- the tests of the computed run say what the rules say
module _ (day : Day) (stop : Stop) (run : Run) where
  -- what has woken, woke at some tick
  woken_wakes : (on : Stop) (p : Placement) (k t : ℕ) → has_woken day on run p k t ≡ true → (since : ℕ) × Wakes day on run p k since × (since ≤ t)
  woken_wakes no_stop p k t e = absurd (both_ways false refl e)
  woken_wakes (stops f s) p k t e =
      let a : ℕ = invoked day p.terms k in
      let r : ℕ = a + late day Standby p.terms k in
      let x = and_parts _ _ e in
      let y = and_parts _ _ x.1 in (
        cond (ltb a s) s r,
        (
          eqb-true _ _ x.0,
          ltb-true _ _ y.1,
          λ less. cond-true (ltb a s) s r (lt-ltb a s less),
          λ most. cond-false (ltb a s) s r (le-ltb a s most),
        ),
        leb-true _ _ y.0,
      )

  -- and what woke has woken
  wakes_woken : (on : Stop) (p : Placement) (k t r : ℕ) → Wakes day on run p k r → r ≤ t → has_woken day on run p k t ≡ true
  wakes_woken no_stop p k t r w l = absurd w
  wakes_woken (stops f s) p k t r w l =
      let a : ℕ = invoked day p.terms k in
      let b : ℕ = a + late day Standby p.terms k in
      let by_then : cond (ltb a s) s b ≤ t =
      cond_both (ltb a s) s b (λ z. z ≤ t) (λ e. omega (arith, w.2 (ltb-true a s e))) (λ e. omega (arith, w.3 (ltb-false a s e))) in
      and_from _ _ (eq-eqb _ _ w.0) (and_from _ _ (le-leb _ _ by_then) (lt-ltb _ _ w.1))

  standby_out_released :
      (status : Status) (p : Placement) (k t : ℕ) → standby_out status day stop run p k t ≡ true →
      (since : ℕ) × StandbyReleased status day stop run p k since × (since ≤ t)
  standby_out_released Passive p k t e = woken_wakes stop p k t e
  standby_out_released Active p k t e = (invoked day p.terms k + late day Standby p.terms k, refl, leb-true _ _ e)

  -- what is out was released at some tick
  out_released :
      (role : Role) (p : Placement) (k t : ℕ) → is_out day stop run role p k t ≡ true →
      (since : ℕ) × Released day stop run role p k since × (since ≤ t)
  out_released Primary p k t e = (invoked day p.terms k + late day Primary p.terms k, refl, leb-true _ _ e)
  out_released Standby p k t e = standby_out_released p.status p k t e

  standby_released_out :
      (status : Status) (p : Placement) (k t r : ℕ) → StandbyReleased status day stop run p k r → r ≤ t → standby_out status day stop run p k t ≡ true
  standby_released_out Passive p k t r w l = wakes_woken stop p k t r w l
  standby_released_out Active p k t r w l = le-leb _ _ (omega arith)

  -- and what was released is out
  released_out : (role : Role) (p : Placement) (k t r : ℕ) → Released day stop run role p k r → r ≤ t → is_out day stop run role p k t ≡ true
  released_out Primary p k t r w l = le-leb _ _ (omega arith)
  released_out Standby p k t r w l = standby_released_out p.status p k t r w l

  ready_in : (role : Role) (g : ℕ) (p : Placement) (k t : ℕ) → is_ready_as day stop run g role p k t ≡ true → Ready day stop run g p k t
  ready_in role g p k t e =
      let x = and_parts _ _ e in
      let y = and_parts _ _ x.1 in
      let z = and_parts _ _ y.1 in
      let out = out_released role p k t y.0 in
      record {
        role = role;
        here = eqb-true _ _ x.0;
        since = out.0;
        released = out.1;
        begun = out.2;
        unfinished = ltb-true _ _ z.0;
        kept = not-true _ z.1;
      }

  -- what tests ready is ready
  tests_ready : (g : ℕ) (p : Placement) (k t : ℕ) → is_ready day stop run g p k t ≡ true → Ready day stop run g p k t
  tests_ready g p k t e = ⊎_elim (λ a. ready_in Primary g p k t a) (λ b. ready_in Standby g p k t b) (or_cases _ _ e)

  in_either : (role : Role) (g : ℕ) (p : Placement) (k t : ℕ) → is_ready_as day stop run g role p k t ≡ true → is_ready day stop run g p k t ≡ true
  in_either Primary g p k t e = or_left _ _ e
  in_either Standby g p k t e = or_right _ _ e

  -- and what is ready tests so
  ready_tests : (g : ℕ) (p : Placement) (k t : ℕ) → Ready day stop run g p k t → is_ready day stop run g p k t ≡ true
  ready_tests g p k t r =
      in_either r.role g p k t
      (and_from _ _ (eq-eqb _ _ r.here)
      (and_from _ _ (released_out r.role p k t r.since r.released r.begun) (and_from _ _ (lt-ltb _ _ r.unfinished) (not_from_false _ r.kept))))

  -- a call-up that is ready at t is one of the first t + 1
  ready_early : (g : ℕ) (p : Placement) (k t : ℕ) → Ready day stop run g p k t → k < suc t
  ready_early g p k t r =
      let more : k * 1 ≤ k * p.terms.period = mul-le k 1 k p.terms.period (omega arith) (period_some p.terms) in
      omega (arith, not_early r.role day stop run p k r.since r.released, r.begun)

-- the earliest of the first n that pass, or nothing where none does
module _ (test : ℕ → Bool) (p : Placement) where
  abbrev Earliest : ℕ → Choice → Type 0
  Earliest n nothing = (j : ℕ) → j < n → test j ≡ true → ⊥
  Earliest n (call_up q j) = (q ≡ p) × (test j ≡ true) × ((i : ℕ) → i < j → test i ≡ true → ⊥)

  earliest_more : (n : ℕ) (c : Choice) → Earliest n c → Earliest (suc n) (or_else c (cond (test n) (call_up p n) nothing))
  earliest_more n nothing none =
      cond_both (test n) (call_up p n) nothing (λ z. Earliest (suc n) z)
      (λ here. (refl, here, none))
      (λ not_here j l at.
      ⊎_elim
      (λ less. none j less at)
      (λ most. let e : j ≡ n = omega arith in both_ways (test n) not_here (subst (λ z. test z ≡ true) e at))
      (cases_lt j n))
  earliest_more n (call_up q j) found = found

  earliest_is : (n : ℕ) → Earliest n (earliest test p n)
  earliest_is zero = λ j l at. absurd (omega arith)
  earliest_is (suc n) = earliest_more n (earliest test p n) (earliest_is n)

module _ (before : Terms → Terms → Bool) (laws : Laws before) (day : Day) (stop : Stop) (run : Run) (g t : ℕ) where
  -- call-up j of q is ready at t, and ahead of all of the list that is ready
  record Leads (ps : List Placement) (q : Placement) (j : ℕ) : Type 0 where
    listed : In q ps
    ready : Ready day stop run g q j t
    ahead : (p : Placement) (k : ℕ) → In p ps → Ready day stop run g p k t → Ahead before q j p k

  -- a good choice leads, or nothing of the list is ready
  abbrev Good : List Placement → Choice → Type 0
  Good ps nothing = (p : Placement) (k : ℕ) → In p ps → Ready day stop run g p k t → ⊥
  Good ps (call_up q j) = Leads ps q j

  -- the test of the call-ups of a job
  abbrev of_job : Placement → ℕ → Bool
  of_job p k = is_ready day stop run g p k t

  -- where the first has nothing ready a good choice of the others is good
  good_later : (p : Placement) (ps : List Placement) → ((k : ℕ) → Ready day stop run g p k t → ⊥) → (c : Choice) → Good ps c → Good (p ∷ ps) c
  good_later p ps none nothing empty =
      λ x k at r. ⊎_elim (λ first. none k (subst (λ z. Ready day stop run g z k t) first r)) (λ later. empty x k later r) at
  good_later p ps none (call_up q j) leads = record {
    listed = inr leads.listed;
    ready = leads.ready;
    ahead = λ x k at r.
        ⊎_elim (λ first. absurd (none k (subst (λ z. Ready day stop run g z k t) first r))) (λ later. leads.ahead x k later r) at;
  }

  module _
      (p : Placement) (ps : List Placement) (once : Once (p ∷ ps))
      (j : ℕ) (own : of_job p j ≡ true) (none : (i : ℕ) → i < j → of_job p i ≡ true → ⊥) where
    -- the earliest call-up of the first leads where it is ahead of the others
    first_leads : ((x : Placement) (k : ℕ) → In x ps → Ready day stop run g x k t → Ahead before p j x k) → Leads (p ∷ ps) p j
    first_leads others = record {
      listed = inl refl;
      ready = tests_ready day stop run g p j t own;
      ahead = λ x k at r.
          ⊎_elim
          (λ first.
          ⊎_elim
          (λ less. absurd (none k less (ready_tests day stop run g p k t (subst (λ z. Ready day stop run g z k t) first r))))
          (λ most. inr (ap number (sym first), most))
          (cases_lt k j))
          (λ later. others x k later r)
          at;
    }

    -- the better of the first's and the others' choice is good
    good_first : (c : Choice) → Good ps c → Good (p ∷ ps) (first_of before (call_up p j) c)
    good_first nothing empty = first_leads (λ x k later r. absurd (empty x k later r))
    good_first (call_up q i) leads =
        cond_both (before p.terms q.terms) (call_up p j) (call_up q i) (λ z. Good (p ∷ ps) z)
        (λ mine.
        first_leads
        (λ x k later r.
        ⊎_elim
        (λ up. inl (laws.transitive p.terms q.terms x.terms mine up))
        (λ same. inl (subst (λ z. before p.terms z.terms ≡ true) (same_number ps q x once.1 leads.listed later same.0) mine))
        (leads.ahead x k later r)))
        (λ theirs.
        let up : before q.terms p.terms ≡ true =
        ⊎_elim (λ y. y) (λ w. absurd (both_ways _ theirs w)) (either_first before laws q.terms p.terms (once.0 q leads.listed)) in
        record {
          listed = inr leads.listed;
          ready = leads.ready;
          ahead = λ x k at r.
              ⊎_elim (λ first. inl (subst (λ z. before q.terms z.terms ≡ true) (sym first) up)) (λ later. leads.ahead x k later r) at;
        })

  good_both :
      (p : Placement) (ps : List Placement) → Once (p ∷ ps) → (c d : Choice) → Earliest (of_job p) p (suc t) c → Good ps d →
      Good (p ∷ ps) (first_of before c d)
  good_both p ps once nothing d none good =
      good_later p ps (λ k r. none k (ready_early day stop run g p k t r) (ready_tests day stop run g p k t r)) d good
  good_both p ps once (call_up x j) d found good =
      subst (λ z. Good (p ∷ ps) (first_of before (call_up z j) d)) (sym found.0) (good_first p ps once j found.1 found.2 d good)

  -- the best of a list is a good choice
  best_good : (ps : List Placement) → Once ps → Good ps (best before day stop run g t ps)
  best_good [] once = λ p k at r. at
  best_good (p ∷ ps) once =
      good_both p ps once (earliest (of_job p) p (suc t)) (best before day stop run g t ps) (earliest_is (of_job p) p (suc t)) (best_good ps once.1)

  -- the tick of a good choice runs only what is ready
  good_ready :
      (ps : List Placement) (c : Choice) → Good ps c → (n k : ℕ) → slot_of c ≡ runs n k →
      (p : Placement) × In p ps × (number p ≡ n) × Ready day stop run g p k t
  good_ready ps nothing empty n k e = absurd (idle_runs idle n k refl e)
  good_ready ps (call_up q j) leads n k e =
      let same_n : number q ≡ n = cc in
      let same_k : j ≡ k = cc in
      (q, leads.listed, same_n, subst (λ z. Ready day stop run g q z t) same_k leads.ready)

  -- and it runs what is ahead of all that is ready
  good_ahead :
      (ps : List Placement) (c : Choice) → Good ps c → (p : Placement) (k : ℕ) → In p ps → Ready day stop run g p k t →
      (q : Placement) × (j : ℕ) × In q ps × (slot_of c ≡ runs (number q) j) × Ahead before q j p k
  good_ahead ps nothing empty p k at r = absurd (empty p k at r)
  good_ahead ps (call_up q j) leads p k at r = (q, j, leads.listed, refl, leads.ahead p k at r)

module _ (before : Terms → Terms → Bool) (m : ℕ) (ps : List Placement) (day : Day) (stop : Stop) where
  -- what was recorded before t
  abbrev past : ℕ → Run
  past t = recorded (ticks_to before m ps day stop t)

  length_ticks : (t : ℕ) → length (ticks_to before m ps day stop t) ≡ t
  length_ticks zero = refl
  length_ticks (suc t) = simp length_push (omega (arith, length_ticks t))

  -- one more tick leaves the others
  past_more : (t g u : ℕ) → u < t → past (suc t) g u ≡ past t g u
  past_more t g u l =
      ap (λ z. get_or z g idle) (get_or_append_left (ticks_to before m ps day stop t) _ [] u (omega (arith, length_ticks t)))

  -- the past is what was played
  past_played : (t g u : ℕ) → u < t → past t g u ≡ played before m ps day stop g u
  past_played zero g u l = absurd (omega arith)
  past_played (suc t) g u l =
      ⊎_elim
      (λ less. past_more t g u less ∙ past_played t g u less)
      (λ most. let e : t ≡ u = omega arith in ap (λ z. past (suc z) g u) e)
      (cases_lt u t)

  -- the last tick is the one that is added
  played_added : (g t : ℕ) → played before m ps day stop g t ≡ get_or (map (next_slot before ps day stop (past t) t) (range_with_len 0 m)) g idle
  played_added g t =
      ap (λ z. get_or z g idle)
      (get_or_push (ticks_to before m ps day stop t) (map (next_slot before ps day stop (past t) t) (range_with_len 0 m)) [] t (length_ticks t))

  -- a machine of the rack takes the next slot
  played_next : (g t : ℕ) → g < m → played before m ps day stop g t ≡ next_slot before ps day stop (past t) t g
  played_next g t l = played_added g t ∙ get_or-map-range_with_len (next_slot before ps day stop (past t) t) 0 m g g idle l (omega arith)

  -- there are no others
  played_none : (g t : ℕ) → m ≤ g → played before m ps day stop g t ≡ idle
  played_none g t l =
      played_added g t
      ∙ get_or_past (map (next_slot before ps day stop (past t) t) (range_with_len 0 m)) g idle (simp length-map-range_with_len l)

-- a copy stands on a machine of the rack
on_rack : (m : ℕ) (p : Placement) → Placed m p → (role : Role) (g : ℕ) → machine role p ≡ g → g < m
on_rack m p placed Primary g here = omega (arith, placed.primary)
on_rack m p placed Standby g here = omega (arith, placed.standby)

module _ (before : Terms → Terms → Bool) (laws : Laws before) (m : ℕ) (ps : List Placement) (plan : Arranged m ps) (day : Day) (stop : Stop) where
  -- the choice after what has run
  abbrev choice : ℕ → ℕ → Choice
  choice g t = best before day stop (past before m ps day stop t) g t ps

  choice_good : (g t : ℕ) → Good before laws day stop (past before m ps day stop t) g t ps (choice g t)
  choice_good g t = best_good before laws day stop (past before m ps day stop t) g t ps plan.once

  -- a machine that goes on takes its choice
  played_choice : (g t : ℕ) → g < m → halted stop g t ≡ false → played before m ps day stop g t ≡ slot_of (choice g t)
  played_choice g t l on = played_next before m ps day stop g t l ∙ cond-false (halted stop g t) idle (slot_of (choice g t)) on

  played_halts : (g t : ℕ) → halted stop g t ≡ true → played before m ps day stop g t ≡ idle
  played_halts g t off =
      ⊎_elim
      (λ less. played_next before m ps day stop g t less ∙ cond-true (halted stop g t) idle (slot_of (choice g t)) off)
      (λ most. played_none before m ps day stop g t most)
      (cases_lt g m)

  played_ready :
      (g t n k : ℕ) → g < m → halted stop g t ≡ false → played before m ps day stop g t ≡ runs n k →
      (p : Placement) × In p ps × (number p ≡ n) × Ready day stop (played before m ps day stop) g p k t
  played_ready g t n k l on e =
      let r = good_ready before laws day stop (past before m ps day stop t) g t ps (choice g t) (choice_good g t) n k (sym (played_choice g t l on) ∙ e) in (
        r.0,
        r.1,
        r.2,
        ready_moves day stop (past before m ps day stop t) (played before m ps day stop) t (λ h u d. sym (past_played before m ps day stop t h u d)) g r.0 k r.3,
      )

  keeps : Keeps before ps day stop (played before m ps day stop)
  keeps = record {
    halts = played_halts;
    only_ready = λ g t n k e.
        ⊎_elim
        (λ less.
        ⊎_elim
        (λ off. absurd (idle_runs (played before m ps day stop g t) n k (played_halts g t off) e))
        (λ on. played_ready g t n k less on e)
        (cases_Bool (halted stop g t)))
        (λ most. absurd (idle_runs (played before m ps day stop g t) n k (played_none before m ps day stop g t most) e))
        (cases_lt g m);
    most_urgent = λ g t p k on at r.
        let q =
        good_ahead before laws day stop (past before m ps day stop t) g t ps (choice g t) (choice_good g t) p k at
        (ready_moves day stop (played before m ps day stop) (past before m ps day stop t) t (past_played before m ps day stop t) g p k r) in
        (q.0, q.1, q.2, played_choice g t (on_rack m p (plan.placed p at) r.role g r.here) on ∙ q.3, q.4);
  }

-- the computed run of a day keeps its rules
pub played_keeps :
    (before : Terms → Terms → Bool) → Laws before → (m : ℕ) (ps : List Placement) → Arranged m ps → (day : Day) (stop : Stop) →
    Keeps before ps day stop (played before m ps day stop)
played_keeps before laws m ps plan day stop = keeps before laws m ps plan day stop

-- and every run that keeps them is that run
pub the_run :
    (before : Terms → Terms → Bool) → Laws before → (m : ℕ) (ps : List Placement) → Arranged m ps → (day : Day) (stop : Stop) (run : Run) →
    Keeps before ps day stop run → (g t : ℕ) → run g t ≡ played before m ps day stop g t
the_run before laws m ps plan day stop run kept g t =
    same_run before laws m ps plan day stop (played before m ps day stop) run (played_keeps before laws m ps plan day stop) kept g t

-- so it has done what the computed run has done
pub the_work :
    (before : Terms → Terms → Bool) → Laws before → (m : ℕ) (ps : List Placement) → Arranged m ps → (day : Day) (stop : Stop) (run : Run) →
    Keeps before ps day stop run → (g n k t : ℕ) → worked run g n k t ≡ worked (played before m ps day stop) g n k t
the_work before laws m ps plan day stop run kept g n k t =
    worked_same (played before m ps day stop) run g n k t (λ u l. the_run before laws m ps plan day stop run kept g u)

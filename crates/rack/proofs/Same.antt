-- At most one run keeps the rules of a day.
use Rattle.std.proofs.Common.{◌≡◌, ℕ, zero, suc, ◌<◌, ◌≤◌, Bool, true, false, ◌⊎◌, List, [], ◌∷◌, sym, refl, ap, ◌∙◌, subst, inl, inr, ⊎_elim, arith}
use Rattle.std.proofs.lemmas.Bool.{cases_lt, cases_Bool, both_ways}
use Rattle.terms.specs.declared.terms.Terms.{Terms}
use Rattle.precedence.specs.Laws.{Laws}
use Rattle.figures.specs.declared.copies.Role.{Role}
use Rattle.figures.specs.declared.copies.Role.TheVariants.{Primary, Standby}
use Rattle.rack.specs.declared.placement.Status.{Status}
use Rattle.rack.specs.declared.placement.Status.TheVariants.{Passive, Active}
use Rattle.rack.specs.declared.placement.Placement.{Placement}
use Rattle.rack.specs.Plan.{In, number, Once, Arranged}
use Rattle.rack.specs.Day.{Day, invoked, Stop, no_stop, stops, halted}
use Rattle.rack.specs.Run.{Slot, idle, runs, Run, hit, worked, Wakes, StandbyReleased, Released, Ready, Ahead, Keeps}

-- a list in which no number stands twice has one placement of a number
pub same_number : (ps : List Placement) (p q : Placement) → Once ps → In p ps → In q ps → number p ≡ number q → p ≡ q
same_number [] p q once a b e = absurd a
same_number (x ∷ ps) p q once a b e =
    ⊎_elim
    (λ p_first.
    ⊎_elim
    (λ q_first. p_first ∙ sym q_first)
    (λ q_later. absurd (once.0 q q_later (sym e ∙ ap number p_first)))
    b)
    (λ p_later.
    ⊎_elim
    (λ q_first. absurd (once.0 p p_later (e ∙ ap number q_first)))
    (λ q_later. same_number ps p q once.1 p_later q_later e)
    b)
    a

-- a tick is idle, or runs something
pub slot_cases : (s : Slot) → (s ≡ idle) ⊎ ((n : ℕ) × (k : ℕ) × (s ≡ runs n k))
slot_cases idle = inl refl
slot_cases (runs n k) = inr (n, k, refl)

-- a tick that runs something is not idle
pub idle_runs : (s : Slot) (n k : ℕ) → s ≡ idle → s ≡ runs n k → ⊥
idle_runs s n k a b = let z : ◌≡◌ {A = ℕ} 0 1 = cc in absurd (omega arith)

-- runs that agree before t have worked the same by t
pub worked_same : (one other : Run) (g n k t : ℕ) → ((u : ℕ) → u < t → other g u ≡ one g u) → worked other g n k t ≡ worked one g n k t
worked_same one other g n k zero below = refl
worked_same one other g n k (suc t) below =
    omega (arith, worked_same one other g n k t (λ u l. below u (omega arith)), ap (λ z. hit z n k) (below t (omega arith)))

-- what has worked the same by t on every machine wakes the same call-ups by t
pub wakes_moves :
    (day : Day) (stop : Stop) (one other : Run) (t : ℕ) → ((g n k u : ℕ) → u ≤ t → worked other g n k u ≡ worked one g n k u) →
    (p : Placement) (k r : ℕ) → r ≤ t → Wakes day stop one p k r → Wakes day stop other p k r
wakes_moves day no_stop one other t agree p k r l w = w
wakes_moves day (stops f s) one other t agree p k r l w =
    let reached : s ≤ t =
    ⊎_elim
    (λ (less : invoked day p.terms k < s). omega (arith, w.2 less))
    (λ (most : s ≤ invoked day p.terms k). omega (arith, w.3 most))
    (cases_lt (invoked day p.terms k) s) in
    (w.0, omega (arith, agree p.primary (number p) k s reached, w.1), w.2, w.3)

-- and releases the same standbys by t
pub standby_moves :
    (day : Day) (stop : Stop) (one other : Run) (t : ℕ) → ((g n k u : ℕ) → u ≤ t → worked other g n k u ≡ worked one g n k u) →
    (status : Status) (p : Placement) (k r : ℕ) → r ≤ t → StandbyReleased status day stop one p k r → StandbyReleased status day stop other p k r
standby_moves day stop one other t agree Passive p k r l w = wakes_moves day stop one other t agree p k r l w
standby_moves day stop one other t agree Active p k r l w = w

-- what has worked the same by t on every machine releases the same copies by t
pub released_moves :
    (day : Day) (stop : Stop) (one other : Run) (t : ℕ) → ((g n k u : ℕ) → u ≤ t → worked other g n k u ≡ worked one g n k u) →
    (role : Role) (p : Placement) (k r : ℕ) → r ≤ t → Released day stop one role p k r → Released day stop other role p k r
released_moves day stop one other t agree Primary p k r l w = w
released_moves day stop one other t agree Standby p k r l w = standby_moves day stop one other t agree p.status p k r l w

-- runs that agree before t have the same ready at t
pub ready_moves :
    (day : Day) (stop : Stop) (one other : Run) (t : ℕ) → ((g u : ℕ) → u < t → other g u ≡ one g u) →
    (g : ℕ) (p : Placement) (k : ℕ) → Ready day stop one g p k t → Ready day stop other g p k t
ready_moves day stop one other t below g p k r =
    let agree : (g n k u : ℕ) → u ≤ t → worked other g n k u ≡ worked one g n k u =
    λ g n k u l. worked_same one other g n k u (λ v m. below g v (omega arith)) in
    record {
      role = r.role;
      here = r.here;
      since = r.since;
      released = released_moves day stop one other t agree r.role p k r.since r.begun r.released;
      begun = r.begun;
      unfinished = omega (arith, agree g (number p) k t (omega arith), r.unfinished);
      kept = r.kept;
    }

module _ (before : Terms → Terms → Bool) (laws : Laws before) (m : ℕ) (ps : List Placement) (plan : Arranged m ps) where
  -- no job goes before itself
  not_before_own : (p q : Placement) → In p ps → In q ps → number p ≡ number q → before p.terms q.terms ≡ true → ⊥
  not_before_own p q a b e up =
      both_ways _ (laws.irreflexive p.terms) (ap (λ z. before p.terms z.terms) (same_number ps p q plan.once a b e) ∙ up)

  -- two that are each ahead of the other are one
  ahead_both : (p q : Placement) (j k : ℕ) → In p ps → In q ps → Ahead before q j p k → Ahead before p k q j → (number q ≡ number p) × (j ≡ k)
  ahead_both p q j k a b one other =
      ⊎_elim
      (λ up.
      ⊎_elim
      (λ down. absurd (both_ways _ (laws.irreflexive p.terms) (laws.transitive p.terms q.terms p.terms down up)))
      (λ same. absurd (not_before_own q p b a (sym same.0) up))
      other)
      (λ same.
      ⊎_elim
      (λ down. absurd (not_before_own p q a b (sym same.0) down))
      (λ back. (same.0, omega (arith, same.1, back.1)))
      other)
      one

  module _ (day : Day) (stop : Stop) where
    -- where a machine runs something in one run it does in the other
    not_idle :
        (one other : Run) → Keeps before ps day stop one → Keeps before ps day stop other →
        (g t : ℕ) → ((h u : ℕ) → u < t → other h u ≡ one h u) → halted stop g t ≡ false →
        (n k : ℕ) → one g t ≡ runs n k → other g t ≡ idle → ⊥
    not_idle one other keeps_one keeps_other g t below on n k e none =
        let r = keeps_one.only_ready g t n k e in
        let q = keeps_other.most_urgent g t r.0 k on r.1 (ready_moves day stop one other t below g r.0 k r.3) in
        idle_runs (other g t) (number q.0) q.1 none q.3

    -- what the one run runs is ahead of what is ready in the other
    runs_ahead :
        (one other : Run) → Keeps before ps day stop one → Keeps before ps day stop other →
        (g t : ℕ) → ((h u : ℕ) → u < t → other h u ≡ one h u) → halted stop g t ≡ false →
        (p q : Placement) (j k : ℕ) → In p ps → In q ps → Ready day stop one g p k t → other g t ≡ runs (number q) j → Ahead before q j p k
    runs_ahead one other keeps_one keeps_other g t below on p q j k a b r e =
        let u = keeps_other.most_urgent g t p k on a (ready_moves day stop one other t below g p k r) in
        let is = u.3 in
        let same_n : number u.0 ≡ number q = cc in
        let same_j : u.1 ≡ j = cc in
        let same : u.0 ≡ q = same_number ps u.0 q plan.once u.2 b same_n in
        subst (λ z. Ahead before z j p k) same (subst (λ z. Ahead before u.0 z p k) same_j u.4)

    -- two jobs that a machine runs in the two runs are one
    both_run :
        (one other : Run) → Keeps before ps day stop one → Keeps before ps day stop other →
        (g t : ℕ) → ((h u : ℕ) → u < t → other h u ≡ one h u) → halted stop g t ≡ false →
        (n k a j : ℕ) → one g t ≡ runs n k → other g t ≡ runs a j →
        (p : Placement) × In p ps × (number p ≡ n) × Ready day stop one g p k t →
        (q : Placement) × In q ps × (number q ≡ a) × Ready day stop other g q j t → other g t ≡ one g t
    both_run one other keeps_one keeps_other g t below on n k a j n_runs a_runs (p, p_in, p_is, p_ready) (q, q_in, q_is, q_ready) =
        let p_runs : one g t ≡ runs (number p) k = cc in
        let q_runs : other g t ≡ runs (number q) j = cc in
        let both : (number q ≡ number p) × (j ≡ k) =
        ahead_both p q j k p_in q_in
        (runs_ahead one other keeps_one keeps_other g t below on p q j k p_in q_in p_ready q_runs)
        (runs_ahead other one keeps_other keeps_one g t (λ h u l. sym (below h u l)) on q p k j q_in p_in q_ready p_runs) in
        let same_n = both.0 in
        let same_k = both.1 in
        cc

    -- runs that agree before t agree at t
    same_at :
        (one other : Run) → Keeps before ps day stop one → Keeps before ps day stop other →
        (g t : ℕ) → ((h u : ℕ) → u < t → other h u ≡ one h u) → other g t ≡ one g t
    same_at one other keeps_one keeps_other g t below =
        let back : (h u : ℕ) → u < t → one h u ≡ other h u = λ h u l. sym (below h u l) in
        ⊎_elim
        (λ off. keeps_other.halts g t off ∙ sym (keeps_one.halts g t off))
        (λ on.
        ⊎_elim
        (λ none.
        ⊎_elim
        (λ nothing. nothing ∙ sym none)
        (λ some. absurd (not_idle other one keeps_other keeps_one g t back on some.0 some.1 some.2 none))
        (slot_cases (other g t)))
        (λ some.
        ⊎_elim
        (λ nothing. absurd (not_idle one other keeps_one keeps_other g t below on some.0 some.1 some.2 nothing))
        (λ more.
        both_run one other keeps_one keeps_other g t below on some.0 some.1 more.0 more.1 some.2 more.2
        (keeps_one.only_ready g t some.0 some.1 some.2) (keeps_other.only_ready g t more.0 more.1 more.2))
        (slot_cases (other g t)))
        (slot_cases (one g t)))
        (cases_Bool (halted stop g t))

    -- so they agree below every tick
    same_below :
        (one other : Run) → Keeps before ps day stop one → Keeps before ps day stop other →
        (n g t : ℕ) → t < n → other g t ≡ one g t
    same_below one other keeps_one keeps_other zero g t l = absurd (omega arith)
    same_below one other keeps_one keeps_other (suc n) g t l =
        same_at one other keeps_one keeps_other g t (λ h u d. same_below one other keeps_one keeps_other n h u (omega arith))

-- two runs that keep the rules of a day are one
pub same_run :
    (before : Terms → Terms → Bool) → Laws before → (m : ℕ) (ps : List Placement) → Arranged m ps → (day : Day) (stop : Stop) (one other : Run) →
    Keeps before ps day stop one → Keeps before ps day stop other → (g t : ℕ) → other g t ≡ one g t
same_run before laws m ps plan day stop one other keeps_one keeps_other g t =
    same_below before laws m ps plan day stop one other keeps_one keeps_other (suc t) g t (omega arith)

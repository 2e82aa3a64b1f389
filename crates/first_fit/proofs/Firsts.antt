-- The first choice that a test takes: how a search finds it, and what it says of the choices before it.
use Rattle.std.proofs.Common.{◌≡◌, ℕ, Bool, true, cond, not, ◌&&◌, eqb, ◌⊎◌, List, [], ◌∷◌, Some, None, Option, sym, refl, ap, ◌∙◌, inl, inr, ⊎_elim, arith}
use Rattle.std.specs.List.{find}
use Rattle.std.proofs.lemmas.Bool.{cond-true, cond-false, cases_eq, and_from, and_parts, and_left, both_ways, cond_both, eq-eqb, ne_eqb, eqb-false, not-true, not_from_true, not_from_false}
use Rattle.rack.specs.declared.placement.Status.{Status}
use Rattle.rack.specs.declared.placement.Status.TheVariants.{Passive, Active}
use Rattle.rack.specs.Plan.{In}
use Rattle.first_fit.specs.Choices.{Choice, first_standby, chosen_or, first_with, first_choice}

module _ (test : ℕ → Bool) (p : ℕ) where
  -- the standby that is taken is one of the list, is not the primary, and passes the test
  pub standby_some : (bs : List ℕ) (b : ℕ) → first_standby test p bs ≡ Some b → In b bs × (b ≡ p → ⊥) × (test b ≡ true)
  standby_some [] b e = let z : ◌≡◌ {A = ℕ} 0 1 = cc in absurd (omega arith)
  standby_some (x ∷ bs) b e =
      cond_both (not (eqb x p) && test x) (Some x) (first_standby test p bs) (λ o. o ≡ Some b → In b (x ∷ bs) × (b ≡ p → ⊥) × (test b ≡ true))
      (λ takes here.
      let parts = and_parts (not (eqb x p)) (test x) takes in
      let same : b ≡ x = cc in
      (inl same, (λ own. eqb-false x p (not-true (eqb x p) parts.0) (sym same ∙ own)), ap test same ∙ parts.1))
      (λ _ later. let r = standby_some bs b later in (inr r.0, r.1, r.2))
      e

  -- where none is taken, each other than the primary fails the test
  pub standby_none : (bs : List ℕ) (b : ℕ) → first_standby test p bs ≡ None → In b bs → (b ≡ p → ⊥) → test b ≡ true → ⊥
  standby_none [] b e at apart takes = absurd at
  standby_none (x ∷ bs) b e at apart takes =
      cond_both (not (eqb x p) && test x) (Some x) (first_standby test p bs) (λ o. o ≡ None → ⊥)
      (λ _ here. let z : ◌≡◌ {A = ℕ} 0 1 = cc in omega arith)
      (λ fails later.
      ⊎_elim
      (λ (first : b ≡ x).
      both_ways _ fails (and_from (not (eqb x p)) (test x) (not_from_false (eqb x p) (ne_eqb x p (λ own. apart (first ∙ own)))) (ap test (sym first) ∙ takes)))
      (λ rest. standby_none bs b later rest apart takes)
      at)
      e

-- two tests that agree on each standby but the primary take the same one
pub standby_same :
    (test other : ℕ → Bool) (p : ℕ) (bs : List ℕ) → ((b : ℕ) → In b bs → (b ≡ p → ⊥) → test b ≡ other b) →
    first_standby test p bs ≡ first_standby other p bs
standby_same test other p [] same = refl
standby_same test other p (x ∷ bs) same =
    let here : (not (eqb x p) && test x) ≡ (not (eqb x p) && other x) =
    ⊎_elim
    (λ own.
    and_left (not (eqb x p)) (test x) (not_from_true (eqb x p) (eq-eqb x p own))
    ∙ sym (and_left (not (eqb x p)) (other x) (not_from_true (eqb x p) (eq-eqb x p own))))
    (λ apart. ap (λ b. not (eqb x p) && b) (same x (inl refl) apart))
    (cases_eq x p) in
    ap (λ b. cond b (Some x) (first_standby test p bs)) here
    ∙ ap (λ o. cond (not (eqb x p) && other x) (Some x) o) (standby_same test other p bs (λ b at. same b (inr at)))

-- a choice with one primary is passive, active, or what comes next
chosen_cases :
    (p : ℕ) (passive active : Option ℕ) (next : Option Choice) (c : Choice) →
    chosen_or p Passive passive (chosen_or p Active active next) ≡ Some c →
    ((b : ℕ) × (passive ≡ Some b) × (c ≡ (p, b, Passive))) ⊎ (((b : ℕ) × (active ≡ Some b) × (c ≡ (p, b, Active))) ⊎ (next ≡ Some c))
chosen_cases p (Some b) active next c e = inl (b, refl, (cc))
chosen_cases p None (Some b) next c e = inr (inl (b, refl, (cc)))
chosen_cases p None None next c e = inr (inr e)

-- where there is no choice, there is neither the one, nor the other, nor one that comes next
chosen_none :
    (p : ℕ) (passive active : Option ℕ) (next : Option Choice) →
    chosen_or p Passive passive (chosen_or p Active active next) ≡ None →
    (passive ≡ None) × (active ≡ None) × (next ≡ None)
chosen_none p (Some b) active next e = let z : ◌≡◌ {A = ℕ} 0 1 = cc in absurd (omega arith)
chosen_none p None (Some b) next e = let z : ◌≡◌ {A = ℕ} 0 1 = cc in absurd (omega arith)
chosen_none p None None next e = (refl, refl, e)

module _ (test : ℕ → Status → ℕ → Bool) (turns : List ℕ) where
  -- what a primary has of standbys
  abbrev at_status : ℕ → Status → Option ℕ
  at_status p status = first_standby (test p status) p turns

  -- the choice is of two different machines of the lists, and passes the test
  pub choice_some :
      (ps : List ℕ) (c : Choice) → first_choice test ps turns ≡ Some c →
      In c.0 ps × In c.1 turns × (c.1 ≡ c.0 → ⊥) × (test c.0 c.2 c.1 ≡ true)
  choice_some [] c e = let z : ◌≡◌ {A = ℕ} 0 1 = cc in absurd (omega arith)
  choice_some (p ∷ ps) c e =
      ⊎_elim
      (λ passive.
      let is = passive.2 in
      let s = standby_some (test p Passive) p turns passive.0 passive.1 in
      (inl (ap (λ x. x.0) is), rw (ap (λ x. x.1) is) s.0, rw (ap (λ x. x.1) is) (rw (ap (λ x. x.0) is) s.1), ap (λ x. test x.0 x.2 x.1) is ∙ s.2))
      (λ rest.
      ⊎_elim
      (λ active.
      let is = active.2 in
      let s = standby_some (test p Active) p turns active.0 active.1 in
      (inl (ap (λ x. x.0) is), rw (ap (λ x. x.1) is) s.0, rw (ap (λ x. x.1) is) (rw (ap (λ x. x.0) is) s.1), ap (λ x. test x.0 x.2 x.1) is ∙ s.2))
      (λ later. let s = choice_some ps c later in (inr s.0, s.1, s.2, s.3))
      rest)
      (chosen_cases p (at_status p Passive) (at_status p Active) (first_choice test ps turns) c e)

  -- one status of a primary without a choice
  none_at :
      (p b : ℕ) (status : Status) → at_status p Passive ≡ None → at_status p Active ≡ None →
      In b turns → (b ≡ p → ⊥) → test p status b ≡ true → ⊥
  none_at p b Passive passive active at apart takes = standby_none (test p Passive) p turns b passive at apart takes
  none_at p b Active passive active at apart takes = standby_none (test p Active) p turns b active at apart takes

  -- where there is none, each choice of two different machines of the lists fails the test
  pub choice_none :
      (ps : List ℕ) (p b : ℕ) (status : Status) → first_choice test ps turns ≡ None →
      In p ps → In b turns → (b ≡ p → ⊥) → test p status b ≡ true → ⊥
  choice_none [] p b status e p_at b_at apart takes = absurd p_at
  choice_none (x ∷ ps) p b status e p_at b_at apart takes =
      let none = chosen_none x (at_status x Passive) (at_status x Active) (first_choice test ps turns) e in
      ⊎_elim
      (λ (first : p ≡ x).
      none_at x b status none.0 none.1 b_at (λ own. apart (own ∙ sym first)) (ap (λ k. test k status b) (sym first) ∙ takes))
      (λ later. choice_none ps p b status none.2 later b_at apart takes)
      p_at

-- two tests that agree on each choice of two different machines of the lists make the same choice
pub choice_same :
    (test other : ℕ → Status → ℕ → Bool) (ps turns : List ℕ) →
    ((p b : ℕ) (status : Status) → In p ps → In b turns → (b ≡ p → ⊥) → test p status b ≡ other p status b) →
    first_choice test ps turns ≡ first_choice other ps turns
choice_same test other [] turns same = refl
choice_same test other (p ∷ ps) turns same =
    let passive = standby_same (test p Passive) (other p Passive) p turns (λ b at apart. same p b Passive (inl refl) at apart) in
    let active = standby_same (test p Active) (other p Active) p turns (λ b at apart. same p b Active (inl refl) at apart) in
    let rest = choice_same test other ps turns (λ q b status at. same q b status (inr at)) in
    cc

-- the first other machine in turn is taken, if the test holds of it
pub first_other :
    (test : Status → ℕ → Bool) (p : ℕ) (turns : List ℕ) (b : ℕ) → find (λ x. not (eqb x p)) turns ≡ Some b → test Passive b ≡ true →
    first_with test p turns None ≡ Some (p, b, Passive)
first_other test p turns b is takes = ap (λ o. chosen_or p Passive o (chosen_or p Active (first_standby (test Active) p turns) None)) (go turns is)
  where
    go : (bs : List ℕ) → find (λ x. not (eqb x p)) bs ≡ Some b → first_standby (test Passive) p bs ≡ Some b
    go [] e = let z : ◌≡◌ {A = ℕ} 0 1 = cc in absurd (omega arith)
    go (x ∷ bs) e =
        cond_both (not (eqb x p)) (Some x) (find (λ y. not (eqb y p)) bs) (λ o. o ≡ Some b → first_standby (test Passive) p (x ∷ bs) ≡ Some b)
        (λ apart here.
        let same : x ≡ b = cc in
        cond-true (not (eqb x p) && test Passive x) (Some x) (first_standby (test Passive) p bs) (and_from (not (eqb x p)) (test Passive x) apart (ap (test Passive) same ∙ takes))
        ∙ ap (λ (k : ℕ). Some k) same)
        (λ own later.
        cond-false (not (eqb x p) && test Passive x) (Some x) (first_standby (test Passive) p bs) (and_left (not (eqb x p)) (test Passive x) own) ∙ go bs later)
        e

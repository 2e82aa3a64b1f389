-- What the first choice that passes says: of the job, of the plan after it, and of the job that has none.
use Rattle.std.proofs.Common.{◌≡◌, ℕ, ◌<◌, Bool, true, false, cond, ◌&&◌, ltb, List, length, is_some, Some, None, Ok, Err, Option, Result, sym, refl, ap, ◌∙◌, subst, ⊎_elim, arith}
use Rattle.std.proofs.lemmas.List.{get_or_default}
use Rattle.std.proofs.lemmas.Bool.{and_parts, cond_both, lt-ltb, ltb-true, not_from_false}
use Rattle.terms.specs.declared.terms.Terms.{Terms}
use Rattle.terms.specs.declared.refusal.Refusal.{Refusal}
use Rattle.terms.specs.declared.refusal.Refusal.TheVariants.{NoPlace}
use Rattle.rack.specs.declared.placement.Status.{Status}
use Rattle.rack.specs.declared.placement.Placement.{Placement}
use Rattle.rack.specs.Plan.{In, number}
use Rattle.rack.specs.Test.{Passes, passes}
use Rattle.rack.proofs.Tested.{in_at, at_in, passes_means, passes_true}
use Rattle.rack.proofs.Parts.{fewer_pass}
use Rattle.orders.specs.Turns.{EachOnce}
use Rattle.orders.specs.TurnsLemmas.{every_turn}
use Rattle.roster.specs.Changes.{addable, find, with_job, without}
use Rattle.roster.specs.Loads.{loads}
use Rattle.roster.specs.Rising.{placed, rising}
use Rattle.roster.proofs.Jobs.{in_with_job, find_none, without_part}
use Rattle.roster.proofs.Ordered.{rising_once, rising_with_job, rising_without}
use Rattle.plantest.proofs.Listings.{placed_true}
use Rattle.first_fit.specs.Choices.{Choice, placement_of, passes_beside, first_choice}
use Rattle.planner.specs.Answers.{admitted_terms, chosen, jobs_with, place_admitted, tried_answer}
use Rattle.planner.specs.Refused.{NoChoice, NoneBesideMore}
use Rattle.first_fit.specs.Trying.{tried, tried_at, choice_jobs, tried_first}
use Rattle.first_fit.proofs.Firsts.{choice_some, choice_none, choice_same}

-- what is not some is none
is_none : (o : Option Placement) → is_some o ≡ false → o ≡ None
is_none None e = refl
is_none (Some x) e = let z : ◌≡◌ {A = ℕ} 0 1 = cc in absurd (omega arith)

-- the number of admitted terms is new, and there is room
pub admitted_free : (ps : List Placement) (o : Option Terms) (t : Terms) → Ok t ≡ admitted_terms ps o → (is_some (find t.number ps) ≡ false) × (length ps < 96)
admitted_free ps None t e = let z : ◌≡◌ {A = ℕ} 0 1 = cc in absurd (omega arith)
admitted_free ps (Some u) t e =
    cond_both (is_some (find u.number ps)) (Err _) (cond (ltb (length ps) 96) (Ok u) (Err _))
    (λ (r : Result Terms Refusal). Ok t ≡ r → (is_some (find t.number ps) ≡ false) × (length ps < 96))
    (λ _ here. let z : ◌≡◌ {A = ℕ} 0 1 = cc in absurd (omega arith))
    (λ new here.
    cond_both (ltb (length ps) 96) (Ok u) (Err _)
    (λ (r : Result Terms Refusal). Ok t ≡ r → (is_some (find t.number ps) ≡ false) × (length ps < 96))
    (λ room is. let same : t ≡ u = cc in (ap (λ v. is_some (find v.number ps)) same ∙ new, ltb-true (length ps) 96 room))
    (λ _ is. let z : ◌≡◌ {A = ℕ} 0 1 = cc in absurd (omega arith))
    here)
    e

-- the jobs after a choice, by the choice and by the answer
pub jobs_chosen : (t : Terms) (ps : List Placement) (o : Option Choice) → choice_jobs t ps o ≡ jobs_with ps (Ok t) (chosen o)
jobs_chosen t ps None = refl
jobs_chosen t ps (Some c) = refl

-- refusal 5 is the answer where there is no choice
pub chosen_refused : (o : Option Choice) → chosen o ≡ Err NoPlace → o ≡ None
chosen_refused None e = refl
chosen_refused (Some c) e = let z : ◌≡◌ {A = ℕ} 0 1 = cc in absurd (omega arith)

-- the plan with the first choice that was tried with success passes
pub choice_passes :
    (before : Terms → Terms → Bool) (m k : ℕ) (ps qs : List Placement) (t : Terms) (turns : List ℕ) (o : Option Choice) →
    o ≡ tried_first before m ps t turns → k ≡ m → qs ≡ choice_jobs t ps o → passes before m ps ≡ true → passes before k qs ≡ true
unfolding tried_first
choice_passes before m k ps qs t turns None e same jobs pass = ap (λ n. passes before n qs) same ∙ ap (passes before m) jobs ∙ pass
choice_passes before m k ps qs t turns (Some c) e same jobs pass =
    let own = placement_of t c.0 c.1 c.2 in
    let s = choice_some (tried_at before m ps t) turns turns c (sym e) in
    let fits = (and_parts (addable m ps own) (passes before m (with_job own ps)) s.3).1 in
    ap (λ n. passes before n qs) same ∙ ap (passes before m) jobs ∙ fits

module _ (before : Terms → Terms → Bool) (m : ℕ) (ps : List Placement) (t : Terms) (new : is_some (find t.number ps) ≡ false) (room : length ps < 96) where
  -- a new job is tried as its machines are and its plan passes
  pub tried_is :
      (p b : ℕ) (status : Status) →
      tried before m ps (placement_of t p b status) ≡ (placed m (placement_of t p b status) && passes_beside before m ps t p status b)
  tried_is p b status =
      ap (λ x. (x && (ltb (length ps) 96 && placed m (placement_of t p b status))) && passes_beside before m ps t p status b) (not_from_false _ new)
      ∙ ap (λ x. (x && placed m (placement_of t p b status)) && passes_beside before m ps t p status b) (lt-ltb (length ps) 96 room)

  module _ (turns : List ℕ) (each : EachOnce m turns) where
    -- what has a turn is a machine
    turn_machine : (g : ℕ) → In g turns → g < m
    turn_machine g at =
        let place = at_in turns g at in
        omega (arith, each.below place.0 (omega (arith, each.long, place.1)), get_or_default turns place.0 255 g place.1, place.2)

    -- each machine has a turn
    machine_turn : (g : ℕ) → g < m → In g turns
    machine_turn g lt =
        let place = every_turn {count = m} {xs = turns} {g = g} each lt in
        let within : place.0 < length turns = omega (arith, each.long, place.1) in
        in_at turns place.0 g within (sym (get_or_default turns place.0 g 255 within ∙ place.2))

    -- to try is to test
    pub tried_same : tried_first before m ps t turns ≡ first_choice (passes_beside before m ps t) turns turns
    unfolding tried_first
    tried_same =
        choice_same (tried_at before m ps t) (passes_beside before m ps t) turns turns
        (λ p b status p_at b_at apart.
        let here = placed_true m (placement_of t p b status) (record { primary = turn_machine p p_at; standby = turn_machine b b_at; apart = λ own. apart (sym own) }) in
        tried_is p b status ∙ ap (λ x. x && passes_beside before m ps t p status b) here)

    -- where there is no first choice there is none
    pub no_choice : first_choice (passes_beside before m ps t) turns turns ≡ None → NoChoice before m ps t
    no_choice none =
        λ p b status at pass.
        choice_none (passes_beside before m ps t) turns turns p b status none (machine_turn p at.primary) (machine_turn b at.standby) (λ own. at.apart (sym own))
        (passes_true before m (with_job (placement_of t p b status) ps) pass)

    -- where there is none there is no first choice
    pub no_first : NoChoice before m ps t → first_choice (passes_beside before m ps t) turns turns ≡ None
    no_first none = go (first_choice (passes_beside before m ps t) turns turns) refl
      where
        go : (o : Option Choice) → first_choice (passes_beside before m ps t) turns turns ≡ o → o ≡ None
        go None e = refl
        go (Some c) e =
            let s = choice_some (passes_beside before m ps t) turns turns c e in
            absurd (none c.0 c.1 c.2 (record { primary = turn_machine c.0 s.0; standby = turn_machine c.1 s.1; apart = λ own. s.2 (sym own) })
            (passes_means before m (with_job (placement_of t c.0 c.1 c.2) ps) s.3))

  -- a job that has no choice has none beside further placements either
  pub none_beside_more : rising ps ≡ true → NoChoice before m ps t → NoneBesideMore before m ps t
  none_beside_more up none =
      λ p b status wider w pass.
      let own : Placement = placement_of t p b status in
      none p b status (w.arranged.placed own w.has)
      (fewer_pass before m wider pass (with_job own ps)
      (rising_once (with_job own ps) (rising_with_job own ps up (find_none (number own) ps (is_none (find (number own) ps) new))))
      (λ q at. ⊎_elim (λ (same : q ≡ own). subst (λ x. In x wider) (sym same) w.has) (λ other. w.keeps q other) (in_with_job own q ps at)))

-- what is answered where choices are tried is what is answered where they are tested
pub tried_told :
    (before : Terms → Terms → Bool) (turns : ℕ → List ℕ → List ℕ) (m : ℕ) (ps : List Placement) (o : Option Terms) (a : Result Terms Refusal) →
    EachOnce m (turns m (loads ps)) → a ≡ admitted_terms ps o →
    tried_answer (λ t. tried_first before m ps t (turns m (loads ps))) a ≡ place_admitted before turns m ps a
tried_told before turns m ps o (Err e) each is = refl
tried_told before turns m ps o (Ok t) each is =
    let free = admitted_free ps o t is in ap chosen (tried_same before m ps t free.0 free.1 (turns m (loads ps)) each)

-- fewer jobs never hurt
pub keeps_without :
    (before : Terms → Terms → Bool) (m n : ℕ) (ps qs : List Placement) → rising ps ≡ true → qs ≡ without n ps →
    Passes before m ps → Passes before m qs
keeps_without before m n ps qs up is pass =
    subst (λ (xs : List Placement). Passes before m xs) (sym is)
    (fewer_pass before m ps pass (without n ps) (rising_once (without n ps) (rising_without n ps up)) (λ q at. without_part n q ps at))

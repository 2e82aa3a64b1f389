-- The quiet figures of a plan, with a free place for a further job, are known beside that job.
use Rattle.std.proofs.Common.{◌≡◌, ℕ, zero, suc, ◌+◌, ◌-◌, ◌<◌, ◌≤◌, Bool, true, false, ◌&&◌, eqb, ltb, List, [], ◌∷◌, map, length, get_or, Some, None, Option, unwrap_or, sym, refl, ap, ◌∙◌, inl, inr, ⊎_elim, le_of_suc-le-suc, not-suc-le-zero, arith}
use Rattle.std.specs.List.{insert}
use Rattle.std.proofs.lemmas.List.Edits.{length-insert, get_or-insert_below, get_or-insert_at, get_or-insert_above}
use Rattle.std.proofs.lemmas.Bool.{and_left, and_right, both_ways, cases_Bool, cases_order, cond_both, cond-true, cond-false, eq-eqb, or_left}
use Rattle.terms.specs.declared.terms.Terms.{Terms}
use Rattle.rack.specs.declared.placement.Placement.{Placement}
use Rattle.rack.specs.Plan.{In, number, active}
use Rattle.rack.specs.Sets.{quiet_figure, passive_late}
use Rattle.rack.specs.Test.{passes}
use Rattle.rack.proofs.Tested.{in_at, passes_means}
use Rattle.rack.proofs.Parts.{some_value}
use Rattle.roster.specs.Changes.{with_job, addable}
use Rattle.roster.specs.Rising.{rising, all_placed}
use Rattle.roster.proofs.Jobs.{length_with_job}
use Rattle.roster.proofs.Ordered.{roster_arranged}
use Rattle.plantest.proofs.Sweeps.{map_at, map_length}
use Rattle.first_fit.specs.Beside.{changed, Known, Ready}
use Rattle.first_fit.specs.Choices.{Choice, placement_of, first_choice}
use Rattle.first_fit.specs.Trying.{tried, tried_at, tried_first}
use Rattle.first_fit.proofs.Firsts.{choice_some}
use Rattle.first_fit.proofs.Tries.{new_number}
use Rattle.first_fit.proofs.Touches.{quiet_figure_same, arranged_with, fails_with_more}

-- a job's place goes by its number alone
place_same :
    (p x : Placement) (ps : List Placement) (r : ℕ) → number p ≡ number x → ((q : Placement) → In q ps → number q ≡ number x → ⊥) → r ≤ length ps →
    insert ps r p ≡ with_job p ps → insert ps r x ≡ with_job x ps
place_same p x [] zero same new le put = refl
place_same p x [] (suc r) same new le put = absurd (not-suc-le-zero le)
place_same p x (q ∷ qs) zero same new le put =
    cond_both (ltb (number p) (number q)) (p ∷ q ∷ qs) (q ∷ with_job p qs) (λ l. p ∷ q ∷ qs ≡ l → x ∷ q ∷ qs ≡ with_job x (q ∷ qs))
    (λ less _. sym (cond-true (ltb (number x) (number q)) (x ∷ q ∷ qs) (q ∷ with_job x qs) (ap (λ k. ltb k (number q)) (sym same) ∙ less)))
    (λ _ (is : p ∷ q ∷ qs ≡ q ∷ with_job p qs). let own : q ≡ p = cc in absurd (new q (inl refl) (ap number own ∙ same)))
    put
place_same p x (q ∷ qs) (suc r) same new le put =
    cond_both (ltb (number p) (number q)) (p ∷ q ∷ qs) (q ∷ with_job p qs) (λ l. q ∷ insert qs r p ≡ l → q ∷ insert qs r x ≡ with_job x (q ∷ qs))
    (λ _ (is : q ∷ insert qs r p ≡ p ∷ q ∷ qs). let own : q ≡ p = cc in absurd (new q (inl refl) (ap number own ∙ same)))
    (λ most (is : q ∷ insert qs r p ≡ q ∷ with_job p qs).
    let rest : insert qs r p ≡ with_job p qs = cc in
    ap (λ l. q ∷ l) (place_same p x qs r same (λ k at. new k (inr at)) (le_of_suc-le-suc le) rest)
    ∙ sym (cond-false (ltb (number x) (number q)) (x ∷ q ∷ qs) (q ∷ with_job x qs) (ap (λ k. ltb k (number q)) (sym same) ∙ most)))
    put

module _ (before : Terms → Terms → Bool) (m : ℕ) (ps : List Placement) where
  -- in a plan that passes, each job's quiet figure is its passive lateness
  has_late : passes before m ps ≡ true → (k : ℕ) (p : Placement) → k < length ps → p ≡ get_or ps k p → quiet_figure before ps p ≡ Some (passive_late before ps p)
  has_late pass k p lt read =
      let v = some_value (quiet_figure before ps p) (passes_means before m ps pass p (in_at ps k p lt read)).quiet in
      v.1 ∙ ap (λ (n : ℕ). Some n) (sym (ap (λ o. unwrap_or o p.terms.deadline) v.1))

  -- the quiet figures with a free place where the job stands are known beside it
  known_beside :
      passes before m ps ≡ true → (x : Placement) (r : ℕ) (known : List ℕ) → r ≤ length ps → insert ps r x ≡ with_job x ps →
      known ≡ insert (map (passive_late before ps) ps) r 0 → Known before x (with_job x ps) known
  known_beside pass x r known le put is =
      let late : Placement → ℕ = passive_late before ps in
      let all : List ℕ = map late ps in
      let as_many : length all ≡ length ps = map_length late ps in
      let room : r ≤ length all = omega arith in
      let more : length (with_job x ps) ≡ length ps + 1 = length_with_job x ps in
      let long : length known ≡ length (with_job x ps) = ap length is ∙ length-insert all r 0 room ∙ ap (λ n. n + 1) as_many ∙ sym more in
      record {
        long = long;
        figures = λ i p lt read away.
            let read_in : p ≡ get_or (insert ps r x) i p = read ∙ ap (λ l. get_or l i p) (sym put) in
            let is_at : get_or known i 0 ≡ get_or (insert all r 0) i 0 = ap (λ l. get_or l i 0) is in
            ⊎_elim
            (λ (same : i ≡ r).
            let own : p ≡ x = read_in ∙ ap (λ k. get_or (insert ps r x) k p) same ∙ get_or-insert_at ps r x p le in
            absurd (both_ways (changed x p.primary) away
            (or_left (eqb x.primary p.primary) (eqb x.standby p.primary && active x.status) (eq-eqb x.primary p.primary (ap (λ (q : Placement). q.primary) (sym own))))))
            (λ apart.
            ⊎_elim
            (λ (less : i < r).
            let there : i < length ps = omega arith in
            let at : p ≡ get_or ps i p = read_in ∙ get_or-insert_below ps r x p i less le in
            quiet_figure_same before ps x p away ∙ has_late pass i p there at
            ∙ ap (λ (n : ℕ). Some n) (sym (is_at ∙ get_or-insert_below all r 0 0 i less room ∙ map_at late ps i p there at)))
            (λ (over : r < i).
            let k : ℕ = i - 1 in
            let next : i ≡ k + 1 = omega arith in
            let from : r ≤ k = omega arith in
            let there : k < length ps = omega arith in
            let at : p ≡ get_or ps k p = read_in ∙ ap (λ j. get_or (insert ps r x) j p) next ∙ get_or-insert_above ps r x p k from le in
            quiet_figure_same before ps x p away ∙ has_late pass k p there at
            ∙ ap (λ (n : ℕ). Some n) (sym (is_at ∙ ap (λ j. get_or (insert all r 0) j 0) next ∙ get_or-insert_above all r 0 0 k from room ∙ map_at late ps k p there at)))
            apart)
            (cases_order i r);
      }

  -- so they are whichever choice is put in for the terms of a job that has its place there
  pub ready_beside :
      (p : Placement) (r : ℕ) (known : List ℕ) → passes before m ps ≡ true → r ≤ length ps → insert ps r p ≡ with_job p ps →
      known ≡ insert (map (passive_late before ps) ps) r 0 → Ready before m ps p.terms known
  ready_beside p r known pass le put is =
      record {
        passing = pass;
        beside = λ x same may.
            known_beside pass x r known le (place_same p x ps r (ap (λ (t : Terms). t.number) (sym same)) (new_number m ps x may) le put) is;
      }

  -- beside a plan that does not pass, no choice does
  pub none_tried : (t : Terms) (turns : List ℕ) → rising ps ≡ true → all_placed m ps ≡ true → passes before m ps ≡ false → tried_first before m ps t turns ≡ None
  unfolding tried_first
  none_tried t turns up all fails = go (first_choice (tried_at before m ps t) turns turns) refl
    where
      untried : (x : Placement) → tried before m ps x ≡ false
      untried x =
          ⊎_elim
          (λ may. and_right (addable m ps x) (passes before m (with_job x ps)) (fails_with_more before m ps x (roster_arranged m ps up all) (arranged_with m ps x may up all) fails))
          (λ may_not. and_left (addable m ps x) (passes before m (with_job x ps)) may_not)
          (cases_Bool (addable m ps x))

      go : (o : Option Choice) → first_choice (tried_at before m ps t) turns turns ≡ o → o ≡ None
      go None e = refl
      go (Some c) e = absurd (both_ways _ (untried (placement_of t c.0 c.1 c.2)) (choice_some (tried_at before m ps t) turns turns c e).3)

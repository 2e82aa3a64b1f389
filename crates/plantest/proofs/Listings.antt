-- Lists of placements that are plans.
use Rattle.std.proofs.Common.{◌≡◌, ℕ, ◌≤◌, true, false, not, ◌||◌, eqb, List, [], ◌∷◌, length, sym, refl, ap, ◌∙◌, inl, inr}
use Rattle.std.specs.List.{list_any}
use Rattle.std.proofs.lemmas.Bool.{and_from, and_parts, both_ways, eq-eqb, ne_eqb, or_left, or_right, or_from, not-true, not_from_false, leb-true, le-leb, lt-ltb}
use Rattle.rack.specs.declared.placement.Placement.{Placement}
use Rattle.rack.specs.Plan.{In, number, Once, Placed, Plan}
use Rattle.rack.proofs.Tested.{all_of_each, each_all_of}
use Rattle.roster.specs.Rising.{placed, rising, all_placed}
use Rattle.roster.proofs.Ordered.{placed_here, roster_arranged}
use Rattle.plantest.specs.PlanTest.{has_number, each_once, is_plan}

-- a job that is there is found
pub has_it : (ps : List Placement) (p : Placement) → In p ps → has_number (number p) ps ≡ true
has_it [] p none = elim none [ ]
has_it (q ∷ ps) p (inl same) = or_left _ _ (eq-eqb (number q) (number p) (ap number (sym same)))
has_it (q ∷ ps) p (inr rest) = or_right _ _ (has_it ps p rest)

-- a number is found where some job has it
pub any_has_number : (n : ℕ) (ps : List Placement) → list_any (λ p. eqb (number p) n) ps ≡ has_number n ps
any_has_number n [] = refl
any_has_number n (p ∷ ps) = ap (λ b. eqb (number p) n || b) (any_has_number n ps)

not_has : (ps : List Placement) (n : ℕ) → has_number n ps ≡ false → (q : Placement) → In q ps → number q ≡ n → ⊥
not_has ps n none q in_ps e = both_ways _ none (ap (λ k. has_number k ps) (sym e) ∙ has_it ps q in_ps)

has_not : (ps : List Placement) (n : ℕ) → ((q : Placement) → In q ps → number q ≡ n → ⊥) → has_number n ps ≡ false
has_not [] n none = refl
has_not (p ∷ ps) n none = or_from _ _ (ne_eqb (number p) n (none p (inl refl))) (has_not ps n (λ q in_ps. none q (inr in_ps)))

pub once_means : (ps : List Placement) → each_once ps ≡ true → Once ps
once_means [] e = tt
once_means (p ∷ ps) e =
    let parts = and_parts (not (has_number (number p) ps)) (each_once ps) e in
    (not_has ps (number p) (not-true _ parts.0), once_means ps parts.1)

pub once_true : (ps : List Placement) → Once ps → each_once ps ≡ true
once_true [] once = refl
once_true (p ∷ ps) once = and_from _ _ (not_from_false _ (has_not ps (number p) once.0)) (once_true ps once.1)

pub placed_true : (m : ℕ) (p : Placement) → Placed m p → placed m p ≡ true
placed_true m p at =
    and_from _ _ (lt-ltb p.primary m at.primary) (and_from _ _ (lt-ltb p.standby m at.standby) (not_from_false _ (ne_eqb p.primary p.standby at.apart)))

module _ (m : ℕ) (ps : List Placement) where
  pub plan_means : is_plan m ps ≡ true → Plan m ps
  plan_means e =
      let a = and_parts _ _ e in
      let sizes = and_parts _ _ a.0 in
      let b = and_parts _ _ a.1 in
      let c = and_parts _ _ b.1 in
      record {
        from_two = leb-true 2 m sizes.0;
        to_sixteen = leb-true m 16 sizes.1;
        few = leb-true (length ps) 96 b.0;
        arranged = record {
          once = once_means ps c.1;
          placed = λ p in_ps. placed_here m p (all_of_each (placed m) ps p c.0 in_ps);
        };
      }

  pub plan_true : Plan m ps → is_plan m ps ≡ true
  plan_true plan =
      and_from _ _
      (and_from _ _ (le-leb 2 m plan.from_two) (le-leb m 16 plan.to_sixteen))
      (and_from _ _ (le-leb (length ps) 96 plan.few)
      (and_from _ _ (each_all_of (placed m) ps (λ p in_ps. placed_true m p (plan.arranged.placed p in_ps))) (once_true ps plan.arranged.once)))

-- the placements of a roster are a plan
pub roster_plan : (m : ℕ) (ps : List Placement) → 2 ≤ m → m ≤ 16 → length ps ≤ 96 → rising ps ≡ true → all_placed m ps ≡ true → is_plan m ps ≡ true
roster_plan m ps from_two to_sixteen few up all =
    plan_true m ps (record { from_two = from_two; to_sixteen = to_sixteen; few = few; arranged = roster_arranged m ps up all })

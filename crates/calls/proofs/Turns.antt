-- The first choice that passes, among all in their sequence.
use Rattle.std.proofs.Common.{◌≡◌, ℕ, Bool, true, false, cond, List, [], ◌∷◌, ◌++◌, Some, None, Option, refl, ap, ◌∙◌, subst, ⊎_elim, arith}
use Rattle.std.proofs.lemmas.Bool.{both_ways}
use Rattle.std.proofs.lemmas.Grind.{common_steps}
use Rattle.rack.specs.declared.placement.Status.{Status}
use Rattle.rack.specs.declared.placement.Status.TheVariants.{Passive, Active}
use Rattle.rack.specs.Plan.{In}
use Rattle.first_fit.specs.Choices.{Choice, first_standby, chosen_or, first_choice}
use Rattle.calls.specs.Turns.{standbys, with_primaries, First}

abbrev or_else : Option Choice → Option Choice → Option Choice
or_else (Some c) next = Some c
or_else None next = next

module _ (test : Choice → Bool) where
  abbrev first_in : List Choice → Option Choice
  first_in [] = None
  first_in (c ∷ cs) = cond (test c) (Some c) (first_in cs)

  first_in_append : (xs ys : List Choice) → first_in (xs ++ ys) ≡ or_else (first_in xs) (first_in ys)
  first_in_append [] ys = refl
  first_in_append (x ∷ xs) ys = grind (arith, common_steps, first_in_append xs ys)

  -- the standbys of one primary and status
  first_standbys :
      (p : ℕ) (status : Status) (turns : List ℕ) (next : Option Choice) →
      or_else (first_in (standbys p status turns)) next ≡ chosen_or p status (first_standby (λ b. test (p, b, status)) p turns) next
  first_standbys p status [] next = refl
  first_standbys p status (b ∷ bs) next = grind (arith, common_steps, first_standbys p status bs next)

  -- all of them
  pub first_is : (ps turns : List ℕ) → first_in (with_primaries ps turns) ≡ first_choice (λ p status b. test (p, b, status)) ps turns
  first_is [] turns = refl
  first_is (p ∷ ps) turns =
      let rest = with_primaries ps turns in
      first_in_append (standbys p Passive turns) (standbys p Active turns ++ rest)
      ∙ ap (or_else (first_in (standbys p Passive turns))) (first_in_append (standbys p Active turns) rest)
      ∙ ap (λ o. or_else (first_in (standbys p Passive turns)) (or_else (first_in (standbys p Active turns)) o)) (first_is ps turns)
      ∙ ap (or_else (first_in (standbys p Passive turns))) (first_standbys p Active turns (first_choice (λ p' status b. test (p', b, status)) ps turns))
      ∙ first_standbys p Passive turns (chosen_or p Active (first_standby (λ b. test (p, b, Active)) p turns) (first_choice (λ p' status b. test (p', b, status)) ps turns))

  -- what is found is the first that passes the test
  pub first_found : (xs : List Choice) (c : Choice) → first_in xs ≡ Some c → First (λ e. test e ≡ true) xs c
  first_found [] c e = cc
  first_found (x ∷ xs) c e = go (test x) refl (λ rest. first_found xs c rest) e
    where
      go : (b : Bool) → test x ≡ b → (first_in xs ≡ Some c → First (λ y. test y ≡ true) xs c) → cond b (Some x) (first_in xs) ≡ Some c → First (λ y. test y ≡ true) (x ∷ xs) c
      go true is onward found =
          let same : x ≡ c = cc in
          record {
            earlier = [];
            later = xs;
            parts = ap (λ (y : Choice). y ∷ xs) same;
            passes = subst (λ (y : Choice). test y ≡ true) same is;
            none_earlier = λ y at good. absurd at;
          }
      go false is onward found =
          let r = onward found in
          record {
            earlier = x ∷ r.earlier;
            later = r.later;
            parts = ap (λ (ys : List Choice). x ∷ ys) r.parts;
            passes = r.passes;
            none_earlier = λ y at good.
                ⊎_elim (λ (same : y ≡ x). both_ways (test x) is (subst (λ (v : Choice). test v ≡ true) same good)) (λ (more : In y r.earlier). r.none_earlier y more good) at;
          }

-- Terms are their numbers: two with the same numbers are the same.
use Rattle.std.proofs.Common.{◌≡◌, ◌+◌, ◌≤◌, Bool, true, false, Some, None, sym, refl, ap, ◌∙◌}
use mathlib.Core.HLevel.{is_prop→PathP}
use native.Mathlib.Bridge.{le_prop}
use Rattle.terms.specs.declared.draft.Draft.{Draft}
use Rattle.terms.specs.declared.terms.Terms.{Terms}
use Rattle.std.proofs.lemmas.Bool.{both_ways}
use Rattle.terms.specs.Limits.{lawful}
use Rattle.terms.specs.Making.{Of, terms_of, terms_if, drafted}

pub same_numbers :
    (t u : Terms) → t.number ≡ u.number → t.period ≡ u.period → t.deadline ≡ u.deadline →
    t.run ≡ u.run → t.standby ≡ u.standby → t.lateness ≡ u.lateness → t ≡ u
same_numbers t u n p d r s l = λ i. record {
  number = n i;
  period = p i;
  deadline = d i;
  run = r i;
  standby = s i;
  lateness = l i;
  numbered = (is_prop→PathP (λ j. 1 ≤ n j) (λ j. le_prop) t.numbered.0 u.numbered.0 i, is_prop→PathP (λ j. n j ≤ 65535) (λ j. le_prop) t.numbered.1 u.numbered.1 i);
  working = (is_prop→PathP (λ j. 1 ≤ r j) (λ j. le_prop) t.working.0 u.working.0 i, is_prop→PathP (λ j. 1 ≤ s j) (λ j. le_prop) t.working.1 u.working.1 i);
  fitting = (is_prop→PathP (λ j. l j + r j ≤ d j) (λ j. le_prop) t.fitting.0 u.fitting.0 i, is_prop→PathP (λ j. l j + s j ≤ d j) (λ j. le_prop) t.fitting.1 u.fitting.1 i);
  bounded = (is_prop→PathP (λ j. d j ≤ p j) (λ j. le_prop) t.bounded.0 u.bounded.0 i, is_prop→PathP (λ j. p j ≤ 1000000) (λ j. le_prop) t.bounded.1 u.bounded.1 i);
}

-- terms made of one draft are the same
pub of_one_draft : (draft : Draft) (t u : Terms) → Of draft t → Of draft u → t ≡ u
of_one_draft draft t u a b =
    same_numbers t u (a.number ∙ sym b.number) (a.period ∙ sym b.period) (a.deadline ∙ sym b.deadline) (a.run ∙ sym b.run) (a.standby ∙ sym b.standby) (a.lateness ∙ sym b.lateness)

-- terms with a lawful draft's numbers are what the draft makes
pub drafted_some : (draft : Draft) (t : Terms) → lawful draft ≡ true → Of draft t → drafted draft ≡ Some t
drafted_some draft t ok made = go (lawful draft) refl ok
  where
    go : (b : Bool) (e : lawful draft ≡ b) → b ≡ true → terms_if draft b e ≡ Some t
    go true e yes' = ap Some (of_one_draft draft (terms_of draft e) t (record { number = refl; period = refl; deadline = refl; run = refl; standby = refl; lateness = refl }) made)
    go false e yes' = absurd (both_ways false refl yes')

-- an unlawful draft makes none
pub drafted_none : (draft : Draft) → lawful draft ≡ false → drafted draft ≡ None
drafted_none draft no' = go (lawful draft) refl no'
  where
    go : (b : Bool) (e : lawful draft ≡ b) → b ≡ false → terms_if draft b e ≡ None
    go true e no'' = absurd (both_ways true no'' refl)
    go false e no'' = refl

-- Terms are admitted exactly when they are admissible.
use Rattle.std.proofs.Common.{◌≡◌, Bool, false, cond, ltb, List, length, is_some, Some, None, Ok, Err, Option, Result, sym, refl, ap, ◌∙◌, subst, arith}
use Rattle.std.proofs.lemmas.Bool.{lt-ltb}
use Rattle.std.proofs.lemmas.Grind.{common_steps}
use Rattle.terms.specs.declared.draft.Draft.{Draft}
use Rattle.terms.specs.declared.terms.Terms.{Terms}
use Rattle.terms.specs.declared.refusal.Refusal.{Refusal}
use Rattle.terms.specs.declared.refusal.Refusal.TheVariants.{Known, Full}
use Rattle.terms.specs.Making.{Of, drafted}
use Rattle.terms.proofs.Alike.{drafted_some}
use Rattle.rack.specs.declared.placement.Placement.{Placement}
use Rattle.roster.specs.Changes.{find}
use Rattle.roster.proofs.Jobs.{find_none, find_not}
use Rattle.planfile.proofs.Places.{lawful_of}
use Rattle.planner.specs.Answers.{admitted, admitted_terms}
use Rattle.planner.proofs.Choosing.{admitted_free}
use Rattle.calls.specs.Meanings.{Admissible}

-- terms made of a draft have its numbers
drafted_of : (d : Draft) (t : Terms) → drafted d ≡ Some t → Of d t
drafted_of d t is = grind (arith, common_steps)

not_some : (o : Option Placement) → is_some o ≡ false → o ≡ None
not_some o e = grind (arith, common_steps)

-- the terms that are admitted
admitted_is : (ps : List Placement) (u t : Terms) → admitted_terms ps (Some u) ≡ Ok t → t ≡ u
admitted_is ps u t e = grind (arith, common_steps)

-- terms that are admitted are admissible
pub admitted_admissible : (ps : List Placement) (d : Draft) (t : Terms) → admitted ps d ≡ Ok t → Admissible ps d t
admitted_admissible ps d t is = go (drafted d) refl is
  where
    go : (o : Option Terms) → drafted d ≡ o → admitted_terms ps o ≡ Ok t → Admissible ps d t
    go None e here = cc
    go (Some u) e here =
        let free = admitted_free ps (Some u) t (sym here) in
        let same : t ≡ u = admitted_is ps u t here in
        record {
          terms = subst (λ (v : Terms). Of d v) (sym same) (drafted_of d u e);
          new = find_none t.number ps (not_some (find t.number ps) free.0);
          room = free.1;
        }

-- and the other way round
pub admissible_admitted : (ps : List Placement) (d : Draft) (t : Terms) → Admissible ps d t → admitted ps d ≡ Ok t
admissible_admitted ps d t may =
    ap (admitted_terms ps) (drafted_some d t (lawful_of d t may.terms) may.terms)
    ∙ ap (λ (o : Option Placement). cond {A = Result Terms Refusal} (is_some o) (Err Known) (cond (ltb (length ps) 96) (Ok t) (Err Full))) (find_not t.number ps may.new)
    ∙ ap (λ (b : Bool). cond {A = Result Terms Refusal} b (Ok t) (Err Full)) (lt-ltb (length ps) 96 may.room)

-- What terms are made of.
use Rattle.std.specs.Prelude.{◌≡◌, Bool, true, false, Some, None, Option, refl}
use Rattle.std.proofs.lemmas.Bool.{and_parts, leb-true}
use Rattle.terms.specs.declared.draft.Draft.{Draft}
use Rattle.terms.specs.declared.terms.Terms.{Terms}
use Rattle.terms.specs.Limits.{lawful}

-- the terms have exactly the draft's numbers
pub record Of (d : Draft) (t : Terms) : Type 0 where
  pub number : t.number ≡ d.number
  pub period : t.period ≡ d.period
  pub deadline : t.deadline ≡ d.deadline
  pub run : t.run ≡ d.run
  pub standby : t.standby ≡ d.standby
  pub lateness : t.lateness ≡ d.lateness

-- a lawful draft as terms
abbrev pub terms_of : (d : Draft) → lawful d ≡ true → Terms
terms_of d ok =
    let a = and_parts _ _ ok in
    let b = and_parts _ _ a.1 in
    let c = and_parts _ _ b.1 in
    let e = and_parts _ _ c.1 in
    let f = and_parts _ _ e.1 in
    let g = and_parts _ _ f.1 in
    let h = and_parts _ _ g.1 in
    record {
      number = d.number;
      period = d.period;
      deadline = d.deadline;
      run = d.run;
      standby = d.standby;
      lateness = d.lateness;
      numbered = (leb-true _ _ a.0, leb-true _ _ b.0);
      working = (leb-true _ _ c.0, leb-true _ _ e.0);
      fitting = (leb-true _ _ f.0, leb-true _ _ g.0);
      bounded = (leb-true _ _ h.0, leb-true _ _ h.1);
    }

-- any draft as terms, if it is lawful
abbrev pub terms_if : (d : Draft) (b : Bool) → lawful d ≡ b → Option Terms
terms_if d true ok = Some (terms_of d ok)
terms_if d false no_terms = None

abbrev pub drafted : Draft → Option Terms
drafted d = terms_if d (lawful d) refl

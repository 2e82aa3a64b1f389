-- An order by a key of the terms keeps the laws.
use Rattle.std.specs.Prelude.{◌≡◌, ℕ, Bool, true, false, not, ◌⊎◌, ◌≢◌}
use Rattle.std.proofs.Common.{inl, inr, ⊎_elim, sym, ap, ◌∙◌, arith}
use Rattle.std.proofs.lemmas.Bool.{cases_Bool}
use Rattle.std.proofs.lemmas.Bool.Decides.{nat_tests}
use Rattle.terms.specs.declared.terms.Terms.{Terms}
use Rattle.precedence.specs.Laws.{Laws}
use Rattle.precedence.specs.Keys.{key_before}

key_irreflexive : (k n : ℕ) → key_before k n k n ≡ false
key_irreflexive k n = grind (arith, nat_tests)

key_transitive : (a m b n c o : ℕ) → key_before a m b n ≡ true → key_before b n c o ≡ true → key_before a m c o ≡ true
key_transitive a m b n c o h i = grind (arith, nat_tests)

key_exactly_one : (a m b n : ℕ) → (m ≢ n) → key_before a m b n ≡ not (key_before b n a m)
key_exactly_one a m b n ne = grind (arith, nat_tests)

pub key_laws : (key : Terms → ℕ) → Laws (λ a b. key_before (key a) a.number (key b) b.number)
key_laws key = record {
  irreflexive = λ a. key_irreflexive (key a) a.number;
  exactly_one = λ a b. key_exactly_one (key a) a.number (key b) b.number;
  transitive = λ a b c. key_transitive (key a) a.number (key b) b.number (key c) c.number;
}

-- and so does a relation that is an order by a key
pub laws_by_key : (before : Terms → Terms → Bool) (key : Terms → ℕ) → ((a b : Terms) → before a b ≡ key_before (key a) a.number (key b) b.number) → Laws before
laws_by_key before key is = record {
  irreflexive = λ a. is a a ∙ (key_laws key).irreflexive a;
  exactly_one = λ a b ne. is a b ∙ ((key_laws key).exactly_one a b ne ∙ ap not (sym (is b a)));
  transitive = λ a b c h i. is a c ∙ (key_laws key).transitive a b c (sym (is a b) ∙ h) (sym (is b c) ∙ i);
}

-- of two jobs with different numbers one goes before the other
pub either_first : (before : Terms → Terms → Bool) → Laws before → (a b : Terms) → (a.number ≢ b.number) → (before a b ≡ true) ⊎ (before b a ≡ true)
either_first before laws a b ne =
    ⊎_elim (λ second. inr second) (λ not_second. inl (laws.exactly_one a b ne ∙ ap not not_second)) (cases_Bool (before b a))

-- What every precedence rule owes: it is a strict order, total on jobs with different numbers.
use Rattle.std.specs.Prelude.{◌≡◌, Bool, true, false, not, ◌≢◌}
use Rattle.terms.specs.declared.terms.Terms.{Terms}

pub record Laws (before : Terms → Terms → Bool) : Type 0 where
  -- no job goes before itself
  pub irreflexive : (a : Terms) → before a a ≡ false
  -- of two jobs with different numbers exactly one goes before the other
  pub exactly_one : (a b : Terms) → (a.number ≢ b.number) → before a b ≡ not (before b a)
  pub transitive : (a b c : Terms) → before a b ≡ true → before b c ≡ true → before a c ≡ true

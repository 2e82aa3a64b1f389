-- The jobs that a list names among its first 32 entries go first, by first mention; then the others, by number.
use Rattle.std.specs.Prelude.{ℕ, ◌+◌, Bool, cond, List, [], ◌∷◌, take, vec_items, ◌==◌}
use Rattle.terms.specs.declared.terms.Terms.{Terms}
use Rattle.precedence.specs.Keys.{key_before}
use Rattle.precedence.specs.declared.ranking.Ranking.{Ranking}

-- where a number first stands in a list, and the list's length where it does not
abbrev pub index : List ℕ → ℕ → ℕ
index [] n = 0
index (x ∷ xs) n = cond (x == n) 0 (1 + index xs n)

abbrev pub place : List ℕ → ℕ → ℕ
place list number = index (take 32 list) number

abbrev pub ranking_before : Ranking → Terms → Terms → Bool
ranking_before rule a b =
    key_before (place (vec_items rule.list) a.number) a.number (place (vec_items rule.list) b.number) b.number

-- The machines by load, the smaller first; at equal loads by number.
use Rattle.std.specs.Prelude.{◌≡◌, ℕ, zero, suc, ◌+◌, ◌<◌, Bool, true, cond, List, [], ◌∷◌, ◌==◌, nat_lt, slice_index, slice_index_or}
use Rattle.orders.specs.declared.lightest.Lightest.{Lightest}

-- whether machine a comes before machine b: by the smaller load, at equal loads by the smaller number
abbrev pub lighter : List ℕ → ℕ → ℕ → Bool
lighter loads a b = cond (slice_index loads a == slice_index loads b) (nat_lt a b) (nat_lt (slice_index loads a) (slice_index loads b))

-- g put before the first machine that it comes before
abbrev pub put : List ℕ → ℕ → List ℕ → List ℕ
put loads g [] = g ∷ []
put loads g (x ∷ xs) = cond (lighter loads g x) (g ∷ x ∷ xs) (x ∷ put loads g xs)

-- the machines below a count, each put into its place among those of smaller number
abbrev pub by_load : List ℕ → ℕ → List ℕ
by_load loads zero = []
by_load loads (suc n) = put loads n (by_load loads n)

abbrev pub lightest_turns : Lightest → ℕ → List ℕ → List ℕ
lightest_turns order count loads = by_load loads count

-- at the earlier of two places below the count stands the machine that comes before the other
abbrev pub Sorted : List ℕ → ℕ → List ℕ → Type 0
Sorted loads count xs = (i j : ℕ) → i < j → j < count → lighter loads (slice_index_or xs i 255) (slice_index_or xs j 255) ≡ true

-- how many machines below a count come before g
abbrev pub rank : List ℕ → ℕ → ℕ → ℕ
rank loads g zero = 0
rank loads g (suc n) = cond (lighter loads n g) 1 0 + rank loads g n

-- What a search order tells, and what it owes.
use Rattle.std.specs.Prelude.{◌≡◌, ℕ, ◌+◌, ◌<◌, Bool, cond, ◌&&◌, List, [], ◌∷◌, length, nat_eq, nat_le, nat_lt, slice_index_or}

-- whether k is a turn below a count of 2 to 16
abbrev pub is_turn : ℕ → ℕ → Bool
is_turn count k = nat_le 2 count && (nat_le count 16 && nat_lt k count)

-- what is told at turn k: that place of the list, and 255 for any other turn or count
abbrev pub turn_of : List ℕ → ℕ → ℕ → ℕ
turn_of list count k = cond (is_turn count k) (slice_index_or list k 255) 255

-- how many of a list pass a test
abbrev pub how_many : (ℕ → Bool) → List ℕ → ℕ
how_many test [] = 0
how_many test (x ∷ xs) = cond (test x) 1 0 + how_many test xs

-- how often g stands in a list
abbrev pub times : ℕ → List ℕ → ℕ
times g xs = how_many (λ x. nat_eq x g) xs

-- as many machines as the count, and each machine below the count exactly once
pub record EachOnce (count : ℕ) (xs : List ℕ) : Type 0 where
  pub long : length xs ≡ count
  pub below : (k : ℕ) → k < count → slice_index_or xs k 255 < count
  pub once : (g : ℕ) → g < count → times g xs ≡ 1

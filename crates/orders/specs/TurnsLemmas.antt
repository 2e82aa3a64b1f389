-- What follows of a list in which each machine below the count stands exactly once.
use Rattle.std.specs.Prelude.{◌≡◌, ℕ, zero, suc, ◌<◌, ◌≤◌, true, ◌&&◌, List, [], ◌∷◌, length, ◌≢◌, nat_le, nat_lt, slice_index_or, refl}
use Rattle.std.proofs.Common.{⊎_elim, not-suc-le-zero, arith}
use Rattle.std.proofs.lemmas.Bool.{and_parts, cases_eq, eq-eqb, le-leb, leb-true, lt-ltb, ltb-true, ne_eqb}
use Rattle.orders.specs.Turns.{EachOnce, is_turn, times, turn_of}

-- what stands in a list stands at a place of it
found : (xs : List ℕ) (g : ℕ) → 0 < times g xs → (k : ℕ) × (k < length xs) × (slice_index_or xs k 255 ≡ g)
found [] g some = absurd (not-suc-le-zero some)
found (x ∷ xs) g some =
    ⊎_elim (λ e. (0, omega arith, e))
    (λ ne. let e = ne_eqb x g ne in
    let rest = found xs g (omega (arith, rw e at some)) in
    (suc rest.0, omega (arith, rest.1), rest.2)) (cases_eq x g)

-- what stands at a place is counted
counts : (xs : List ℕ) (k : ℕ) → k < length xs → 0 < times (slice_index_or xs k 255) xs
counts [] k lt = absurd (not-suc-le-zero lt)
counts (x ∷ xs) zero lt = let e = eq-eqb x x refl in rw e (omega arith)
counts (x ∷ xs) (suc k) lt = omega (arith, counts xs k (omega arith))

-- two places with the same machine are counted twice
counts_twice : (xs : List ℕ) (i j : ℕ) → i < j → j < length xs → slice_index_or xs i 255 ≡ slice_index_or xs j 255 → 1 < times (slice_index_or xs j 255) xs
counts_twice [] i j lt last e = absurd (not-suc-le-zero last)
counts_twice (x ∷ xs) i zero lt last e = absurd (not-suc-le-zero lt)
counts_twice (x ∷ xs) zero (suc j) lt last e =
    let t = eq-eqb x (slice_index_or xs j 255) e in rw t (omega (arith, counts xs j (omega arith)))
counts_twice (x ∷ xs) (suc i) (suc j) lt last e =
    omega (arith, counts_twice xs i j (omega arith) (omega arith) e)

-- each machine has a turn
pub every_turn : {count : ℕ} {xs : List ℕ} {g : ℕ} → EachOnce count xs → g < count → (k : ℕ) × (k < count) × (slice_index_or xs k 255 ≡ g)
every_turn {count} {xs} {g} o lt =
    let place = found xs g (omega (arith, o.once g lt)) in
    (place.0, omega (arith, place.1, o.long), place.2)

-- at each turn stands a machine
pub turn_below : {count : ℕ} {xs : List ℕ} {k : ℕ} → EachOnce count xs → k < count → slice_index_or xs k 255 < count
turn_below {count} {xs} {k} o lt = o.below k lt

-- different turns have different machines
pub turns_apart : {count : ℕ} {xs : List ℕ} {i j : ℕ} → EachOnce count xs → i < j → j < count → slice_index_or xs i 255 ≢ slice_index_or xs j 255
turns_apart {count} {xs} {i} {j} o lt last e =
    omega (arith, o.once (slice_index_or xs j 255) (o.below j last), counts_twice xs i j lt (omega (arith, o.long)) e)

-- what a count and a turn are where the test holds
pub is_turn_true : (count k : ℕ) → is_turn count k ≡ true → (2 ≤ count) × (count ≤ 16) × (k < count)
is_turn_true count k told =
    let low = and_parts (nat_le 2 count) (nat_le count 16 && nat_lt k count) told in
    let high = and_parts (nat_le count 16) (nat_lt k count) low.1 in
    (leb-true 2 count low.0, leb-true count 16 high.0, ltb-true k count high.1)

-- at a turn the list's place is told
pub turn_told : (xs : List ℕ) (count k : ℕ) → 2 ≤ count → count ≤ 16 → k < count → turn_of xs count k ≡ slice_index_or xs k 255
turn_told xs count k low high lt = rw (le-leb 2 count low, le-leb count 16 high, lt-ltb k count lt)

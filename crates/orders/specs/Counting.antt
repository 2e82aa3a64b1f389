-- In 0, 1, .., count - 1 each machine stands once.
use Rattle.std.specs.Prelude.{◌≡◌, ℕ, zero, suc, ◌+◌, ◌<◌, ◌≤◌, slice_index_or, refl}
use Rattle.std.proofs.Common.{⊎_elim, arith}
use Rattle.std.specs.List.{range_with_len}
use Rattle.std.proofs.lemmas.List.FromFn.{length-range_with_len, get_or-range_with_len}
use Rattle.std.proofs.lemmas.Bool.{cases_eq, ne_eqb, eq-eqb}
use Rattle.orders.specs.Turns.{EachOnce, times}

-- below its first number nothing stands in the list
none_below : (a n g : ℕ) → g < a → times g (range_with_len a n) ≡ 0
none_below a zero g lt = refl
none_below a (suc n) g lt =
    let e = ne_eqb a g (λ e. omega arith) in rw e (omega (arith, none_below (a + 1) n g (omega arith)))

one_each : (a n g : ℕ) → a ≤ g → g < a + n → times g (range_with_len a n) ≡ 1
one_each a zero g low high = absurd (let z : ⊥ = omega arith in z)
one_each a (suc n) g low high =
    ⊎_elim (λ e. let t = eq-eqb a g e in rw t (omega (arith, none_below (a + 1) n g (omega arith))))
    (λ ne. let t = ne_eqb a g ne in rw t (omega (arith, one_each (a + 1) n g (omega arith) (omega arith)))) (cases_eq a g)

pub place_is : (n k : ℕ) → k < n → slice_index_or (range_with_len 0 n) k 255 ≡ k
place_is n k lt = omega (arith, get_or-range_with_len 0 n k 255 lt)

pub each_once : (n : ℕ) → EachOnce n (range_with_len 0 n)
each_once n = record {
  long = length-range_with_len 0 n;
  below = λ k lt. omega (arith, place_is n k lt);
  once = λ g lt. one_each 0 n g (omega arith) (omega arith);
}

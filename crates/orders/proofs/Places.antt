-- The numbers below a count as a list: how many pass a test, and where one number is found.
use Rattle.std.proofs.Common.{◌≡◌, ℕ, zero, suc, ◌+◌, ◌-◌, ◌<◌, ◌≤◌, ◌==◌, Bool, true, false, cond, List, Some, None, Option, is_some, nat_eq, slice_index_or, unwrap_or, refl, ap, ◌∙◌, sym, ⊎_elim, arith}
use Rattle.std.specs.Bool.{then_some}
use Rattle.std.specs.Option.{option_or}
use Rattle.std.specs.List.{range_with_len, count_by, find}
use Rattle.std.proofs.lemmas.List.Sums.{sum_by-cons}
use Rattle.std.proofs.lemmas.Bool.{cases_eq, cond-true, cond-false, ne_eqb, eq-eqb}
use Rattle.orders.specs.Turns.{is_turn, turn_of}
use Rattle.orders.specs.Lightest.{by_load, lighter, rank}
use Rattle.orders.specs.Counting.{place_is}
use Rattle.orders.specs.ByLoad.{each_once, rank_tells}
use Rattle.orders.specs.TurnsLemmas.{is_turn_true, turn_below}

-- the first number, and the others
from_first : (p : ℕ → Bool) (a n : ℕ) → count_by p (range_with_len a (suc n)) ≡ cond (p a) 1 0 + count_by p (range_with_len (a + 1) n)
from_first p a n = sum_by-cons (λ x. cond (p x) 1 0) a (range_with_len (a + 1) n)

-- one number more at the end
one_more :
    (p : ℕ → Bool) (a n b : ℕ) → a + n ≡ b →
    count_by p (range_with_len a (suc n)) ≡ count_by p (range_with_len a n) + cond (p b) 1 0
one_more p a zero b e = rw (let z : a ≡ b = omega arith in z) (omega arith)
one_more p a (suc n) b e =
    omega (arith, one_more p (a + 1) n b (omega arith), from_first p a (suc n), from_first p a n)

-- the rank counts the machines that come before
pub rank_by_count : (loads : List ℕ) (g n : ℕ) → rank loads g n ≡ count_by (λ h. lighter loads h g) (range_with_len 0 n)
rank_by_count loads g zero = refl
rank_by_count loads g (suc n) =
    omega (arith, rank_by_count loads g n, one_more (λ h. lighter loads h g) 0 n n (omega arith))

-- the one number of the list that passes a test is found in it
found :
    (test : ℕ → Bool) (v a n : ℕ) → a ≤ v → v < a + n → ((g : ℕ) → g < a + n → test g ≡ nat_eq v g) →
    find test (range_with_len a n) ≡ Some v
found test v a zero low high same = absurd (let z : ⊥ = omega arith in z)
found test v a (suc n) low high same =
    let here = same a (omega arith) in
    ⊎_elim (λ e. let t = eq-eqb v a e in rw (here, t) (ap Some (sym e)))
    (λ ne. let t = ne_eqb v a ne in rw (here, t) (found test v (a + 1) n (omega arith) (omega arith) (λ g l. same g (omega arith)))) (cases_eq v a)

-- so the machine whose rank is k is found, and it stands at place k
pub machine_found :
    (loads : List ℕ) (count k : ℕ) → is_turn count k ≡ true →
    find (λ g. count_by (λ h. lighter loads h g) (range_with_len 0 count) == k) (range_with_len 0 count) ≡ Some (slice_index_or (by_load loads count) k 255)
machine_found loads count k asked =
    let told = is_turn_true count k asked in
    let below = turn_below (each_once loads count) told.2 in
    found _ _ 0 count (omega arith) (omega (arith, below))
    (λ g l. ap (λ (r : ℕ). nat_eq r k) (sym (rank_by_count loads g count)) ∙ rank_tells loads count g k told.1 (omega (arith, l)))

-- a turn below the count has the machine of its number
pub place_found : (count k : ℕ) (told : Bool) → is_turn count k ≡ told → unwrap_or (then_some told k) 255 ≡ turn_of (range_with_len 0 count) count k
place_found count k true asked = rw asked (sym (place_is count k (is_turn_true count k asked).2))
place_found count k false asked = rw asked refl

-- a search of the numbers from g on looks at g first
pub looks_first :
    (test : ℕ → Bool) (g n : ℕ) (o : Option ℕ) → g < n → o ≡ then_some (test g) g →
    find test (range_with_len g (n - g)) ≡ option_or o (find test (range_with_len (g + 1) (n - (g + 1))))
looks_first test g n o lt is =
    let more : n - g ≡ suc (n - (g + 1)) = omega arith in
    ap (λ (k : ℕ). find test (range_with_len g k)) more ∙ go (test g) (find test (range_with_len (g + 1) (n - (g + 1)))) o is
  where
    go : (t : Bool) (next p : Option ℕ) → p ≡ then_some t g → cond t (Some g) next ≡ option_or p next
    go true next p e = ap (λ q. option_or q next) (sym e)
    go false next p e = ap (λ q. option_or q next) (sym e)

-- so a machine that is there is the one found
pub taken_first : (o next : Option ℕ) → is_some o ≡ true → option_or o next ≡ o
taken_first None next there = let z : ◌≡◌ {A = ℕ} 0 1 = cc in absurd (omega arith)
taken_first (Some x) next there = refl

-- and else the search goes on
pub passed_first : (o next : Option ℕ) → is_some o ≡ false → option_or o next ≡ next
passed_first None next none = refl
passed_first (Some x) next none = let z : ◌≡◌ {A = ℕ} 0 1 = cc in absurd (omega arith)

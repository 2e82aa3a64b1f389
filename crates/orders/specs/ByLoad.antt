-- The list by load: each machine once, in order, each at the place of its rank.
use Rattle.std.specs.Prelude.{◌≡◌, ℕ, zero, suc, ◌+◌, ◌<◌, ◌≤◌, Bool, true, false, cond, List, [], ◌∷◌, length, ◌==◌, ◌≢◌, nat_eq, slice_index_or, refl}
use Rattle.std.proofs.Common.{⊎_elim, sym, ap, subst, ◌∙◌, not-suc-le-zero, add-one, arith}
use Rattle.std.specs.List.{AllByRecursion}
use Rattle.std.proofs.ByRecursion.{All-get_or, All-weaker}
use Rattle.std.proofs.lemmas.List.{get_or_past}
use Rattle.std.proofs.lemmas.Bool.{cases_eq, cases_lt, cond_both, ne_eqb, eq-eqb}
use Rattle.std.proofs.lemmas.Bool.Decides.{nat_tests}
use Rattle.orders.specs.Turns.{EachOnce, how_many, times}
use Rattle.orders.specs.Lightest.{Sorted, by_load, lighter, put, rank}
use Rattle.orders.specs.TurnsLemmas.{every_turn}

module _ (loads : List ℕ) where
  -- to come before is a strict order, total on different machines
  never_itself : (a : ℕ) → lighter loads a a ≡ false
  never_itself a = grind (arith, nat_tests)

  not_back : (a b : ℕ) → lighter loads a b ≡ true → lighter loads b a ≡ false
  not_back a b h = grind (arith, nat_tests)

  onward : (a b c : ℕ) → lighter loads a b ≡ true → lighter loads b c ≡ true → lighter loads a c ≡ true
  onward a b c h i = grind (arith, nat_tests)

  else_back : (a b : ℕ) → (b ≢ a) → lighter loads a b ≡ false → lighter loads b a ≡ true
  else_back a b ne h = grind (arith, nat_tests)

  -- what a machine that is put in changes
  length_put : (g : ℕ) (xs : List ℕ) → length (put loads g xs) ≡ suc (length xs)
  length_put g [] = refl
  length_put g (x ∷ xs) =
      cond_both (lighter loads g x) (g ∷ x ∷ xs) (x ∷ put loads g xs) (λ ys. length ys ≡ suc (suc (length xs))) (λ _. refl) (λ _. ap suc (length_put g xs))

  how_many_put : (test : ℕ → Bool) (g : ℕ) (xs : List ℕ) → how_many test (put loads g xs) ≡ cond (test g) 1 0 + how_many test xs
  how_many_put test g [] = refl
  how_many_put test g (x ∷ xs) =
      cond_both (lighter loads g x) (g ∷ x ∷ xs) (x ∷ put loads g xs) (λ ys. how_many test ys ≡ cond (test g) 1 0 + how_many test (x ∷ xs)) (λ _. refl) (λ _. omega (arith, how_many_put test g xs))

  all_put : (P : ℕ → Type 0) (g : ℕ) (xs : List ℕ) → P g → AllByRecursion P xs → AllByRecursion P (put loads g xs)
  all_put P g [] p all = (p, tt)
  all_put P g (x ∷ xs) p all =
      cond_both (lighter loads g x) (g ∷ x ∷ xs) (x ∷ put loads g xs) (AllByRecursion P) (λ _. (p, all)) (λ _. (all.0, all_put P g xs p all.1))

  -- each machine comes before all that stand after it
  abbrev Ordered : List ℕ → Type 0
  Ordered [] = Unit {0}
  Ordered (x ∷ xs) = AllByRecursion (λ y. lighter loads x y ≡ true) xs × Ordered xs

  ordered_put : (g : ℕ) (xs : List ℕ) → AllByRecursion (λ x. x ≢ g) xs → Ordered xs → Ordered (put loads g xs)
  ordered_put g [] new ord = (tt, tt)
  ordered_put g (x ∷ xs) new ord =
      cond_both (lighter loads g x) (g ∷ x ∷ xs) (x ∷ put loads g xs) Ordered
      (λ yes. ((yes, All-weaker (λ y. lighter loads x y ≡ true) (λ y. lighter loads g y ≡ true) (λ y h. onward g x y yes h) xs ord.0), ord))
      (λ no. (all_put (λ y. lighter loads x y ≡ true) g xs (else_back g x new.0 no) ord.0, ordered_put g xs new.1 ord.1))

  all_below : (n : ℕ) → AllByRecursion (λ x. x < n) (by_load loads n)
  all_below zero = tt
  all_below (suc n) =
      all_put (λ x. x < suc n) n (by_load loads n) (omega arith) (All-weaker (λ x. x < n) (λ x. x < suc n) (λ x h. omega arith) (by_load loads n) (all_below n))

  ordered : (n : ℕ) → Ordered (by_load loads n)
  ordered zero = tt
  ordered (suc n) =
      ordered_put n (by_load loads n) (All-weaker (λ x. x < n) (λ x. x ≢ n) (λ x h e. omega arith) (by_load loads n) (all_below n)) (ordered n)

  length_by_load : (n : ℕ) → length (by_load loads n) ≡ n
  length_by_load zero = refl
  length_by_load (suc n) = length_put n (by_load loads n) ∙ ap suc (length_by_load n)

  none_above : (n g : ℕ) → n ≤ g → times g (by_load loads n) ≡ 0
  none_above zero g h = refl
  none_above (suc n) g h =
      let e = ne_eqb n g (λ e. omega arith) in
      how_many_put (λ x. nat_eq x g) n (by_load loads n) ∙ rw e (omega (arith, none_above n g (omega arith)))

  one_each : (n g : ℕ) → g < n → times g (by_load loads n) ≡ 1
  one_each zero g h = absurd (not-suc-le-zero h)
  one_each (suc n) g h =
      how_many_put (λ x. nat_eq x g) n (by_load loads n) ∙ ⊎_elim
      (λ e. let t = eq-eqb n g e in rw t (omega (arith, none_above n g (omega arith))))
      (λ ne. let t = ne_eqb n g ne in rw t (omega (arith, one_each n g (omega arith)))) (cases_eq n g)

  pub each_once : (n : ℕ) → EachOnce n (by_load loads n)
  each_once n = record {
    long = length_by_load n;
    below = λ k lt. All-get_or (λ x. x < n) (by_load loads n) k 255 (omega (arith, length_by_load n)) (all_below n);
    once = one_each n;
  }

  -- an ordered list, by places
  in_order : (xs : List ℕ) (i j : ℕ) → Ordered xs → i < j → j < length xs → lighter loads (slice_index_or xs i 255) (slice_index_or xs j 255) ≡ true
  in_order [] i j ord lt last = absurd (not-suc-le-zero last)
  in_order (x ∷ xs) i zero ord lt last = absurd (not-suc-le-zero lt)
  in_order (x ∷ xs) zero (suc j) ord lt last = All-get_or (λ y. lighter loads x y ≡ true) xs j 255 (omega arith) ord.0
  in_order (x ∷ xs) (suc i) (suc j) ord lt last = in_order xs i j ord.1 (omega arith) (omega arith)

  pub sorted : (n : ℕ) → Sorted loads n (by_load loads n)
  sorted n i j lt last = in_order (by_load loads n) i j (ordered n) lt (omega (arith, length_by_load n))

  -- as many come before a machine as stand before it
  none_before : (g : ℕ) (xs : List ℕ) → AllByRecursion (λ y. lighter loads g y ≡ true) xs → how_many (λ x. lighter loads x g) xs ≡ 0
  none_before g [] all = refl
  none_before g (x ∷ xs) all =
      let e = not_back g x all.0 in rw e (omega (arith, none_before g xs all.1))

  before_at : (xs : List ℕ) (k : ℕ) → Ordered xs → k < length xs → how_many (λ x. lighter loads x (slice_index_or xs k 255)) xs ≡ k
  before_at [] k ord lt = absurd (not-suc-le-zero lt)
  before_at (x ∷ xs) zero ord lt =
      let e = never_itself x in rw e (omega (arith, none_before x xs ord.0))
  before_at (x ∷ xs) (suc k) ord lt =
      let e = All-get_or (λ y. lighter loads x y ≡ true) xs k 255 (omega arith) ord.0 in
      rw e (omega (arith, before_at xs k ord.1 (omega arith)))

  rank_counts : (g n : ℕ) → rank loads g n ≡ how_many (λ x. lighter loads x g) (by_load loads n)
  rank_counts g zero = refl
  rank_counts g (suc n) =
      omega (arith, rank_counts g n, how_many_put (λ x. lighter loads x g) n (by_load loads n))

  rank_at : (n k : ℕ) → k < n → rank loads (slice_index_or (by_load loads n) k 255) n ≡ k
  rank_at n k lt =
      rank_counts (slice_index_or (by_load loads n) k 255) n ∙ before_at (by_load loads n) k (ordered n) (omega (arith, length_by_load n))

  -- so a machine stands at the place of its rank, and at no other
  rank_is_place : (n g k : ℕ) → g < n → rank loads g n ≡ k → slice_index_or (by_load loads n) k 255 ≡ g
  rank_is_place n g k lt e =
      let place = every_turn (each_once n) lt in
      let turn : rank loads g n ≡ place.0 = subst (λ (x : ℕ). rank loads x n ≡ place.0) place.2 (rank_at n place.0 place.1) in
      subst (λ (i : ℕ). slice_index_or (by_load loads n) i 255 ≡ g) (sym turn ∙ e) place.2

  place_is_rank : (n g k : ℕ) → n ≤ 16 → g < n → slice_index_or (by_load loads n) k 255 ≡ g → rank loads g n ≡ k
  place_is_rank n g k few lt e =
      ⊎_elim (λ h. subst (λ (x : ℕ). rank loads x n ≡ k) e (rank_at n k h))
      (λ h. omega (arith, get_or_past (by_load loads n) k 255 (omega (arith, length_by_load n)))) (cases_lt k n)

  pub rank_tells : (n g k : ℕ) → n ≤ 16 → g < n → (rank loads g n == k) ≡ (slice_index_or (by_load loads n) k 255 == g)
  rank_tells n g k few lt =
      ⊎_elim (λ e. eq-eqb _ k e ∙ sym (eq-eqb _ g (rank_is_place n g k lt e)))
      (λ ne. ne_eqb _ k ne ∙ sym (ne_eqb _ g (λ e. ne (place_is_rank n g k few lt e)))) (cases_eq (rank loads g n) k)

  -- one machine more
  pub rank_more : (g n : ℕ) (t : Bool) → t ≡ lighter loads n g → rank loads g (n + 1) ≡ rank loads g n + cond t 1 0
  rank_more g n t e = rw (e, add-one) (omega arith)

-- The laws of sums, over numbers and over lists, and of quotients rounded up.
use Rattle.std.proofs.Common.{◌≡◌, ℕ, zero, suc, ◌+◌, ◌-◌, ◌*◌, ◌<◌, ◌≤◌, Bool, true, false, cond, List, [], ◌∷◌, sym, refl, ap, ◌∙◌, ⊎_elim, add-zero, add-suc, mul-le-mul_right, arith}
use Rattle.std.proofs.lemmas.Bool.{cases_lt}
use Rattle.std.proofs.lemmas.Nat.{div_below}
use Rattle.figures.specs.Demand.{ceil}
use Rattle.rack.specs.Plan.{In}
use Rattle.rack.specs.Run.{sum_to}

-- nothing, n times
pub sum_zero : (n : ℕ) → sum_to n (λ u. 0) ≡ 0
sum_zero zero = refl
sum_zero (suc n) = omega (arith, sum_zero n)

-- a sum of sums
pub sum_add : (n : ℕ) (f g : ℕ → ℕ) → sum_to n (λ u. f u + g u) ≡ sum_to n f + sum_to n g
sum_add zero f g = refl
sum_add (suc n) f g = omega (arith, sum_add n f g)

-- two sums change places
pub sum_swap : (n m : ℕ) (f : ℕ → ℕ → ℕ) → sum_to n (λ u. sum_to m (λ k. f u k)) ≡ sum_to m (λ k. sum_to n (λ u. f u k))
sum_swap zero m f = sym (sum_zero m)
sum_swap (suc n) m f =
    ap (λ z. z + sum_to m (λ k. f n k)) (sum_swap n m f) ∙ sym (sum_add m (λ k. sum_to n (λ u. f u k)) (λ k. f n k))

-- n terms of at most c
pub sum_most : (n c : ℕ) (f : ℕ → ℕ) → ((u : ℕ) → u < n → f u ≤ c) → sum_to n f ≤ c * n
sum_most zero c f h = omega arith
sum_most (suc n) c f h = omega (arith, sum_most n c f (λ u l. h u (omega arith)), h n (omega arith))

-- n terms of at least 1
pub sum_least : (n : ℕ) (f : ℕ → ℕ) → ((u : ℕ) → u < n → 1 ≤ f u) → n ≤ sum_to n f
sum_least zero f h = omega arith
sum_least (suc n) f h = omega (arith, sum_least n f (λ u l. h u (omega arith)), h n (omega arith))

-- a sum in two parts
pub sum_split : (a b : ℕ) (f : ℕ → ℕ) → sum_to (a + b) f ≡ sum_to a f + sum_to b (λ u. f (a + u))
sum_split a zero f = rw (add-zero a) (omega arith)
sum_split a (suc b) f = rw add-suc (omega (arith, sum_split a b f))

-- one term is at most the sum
pub sum_one : (n j : ℕ) (f : ℕ → ℕ) → j < n → f j ≤ sum_to n f
sum_one zero j f l = absurd (omega arith)
sum_one (suc n) j f l =
    ⊎_elim
    (λ less. omega (arith, sum_one n j f less))
    (λ most. let e : j ≡ n = omega arith in omega (arith, ap f e))
    (cases_lt j n)

-- a sum under a test
pub sum_cond_le : (b : Bool) (n c : ℕ) (f : ℕ → ℕ) → sum_to n f ≤ c → sum_to n (λ u. cond b (f u) 0) ≤ cond b c 0
sum_cond_le true n c f h = h
sum_cond_le false n c f h = omega (arith, sum_zero n)

-- the sum of f over a list, the first element first (std's `sum_by` adds the last one last, and so computes no step here)
abbrev pub sum_over : {A : Type 0} → List A → (A → ℕ) → ℕ
sum_over [] f = 0
sum_over (c ∷ set) f = f c + sum_over set f

-- a sum over numbers and a sum over a list change places
pub sum_over_swap :
    {A : Type 0} (n : ℕ) (set : List A) (f : ℕ → A → ℕ) →
    sum_to n (λ u. sum_over set (λ c. f u c)) ≡ sum_over set (λ c. sum_to n (λ u. f u c))
sum_over_swap n [] f = sum_zero n
sum_over_swap n (c ∷ set) f =
    sum_add n (λ u. f u c) (λ u. sum_over set (λ d. f u d)) ∙ ap (λ z. sum_to n (λ u. f u c) + z) (sum_over_swap n set f)

-- a member's term is at most the list's sum
pub sum_over_one : {A : Type 0} (set : List A) (c : A) (f : A → ℕ) → In c set → f c ≤ sum_over set f
sum_over_one [] c f i = absurd i
sum_over_one (d ∷ set) c f i =
    ⊎_elim
    (λ first. omega (arith, ap f first))
    (λ rest. omega (arith, sum_over_one set c f rest))
    i

-- the quotient is large enough
pub ceil_up : (a b : ℕ) → 1 ≤ b → a ≤ ceil a b * b
ceil_up a b h = omega arith

-- and the least such number
pub ceil_least : (a b k : ℕ) → 1 ≤ b → a ≤ k * b → ceil a b ≤ k
ceil_least a b k h l = omega (arith, div_below (a + (b - 1)) b (suc k) h (omega arith))

-- call-up k of a copy with period T, lateness L and offset O is released at r, in a window of x ticks
module _
    (T L O from x k r : ℕ) (some : 1 ≤ T) (early : O + k * T ≤ r) (late : r ≤ O + k * T + L)
    (begins : from ≤ r) (ends : r < from + x) where
  -- then it is not before the first that can be
  pub window_low : ceil (from - (O + L)) T ≤ k
  window_low = ceil_least (from - (O + L)) T k some (omega arith)

  -- and one of so many
  pub window_high : k < ceil (from - (O + L)) T + ceil (x + L) T
  window_high =
      ⊎_elim
      (λ less. less)
      (λ most.
      let a = ceil_up (from - (O + L)) T some in
      let b = ceil_up (x + L) T some in
      absurd (omega (arith, mul-le-mul_right T most)))
      (cases_lt k (ceil (from - (O + L)) T + ceil (x + L) T))

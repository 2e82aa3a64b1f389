-- Which jobs are there after one is put in or taken out, and which is found.
use Rattle.std.proofs.Common.{◌≡◌, ℕ, ◌+◌, ◌<◌, ◌≤◌, true, ◌⊎◌, List, [], ◌∷◌, length, Some, None, refl, inl, inr, arith}
use Rattle.rack.specs.declared.placement.Placement.{Placement}
use Rattle.rack.specs.Plan.{In, number}
use Rattle.roster.specs.Rising.{rising_from, rising}
use Rattle.roster.specs.Changes.{find, with_job, without}

-- in rising numbers from n on, each is above n
pub rising_above : (n : ℕ) (ps : List Placement) (q : Placement) → rising_from n ps ≡ true → In q ps → n < number q
rising_above n [] q up at = absurd at
rising_above n (p ∷ ps) q up at = grind (arith, rising_above (number p) ps q)

module _ (p : Placement) where
  -- what is there after a job is put in is that job, or was there
  pub in_with_job : (q : Placement) (ps : List Placement) → In q (with_job p ps) → (q ≡ p) ⊎ In q ps
  in_with_job q [] at = at
  in_with_job q (x ∷ ps) at = grind (arith, in_with_job q ps)

  -- the job that is put in is there
  pub with_job_has : (ps : List Placement) → In p (with_job p ps)
  with_job_has [] = inl refl
  with_job_has (x ∷ ps) = grind (arith, with_job_has ps)

  -- what was there still is
  pub with_job_keeps : (q : Placement) (ps : List Placement) → In q ps → In q (with_job p ps)
  with_job_keeps q [] at = absurd at
  with_job_keeps q (x ∷ ps) at = grind (arith, with_job_keeps q ps)

  -- there is one more
  pub length_with_job : (ps : List Placement) → length (with_job p ps) ≡ length ps + 1
  length_with_job [] = refl
  length_with_job (x ∷ ps) = grind (arith, length_with_job ps)

module _ (n : ℕ) where
  -- what is left after a job is taken out was there
  pub without_part : (q : Placement) (ps : List Placement) → In q (without n ps) → In q ps
  without_part q [] at = at
  without_part q (x ∷ ps) at = grind (arith, without_part q ps)

  -- the same, from any number on
  gone_from : (k : ℕ) (q : Placement) (ps : List Placement) → rising_from k ps ≡ true → In q (without n ps) → number q ≡ n → ⊥
  gone_from k q [] up at same = absurd at
  gone_from k q (x ∷ ps) up at same = grind (arith, gone_from (number x) q ps, rising_above (number x) ps q)

  -- what is left after a job is taken out was there, and has another number
  pub in_without : (q : Placement) (ps : List Placement) → rising ps ≡ true → In q (without n ps) → In q ps × (number q ≡ n → ⊥)
  in_without q ps up at = (without_part q ps at, gone_from 0 q ps up at)

  -- what was there with another number still is
  pub without_keeps : (q : Placement) (ps : List Placement) → In q ps → (number q ≡ n → ⊥) → In q (without n ps)
  without_keeps q [] at other = absurd at
  without_keeps q (x ∷ ps) at other = grind (arith, without_keeps q ps)

  -- there are no more than there were
  pub length_without : (ps : List Placement) → length (without n ps) ≤ length ps
  length_without [] = omega arith
  length_without (x ∷ ps) = grind (arith, length_without ps)

  -- what is found is there, and has the number
  pub find_some : (ps : List Placement) (p : Placement) → find n ps ≡ Some p → In p ps × (number p ≡ n)
  find_some [] p e = absurd (grind arith)
  find_some (x ∷ ps) p e = grind (arith, find_some ps p)

  -- where nothing is found the number is not there
  pub find_none : (ps : List Placement) → find n ps ≡ None → (q : Placement) → In q ps → number q ≡ n → ⊥
  find_none [] e q at same = absurd at
  find_none (x ∷ ps) e q at same = grind (arith, find_none ps)

  -- where the number is not there nothing is found
  pub find_not : (ps : List Placement) → ((q : Placement) → In q ps → number q ≡ n → ⊥) → find n ps ≡ None
  find_not [] none = refl
  find_not (x ∷ ps) none = grind (arith, none x (inl refl), find_not ps (λ q at. none q (inr at)))

-- the same, from any number on
found_from : (k : ℕ) (p : Placement) (ps : List Placement) → rising_from k ps ≡ true → In p ps → find (number p) ps ≡ Some p
found_from k p [] up at = absurd at
found_from k p (x ∷ ps) up at = grind (arith, found_from (number x) p ps, rising_above (number x) ps p)

-- a job that is there is found by its number
pub find_has : (p : Placement) (ps : List Placement) → rising ps ≡ true → In p ps → find (number p) ps ≡ Some p
find_has p ps up at = found_from 0 p ps up at

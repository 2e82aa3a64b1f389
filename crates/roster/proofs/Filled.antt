-- The array that `from_fn` makes by a closure that always answers the same.
use Rattle.std.proofs.Common.{◌≡◌, ℕ, zero, suc, ◌+◌, ◌<◌, ◌≤◌, List, get_or, subst, ◌∙◌, ⊎_elim, arith}
use Rattle.std.specs.Array.{IsFromFnResult, IsFromFnResultFrom}
use Rattle.std.specs.Fn.{Called}
use Rattle.std.specs.List.{range_with_len}
use Rattle.std.proofs.lemmas.Bool.{cases_lt}
use Rattle.std.proofs.lemmas.List.FromFn.{fill_by_all}
use denote.Param.Members.{Mut}
use mathlib.Core.List.{map}

module _ {F : Type 0} (g : Mut F (ℕ × Unit {0}) ℕ) (f : F) (at : ℕ → ℕ)
    (each : (i y : ℕ) (q : F) → Called g f (i, tt) y q → (q ≡ f) × (y ≡ at i)) where
  -- what the n calls from i on gave
  from : (ys : List ℕ) (n i k : ℕ) → IsFromFnResultFrom g f ys i n → i ≤ k → k < i + n → get_or ys k 0 ≡ at k
  from ys zero i k made low high = absurd (omega (arith, low, high))
  from ys (suc n) i k made low high =
      let call = each i made.1 made.0 made.3 in
      ⊎_elim
      (λ (later : i < k). from ys n (i + 1) k (subst (λ q. IsFromFnResultFrom g q ys (i + 1) n) call.0 made.4) (omega (arith, later)) (omega (arith, high)))
      (λ (now : k ≤ i). let same : k ≡ i = omega (arith, now, low) in rw same (made.2.1 0 ∙ call.1))
      (cases_lt i k)

  -- each element is what the closure answers of its index
  pub from_fn_is : (ys : List ℕ) (n : ℕ) → IsFromFnResult g f ys n → ys ≡ map at (range_with_len 0 n)
  from_fn_is ys n made = fill_by_all at ys n 0 made.long (λ k lt. from ys n 0 k made.each (omega arith) (omega (arith, lt)))

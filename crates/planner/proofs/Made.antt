-- An array made by a closure that changes nothing.
use Rattle.std.proofs.Common.{◌≡◌, ℕ, zero, suc, ◌+◌, ◌<◌, ◌≤◌, List, get_or, sym, ◌∙◌, subst, ⊎_elim, arith}
use Rattle.std.proofs.lemmas.Bool.{cases_eq}
use Rattle.std.specs.Array.{IsFromFnResultFrom}
use Rattle.std.specs.Fn.{Called, Mut}

module _ {F B : Type 0} (g : Mut F (ℕ × Unit {0}) B) (v : ℕ → B) (f : F) (each : (i : ℕ) (y : B) (q : F) → Called g f (i, tt) y q → (q ≡ f) × (y ≡ v i)) where
  pub made_at :
      (ys : List B) (i n : ℕ) → IsFromFnResultFrom g f ys i n → (k : ℕ) (d : B) → i ≤ k → k < i + n → get_or ys k d ≡ v k
  made_at ys i zero made k d low high = absurd (omega arith)
  made_at ys i (suc n) made k d low high =
      let told = each i made.1 made.0 made.3 in
      ⊎_elim (λ same. subst (λ j. get_or ys j d ≡ v j) (sym same) (made.2.1 d ∙ told.1))
      (λ ne. made_at ys (i + 1) n (subst (λ q. IsFromFnResultFrom g q ys (i + 1) n) told.0 made.4) k d (omega (arith, ne)) (omega arith))
      (cases_eq k i)

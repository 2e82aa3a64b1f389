-- The demand of a set grows with the window.
use Rattle.std.proofs.Common.{◌≡◌, ℕ, zero, suc, ◌+◌, ◌-◌, ◌/◌, ◌<◌, ◌≤◌, Bool, true, false, cond, List, [], ◌∷◌, length, get_or, take, ap, le_of_suc-le-suc, not-suc-le-zero, mul-le-mul, le-div_iff_mul-le, add-one, arith}
use native.Mathlib.Nat.{mod-add-div'}
use Rattle.terms.specs.declared.terms.Terms.{Terms}
use Rattle.figures.specs.declared.copies.Role.{Role}
use Rattle.figures.specs.declared.copies.Role.TheVariants.{Primary, Standby}
use Rattle.figures.specs.declared.copies.JobCopy.{JobCopy}
use Rattle.figures.specs.Demand.{ceil, run_of, charge, work_in, held_off, all_held_off, demand}

pub run_some : (r : Role) (t : Terms) → 1 ≤ run_of r t
run_some Primary t = t.working.0
run_some Standby t = t.working.1

pub period_some : (t : Terms) → 1 ≤ t.period
period_some t = omega (arith, t.working, t.fitting, t.bounded)

pub charge_some : (c : JobCopy) → 1 ≤ charge c
charge_some c = run_some c.role c.terms

pub div_mono : (a b k : ℕ) → 0 < k → a ≤ b → a / k ≤ b / k
div_mono a b k pos h = (le-div_iff_mul-le pos).1 (omega (arith, mod-add-div' a k))

pub ceil_mono : (a b k : ℕ) → 1 ≤ k → a ≤ b → ceil a k ≤ ceil b k
ceil_mono a b k pos h = div_mono (a + (k - 1)) (b + (k - 1)) k pos (omega arith)

pub work_in_mono : (c : JobCopy) (x y : ℕ) → x ≤ y → work_in c x ≤ work_in c y
work_in_mono c x y h =
    mul-le-mul (omega arith) (ceil_mono (x + c.lateness) (y + c.lateness) c.terms.period (period_some c.terms) (omega arith))

pub cond_mono : (b : Bool) (m n : ℕ) → m ≤ n → cond b m 0 ≤ cond b n 0
cond_mono true m n h = h
cond_mono false m n h = omega arith

module _ (before : Terms → Terms → Bool) where
  pub all_held_off_mono : (set : List JobCopy) (own : JobCopy) (x y : ℕ) → x ≤ y → all_held_off before set own x ≤ all_held_off before set own y
  all_held_off_mono [] own x y h = omega arith
  all_held_off_mono (c ∷ set) own x y h =
      omega (arith, cond_mono (before c.terms own.terms) (work_in c x) (work_in c y) (work_in_mono c x y h), all_held_off_mono set own x y h)

  pub demand_mono : (set : List JobCopy) (own : JobCopy) (x y : ℕ) → x ≤ y → demand before set own x ≤ demand before set own y
  demand_mono set own x y h = omega (arith, all_held_off_mono set own x y h)

  -- one copy more of the set
  pub held_off_more : (set : List JobCopy) (own : JobCopy) (x n : ℕ) (c : JobCopy) → n < length set → c ≡ get_or set n c → all_held_off before (take (n + 1) set) own x ≡ all_held_off before (take n set) own x + held_off before c own x
  held_off_more set own x n c lt read = rw add-one (go set n c lt read)
    where
      go : (set : List JobCopy) (n : ℕ) (c : JobCopy) → n < length set → c ≡ get_or set n c → all_held_off before (take (suc n) set) own x ≡ all_held_off before (take n set) own x + held_off before c own x
      go [] n c lt read = absurd (not-suc-le-zero lt)
      go (d ∷ set) zero c lt read = omega (arith, ap (λ e. held_off before e own x) read)
      go (d ∷ set) (suc n) c lt read = omega (arith, go set n c (le_of_suc-le-suc lt) read)

  -- a part of the set holds off no more than the set
  pub held_off_part : (set : List JobCopy) (own : JobCopy) (x n : ℕ) → all_held_off before (take n set) own x ≤ all_held_off before set own x
  held_off_part [] own x zero = omega arith
  held_off_part [] own x (suc n) = omega arith
  held_off_part (c ∷ set) own x zero = omega arith
  held_off_part (c ∷ set) own x (suc n) = omega (arith, held_off_part set own x n)

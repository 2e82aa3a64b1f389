-- Placements stay in rising number and on the rack, and so are arranged as a plan's are.
use Rattle.std.proofs.Common.{◌≡◌, ℕ, ◌<◌, ◌≤◌, true, List, [], ◌∷◌, refl, inl, inr, arith}
use Rattle.rack.specs.declared.placement.Placement.{Placement}
use Rattle.rack.specs.Plan.{In, number, Once, Placed, Arranged}
use Rattle.rack.proofs.Tested.{all_of_each}
use Rattle.roster.specs.Rising.{rising_from, rising, placed, all_placed}
use Rattle.roster.specs.Changes.{with_job, without, addable, Orderly}
use Rattle.roster.proofs.Jobs.{rising_above, length_with_job, length_without, find_none}

-- the same, from any number on
once_from : (n : ℕ) (ps : List Placement) → rising_from n ps ≡ true → Once ps
once_from n [] up = tt
once_from n (p ∷ ps) up = (λ q at same. grind (arith, rising_above (number p) ps q), once_from (number p) ps (grind arith))

-- in rising numbers none stands twice
pub rising_once : (ps : List Placement) → rising ps ≡ true → Once ps
rising_once ps up = once_from 0 ps up

-- the test of one placement says that it is placed
pub placed_here : (m : ℕ) (p : Placement) → placed m p ≡ true → Placed m p
placed_here m p all = grind arith

-- a roster's placements are arranged as a plan's are
pub roster_arranged : (m : ℕ) (ps : List Placement) → rising ps ≡ true → all_placed m ps ≡ true → Arranged m ps
roster_arranged m ps up all =
    record { once = rising_once ps up; placed = λ p at. placed_here m p (all_of_each (placed m) ps p all at) }

-- rising numbers rise from any lower number on
lower : (k n : ℕ) (ps : List Placement) → k ≤ n → rising_from n ps ≡ true → rising_from k ps ≡ true
lower k n [] below up = refl
lower k n (p ∷ ps) below up = grind arith

-- the same, from any number on
with_job_from :
    (p : Placement) (k : ℕ) (ps : List Placement) → k < number p → rising_from k ps ≡ true →
    ((q : Placement) → In q ps → number q ≡ number p → ⊥) → rising_from k (with_job p ps) ≡ true
with_job_from p k [] over up new = grind arith
with_job_from p k (x ∷ ps) over up new =
    let more : number x < number p → rising_from (number x) ps ≡ true → rising_from (number x) (with_job p ps) ≡ true =
    λ less rest. with_job_from p (number x) ps less rest (λ q at. new q (inr at)) in
    grind (arith, new x (inl refl), more)

-- a new number put in at its place leaves the numbers rising
pub rising_with_job :
    (p : Placement) (ps : List Placement) → rising ps ≡ true → ((q : Placement) → In q ps → number q ≡ number p → ⊥) →
    rising (with_job p ps) ≡ true
rising_with_job p ps up new = with_job_from p 0 ps (omega (arith, p.terms.numbered.0)) up new

-- the same, from any number on
without_from : (n k : ℕ) (ps : List Placement) → rising_from k ps ≡ true → rising_from k (without n ps) ≡ true
without_from n k [] up = refl
without_from n k (x ∷ ps) up = grind (arith, lower k (number x) ps, without_from n (number x) ps)

-- a job taken out leaves the numbers rising
pub rising_without : (n : ℕ) (ps : List Placement) → rising ps ≡ true → rising (without n ps) ≡ true
rising_without n ps up = without_from n 0 ps up

-- one more on the rack
pub placed_with_job :
    (m : ℕ) (p : Placement) (ps : List Placement) → all_placed m ps ≡ true → placed m p ≡ true → all_placed m (with_job p ps) ≡ true
placed_with_job m p [] all here = grind arith
placed_with_job m p (x ∷ ps) all here = grind (arith, placed_with_job m p ps)

-- one fewer on the rack
pub placed_without : (m n : ℕ) (ps : List Placement) → all_placed m ps ≡ true → all_placed m (without n ps) ≡ true
placed_without m n [] all = refl
placed_without m n (x ∷ ps) all = grind (arith, placed_without m n ps)

-- a job that may be put in leaves a roster
pub orderly_with_job : (m : ℕ) (p : Placement) (ps : List Placement) → addable m ps p ≡ true → Orderly m ps → Orderly m (with_job p ps)
orderly_with_job m p ps may is =
    record {
      few = grind (arith, length_with_job p ps);
      in_order = rising_with_job p ps is.in_order (find_none (number p) ps (grind arith));
      on_the_rack = placed_with_job m p ps is.on_the_rack (grind arith);
    }

-- a job taken out leaves a roster
pub orderly_without : (m n : ℕ) (ps : List Placement) → Orderly m ps → Orderly m (without n ps)
orderly_without m n ps is =
    record {
      few = omega (arith, is.few, length_without n ps);
      in_order = rising_without n ps is.in_order;
      on_the_rack = placed_without m n ps is.on_the_rack;
    }

-- What a plan is: each job once, on two different machines of the rack.
use Rattle.std.specs.Prelude.{◌≡◌, ℕ, ◌<◌, ◌≤◌, Bool, true, false, ◌⊎◌, List, [], ◌∷◌, length, ◌≢◌}
use Rattle.figures.specs.declared.copies.Role.{Role}
use Rattle.figures.specs.declared.copies.Role.TheVariants.{Primary, Standby}
use Rattle.rack.specs.declared.placement.Status.{Status}
use Rattle.rack.specs.declared.placement.Status.TheVariants.{Passive, Active}
use Rattle.rack.specs.declared.placement.Placement.{Placement}

-- x stands in the list
abbrev pub In : {A : Type 0} → A → List A → Type 0
In x [] = ⊥
In x (y ∷ ys) = (x ≡ y) ⊎ In x ys

abbrev pub number : Placement → ℕ
number p = p.terms.number

abbrev pub active : Status → Bool
active Passive = false
active Active = true

-- the machine on which a copy stands
abbrev pub machine : Role → Placement → ℕ
machine Primary p = p.primary
machine Standby p = p.standby

-- no number stands twice
abbrev pub Once : List Placement → Type 0
Once [] = Unit {0}
Once (p ∷ ps) = ((q : Placement) → In q ps → number q ≢ number p) × Once ps

-- the two machines differ and are among the m of the rack
pub record Placed (m : ℕ) (p : Placement) : Type 0 where
  pub primary : p.primary < m
  pub standby : p.standby < m
  pub apart : p.primary ≡ p.standby → ⊥

-- each job once, on two different machines of the rack, however many jobs there are
pub record Arranged (m : ℕ) (ps : List Placement) : Type 0 where
  pub once : Once ps
  pub placed : (p : Placement) → In p ps → Placed m p

-- a plan has 2 to 16 machines and at most 96 jobs
pub record Plan (m : ℕ) (ps : List Placement) : Type 0 where
  pub from_two : 2 ≤ m
  pub to_sixteen : m ≤ 16
  pub few : length ps ≤ 96
  pub arranged : Arranged m ps

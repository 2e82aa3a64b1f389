-- What a job's record says: a placement.
use Rattle.std.specs.Prelude.{◌≡◌, ℕ, ◌<◌, Bool, true, false, cond, ◌&&◌, Some, None, Option, ◌==◌, nat_le, nat_lt, refl}
use Rattle.std.proofs.lemmas.Bool.{and_parts}
use Rattle.terms.specs.declared.draft.Draft.{Draft}
use Rattle.terms.specs.Limits.{lawful}
use Rattle.terms.specs.Making.{Of, terms_of}
use Rattle.rack.specs.declared.placement.Status.{Status}
use Rattle.rack.specs.declared.placement.Status.TheVariants.{Passive, Active}
use Rattle.rack.specs.declared.placement.Placement.{Placement}
use Rattle.pairs.specs.Pairs.{pair_machines, primary_of, standby_of}

abbrev pub status_byte : Status → ℕ
status_byte Passive = 0
status_byte Active = 1

-- a record with the numbers d, the pair q and the status s stands for the placement p on m machines
-- (terms are lawful by their type)
pub record Places (m : ℕ) (d : Draft) (q s : ℕ) (p : Placement) : Type 0 where
  pub terms : Of d p.terms
  pub machines : pair_machines q ≡ Some (p.primary, p.standby)
  pub primary : p.primary < m
  pub standby : p.standby < m
  pub status : s ≡ status_byte p.status

-- whether there is such a placement, as a test
abbrev pub placeable : ℕ → Draft → ℕ → ℕ → Bool
placeable m d q s = lawful d && (nat_lt q 240 && (nat_lt (primary_of q) m && (nat_lt (standby_of q) m && nat_le s 1)))

abbrev pub status_of : ℕ → Status
status_of s = cond (s == 0) Passive Active

-- the placement, by what the test says
abbrev pub placed_by : (m : ℕ) (d : Draft) (q s : ℕ) (b : Bool) → placeable m d q s ≡ b → Option Placement
placed_by m d q s true ok =
    Some (record {
      terms = terms_of d (and_parts (lawful d) _ ok).0;
      primary = primary_of q;
      standby = standby_of q;
      status = status_of s;
    })
placed_by m d q s false off = None

unfoldable pub placement_of : ℕ → Draft → ℕ → ℕ → Option Placement
placement_of m d q s = placed_by m d q s (placeable m d q s) refl

-- A job's record stands for at most one placement, and the test says whether for one.
use Rattle.std.proofs.Common.{◌≡◌, ℕ, ◌<◌, ◌≤◌, Bool, true, false, ltb, is_some, IfSome, Some, None, Option, sym, refl, ap, subst, arith}
use Rattle.std.proofs.lemmas.Bool.{and_parts, ltb-true, leb-true, both_ways}
use Rattle.std.proofs.lemmas.Bool.Decides.{nat_tests}
use Rattle.std.proofs.lemmas.Option.{none-some, same_Some}
use Rattle.terms.specs.declared.draft.Draft.{Draft}
use Rattle.terms.specs.declared.terms.Terms.{Terms}
use Rattle.terms.specs.Limits.{lawful}
use Rattle.terms.specs.Making.{Of, terms_of}
use Rattle.terms.proofs.Alike.{of_one_draft}
use Rattle.rack.specs.declared.placement.Status.{Status}
use Rattle.rack.specs.declared.placement.Status.TheVariants.{Passive, Active}
use Rattle.rack.specs.declared.placement.Placement.{Placement}
use Rattle.pairs.specs.Pairs.{pair_machines, primary_of, standby_of}
use Rattle.planfile.specs.Jobs.{Places, placeable, placed_by, placement_of, status_byte, status_of}

same_placement :
    (p o : Placement) → p.terms ≡ o.terms → p.primary ≡ o.primary → p.standby ≡ o.standby →
    p.status ≡ o.status → p ≡ o
same_placement p o t a b s = λ i. record { terms = t i; primary = a i; standby = b i; status = s i }

-- the numbers of terms keep the limits
pub lawful_of : (d : Draft) (t : Terms) → Of d t → lawful d ≡ true
lawful_of d t o = grind (arith, nat_tests)

-- the machines of a pair
pub machines_are : (q a b : ℕ) → pair_machines q ≡ Some (a, b) → (q < 240) × (primary_of q ≡ a) × (standby_of q ≡ b)
machines_are q a b e = (grind (arith, nat_tests), grind (arith, nat_tests), grind (arith, nat_tests))

status_back : (s : ℕ) (v : Status) → s ≡ status_byte v → status_of s ≡ v
status_back s Passive e = rw e
status_back s Active e = rw e

pub small_status : (v : Status) → status_byte v ≤ 1
small_status Passive = omega arith
small_status Active = omega arith

status_small : (s : ℕ) → s ≤ 1 → s ≡ status_byte (status_of s)
status_small s h = grind (arith, nat_tests)

module _ (m : ℕ) (d : Draft) (q s : ℕ) where
  places_test : (p : Placement) → Places m d q s p → placeable m d q s ≡ true
  places_test p h =
      let w = machines_are q p.primary p.standby h.machines in
      grind (arith, nat_tests, lawful_of d p.terms h.terms, w)

  found_by : (b : Bool) (e : placeable m d q s ≡ b) (p : Placement) → Places m d q s p → placed_by m d q s b e ≡ Some p
  found_by true e p h =
      let w = machines_are q p.primary p.standby h.machines in
      let t = terms_of d (and_parts (lawful d) _ e).0 in
      let own : Of d t = record { number = refl; period = refl; deadline = refl; run = refl; standby = refl; lateness = refl } in
      let it : Placement = record { terms = t; primary = primary_of q; standby = standby_of q; status = status_of s } in
      ap (λ (x : Placement). Some x)
      (same_placement it p (of_one_draft d t p.terms own h.terms) w.1 w.2 (status_back s p.status h.status))
  found_by false e p h = absurd (both_ways (placeable m d q s) e (places_test p h))

  placed_by_so : (b : Bool) (e : placeable m d q s ≡ b) (p : Placement) → placed_by m d q s b e ≡ Some p → Places m d q s p
  placed_by_so true e p f =
      let lawfully = and_parts (lawful d) _ e in
      let known = and_parts (ltb q 240) _ lawfully.1 in
      let first = and_parts (ltb (primary_of q) m) _ known.1 in
      let second = and_parts (ltb (standby_of q) m) _ first.1 in
      let small : s ≤ 1 = leb-true s 1 second.1 in
      let it : Placement =
      record { terms = terms_of d lawfully.0; primary = primary_of q; standby = standby_of q; status = status_of s } in
      let stands : Places m d q s it = record {
        terms = record { number = refl; period = refl; deadline = refl; run = refl; standby = refl; lateness = refl };
        machines = rw known.0;
        primary = ltb-true (primary_of q) m first.0;
        standby = ltb-true (standby_of q) m second.0;
        status = status_small s small;
      } in
      subst (λ (x : Placement). Places m d q s x) (same_Some it p f) stands
  placed_by_so false e p f = absurd (none-some p f)

  -- the record stands for p exactly where the placement is p
  pub placed : (p : Placement) → Places m d q s p → placement_of m d q s ≡ Some p
  unfolding placement_of
  placed p h = found_by (placeable m d q s) refl p h

  pub placed_so : (p : Placement) → placement_of m d q s ≡ Some p → Places m d q s p
  unfolding placement_of
  placed_so p e = placed_by_so (placeable m d q s) refl p e

  none_by : (b : Bool) (e : placeable m d q s ≡ b) → b ≡ false → placed_by m d q s b e ≡ None
  none_by true e f = absurd (both_ways true f refl)
  none_by false e f = refl

  -- what tells its test and stands for the record is the placement
  pub placed_as :
      (r : Option Placement) → is_some r ≡ placeable m d q s → IfSome r (λ p. Places m d q s p) →
      r ≡ placement_of m d q s
  unfolding placement_of
  placed_as None test stands = sym (none_by (placeable m d q s) refl (sym test))
  placed_as (Some p) test stands = sym (found_by (placeable m d q s) refl p stands)

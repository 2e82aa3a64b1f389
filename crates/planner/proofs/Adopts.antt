-- What a plan file holds, a roster may hold.
use Rattle.std.proofs.Common.{◌≡◌, ℕ, zero, suc, ◌+◌, ◌/◌, ◌%◌, ◌<◌, ◌≤◌, Bool, true, false, cond, ◌&&◌, eqb, ltb, leb, List, [], ◌∷◌, length, Some, None, Option, sym, refl, ap, ◌∙◌, subst, arith}
use Rattle.std.proofs.lemmas.Option.{none-some, same_Some, cond_some}
use Rattle.std.proofs.lemmas.Bool.{and_parts, and_from, ltb-true, ltb-false, lt-ltb, le-leb, ne_eqb, not_from_false, cond_both}
use Rattle.terms.specs.declared.draft.Draft.{Draft}
use Rattle.rack.specs.declared.placement.Placement.{Placement}
use Rattle.rack.specs.Plan.{number}
use Rattle.pairs.specs.Pairs.{primary_of, standby_of}
use Rattle.planfile.specs.Format.{Rec, head, job, note, end, parse_record}
use Rattle.planfile.specs.Jobs.{Places, placement_of}
use Rattle.planfile.specs.Judging.{Onward, after_job, admitted, judge, judge_first, body_within, body_of, on_machines, under_head, by_head, plan_of}
use Rattle.planfile.proofs.Places.{placed_so, machines_are}
use Rattle.roster.specs.Rising.{rising_from, placed, all_placed}
use Rattle.roster.specs.Taking.{holdable}

if_some : {A : Type 0} (b : Bool) (o : Option A) (x : A) → cond b o None ≡ Some x → (b ≡ true) × (o ≡ Some x)
if_some true o x e = (refl, e)
if_some false o x e = absurd (none-some x e)

-- the two machines of a pair differ
apart : (q : ℕ) → primary_of q ≡ standby_of q → ⊥
apart q =
    cond_both (ltb (q % 15) (q / 15)) (q % 15) (q % 15 + 1) (λ x. q / 15 ≡ x → ⊥)
    (λ below same. let lt : q % 15 < q / 15 = ltb-true (q % 15) (q / 15) below in let z : ⊥ = omega arith in z)
    (λ above same. let le : q / 15 ≤ q % 15 = ltb-false (q % 15) (q / 15) above in let z : ⊥ = omega arith in z)

-- a job's record puts it on two different machines of the rack
places_placed : (m : ℕ) (d : Draft) (q s : ℕ) (p : Placement) → Places m d q s p → placed m p ≡ true
places_placed m d q s p stands =
    let w = machines_are q p.primary p.standby stands.machines in
    and_from _ _ (lt-ltb p.primary m stands.primary)
    (and_from _ _ (lt-ltb p.standby m stands.standby)
    (not_from_false _ (ne_eqb p.primary p.standby (λ same. apart q (w.1 ∙ same ∙ sym w.2)))))

-- the placements read after so many jobs, the last with that number
record Held (m last jobs : ℕ) (ps : List Placement) : Type 0 where
  rising : rising_from last ps ≡ true
  placed : all_placed m ps ≡ true
  few : jobs + length ps ≤ 96

module _ (m : ℕ) where
  abbrev Holds : Onward → Type 0
  Holds onward =
      (last jobs notes : ℕ) (xs : List ℕ) (ps : List Placement) → jobs ≤ 96 → onward last jobs notes xs ≡ Some ps → Held m last jobs ps

  after :
      (last jobs notes : ℕ) (onward : Onward) (d : Draft) (q s : ℕ) (xs : List ℕ) (ps : List Placement) → Holds onward →
      (a : Option Placement) → admitted m last jobs d q s ≡ a →
      (o : Option (List Placement)) → onward d.number (jobs + 1) notes xs ≡ o →
      after_job a o ≡ Some ps → Held m last jobs ps
  after last jobs notes onward d q s xs ps holds None is o go so = absurd (none-some ps so)
  after last jobs notes onward d q s xs ps holds (Some p) is None go so = absurd (none-some ps so)
  after last jobs notes onward d q s xs ps holds (Some p) is (Some qs) go so =
      let w = if_some (ltb jobs 96 && ltb last d.number) (placement_of m d q s) p is in
      let tests = and_parts (ltb jobs 96) (ltb last d.number) w.0 in
      let room : jobs < 96 = ltb-true jobs 96 tests.0 in
      let stands = placed_so m d q s p w.1 in
      let same : number p ≡ d.number = stands.terms.number in
      let rest = holds d.number (jobs + 1) notes xs qs (omega arith) go in
      subst (λ (v : List Placement). Held m last jobs v) (same_Some (p ∷ qs) ps so)
      (record {
        rising = and_from _ _ (ap (ltb last) same ∙ tests.1) (ap (λ n. rising_from n qs) same ∙ rest.rising);
        placed = and_from _ _ (places_placed m d q s p stands) rest.placed;
        few = omega (arith, rest.few);
      })

  judged :
      (last jobs notes : ℕ) (onward : Onward) (r : Rec) (xs : List ℕ) (ps : List Placement) → Holds onward → jobs ≤ 96 →
      judge m last jobs notes onward r xs ≡ Some ps → Held m last jobs ps
  judged last jobs notes onward (head code k) xs ps holds few so = absurd (none-some ps so)
  judged last jobs notes onward (job d q s) xs ps holds few so =
      after last jobs notes onward d q s xs ps holds (admitted m last jobs d q s) refl (onward d.number (jobs + 1) notes xs) refl so
  judged last jobs notes onward (note text) xs ps holds few so =
      holds last jobs (notes + 1) xs ps few (if_some (ltb notes 64) (onward last jobs (notes + 1) xs) ps so).1
  judged last jobs notes onward end xs ps holds few so =
      subst (λ (v : List Placement). Held m last jobs v) (cond_some (eqb (length xs) 0) [] ps so).1
      (record { rising = refl; placed = refl; few = omega arith })

  first_judged :
      (last jobs notes : ℕ) (onward : Onward) (o : Option (Rec × List ℕ)) (ps : List Placement) → Holds onward → jobs ≤ 96 →
      judge_first m last jobs notes onward o ≡ Some ps → Held m last jobs ps
  first_judged last jobs notes onward None ps holds few so = absurd (none-some ps so)
  first_judged last jobs notes onward (Some x) ps holds few so = judged last jobs notes onward x.0 x.1 ps holds few so

  within_holds : (n : ℕ) → Holds (body_within n m)
  within_holds zero last jobs notes xs ps few so = absurd (none-some ps so)
  within_holds (suc n) last jobs notes xs ps few so =
      first_judged last jobs notes (body_within n m) (parse_record xs) ps (within_holds n) few so

  -- what is read between head and end
  body_held : (xs : List ℕ) (ps : List Placement) → body_of m 0 0 0 xs ≡ Some ps → Held m 0 0 ps
  unfolding body_of
  body_held xs ps so = within_holds (length xs) 0 0 0 xs ps (omega arith) so

under_holdable :
    (k : ℕ) (qs : List Placement) (m : ℕ) (ps : List Placement) → (leb 2 k && leb k 16) ≡ true → Held k 0 0 qs →
    ◌≡◌ {A = ℕ × List Placement} (k, qs) (m, ps) → holdable m ps ≡ true
under_holdable k qs m ps sizes held both =
    let few : length qs ≤ 96 = omega (arith, held.few) in
    subst (λ (v : ℕ × List Placement). holdable v.0 v.1 ≡ true) both
    (and_from _ _ sizes (and_from _ _ (le-leb (length qs) 96 few) (and_from _ _ held.rising held.placed)))

head_holdable :
    (code c k : ℕ) (xs : List ℕ) (m : ℕ) (ps : List Placement) (o : Option (List Placement)) → body_of k 0 0 0 xs ≡ o →
    cond (eqb c code && (leb 2 k && leb k 16)) (on_machines k o) None ≡ Some (m, ps) → holdable m ps ≡ true
head_holdable code c k xs m ps None is so =
    absurd (none-some (m, ps) (if_some (eqb c code && (leb 2 k && leb k 16)) None (m, ps) so).1)
head_holdable code c k xs m ps (Some qs) is so =
    let w = cond_some (eqb c code && (leb 2 k && leb k 16)) (k, qs) (m, ps) so in
    under_holdable k qs m ps (and_parts (eqb c code) (leb 2 k && leb k 16) w.0).1 (body_held k xs qs is) w.1

first_holdable :
    (code : ℕ) (r : Rec) (xs : List ℕ) (m : ℕ) (ps : List Placement) → under_head code r xs ≡ Some (m, ps) → holdable m ps ≡ true
first_holdable code (head c k) xs m ps so = head_holdable code c k xs m ps (body_of k 0 0 0 xs) refl so
first_holdable code (job d q s) xs m ps so = absurd (none-some (m, ps) so)
first_holdable code (note text) xs m ps so = absurd (none-some (m, ps) so)
first_holdable code end xs m ps so = absurd (none-some (m, ps) so)

by_head_holdable :
    (code : ℕ) (o : Option (Rec × List ℕ)) (m : ℕ) (ps : List Placement) → by_head code o ≡ Some (m, ps) → holdable m ps ≡ true
by_head_holdable code None m ps so = absurd (none-some (m, ps) so)
by_head_holdable code (Some x) m ps so = first_holdable code x.0 x.1 m ps so

-- whatever bytes are read as a plan
pub held_holdable : (code : ℕ) (xs : List ℕ) (m : ℕ) (ps : List Placement) → plan_of code xs ≡ Some (m, ps) → holdable m ps ≡ true
held_holdable code xs m ps so = by_head_holdable code (parse_record xs) m ps so

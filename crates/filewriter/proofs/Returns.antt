-- A roster's file is read back as the same plan.
use Rattle.std.proofs.Common.{◌≡◌, ℕ, ◌^◌, ◌<◌, ◌≤◌, true, ltb, List, [], ◌∷◌, ◌++◌, map, Some, unwrap_or, refl, arith}
use Rattle.std.proofs.lemmas.Bool.{and_parts, ltb-true}
use Rattle.std.proofs.lemmas.Bool.Decides.{nat_tests}
use Rattle.rack.specs.declared.placement.Placement.{Placement}
use Rattle.rack.specs.Plan.{number}
use Rattle.rack.specs.Test.{all_of}
use Rattle.pairs.specs.Pairs.{pair_number}
use Rattle.pairs.proofs.Inverses.{inverse}
use Rattle.planfile.specs.Format.{end, encode, bytes_2, bytes_4, Bytes}
use Rattle.planfile.specs.Jobs.{Places, status_byte}
use Rattle.planfile.specs.File.{Between, notes_in, RisingFrom, PlanFile}
use Rattle.planfile.proofs.Places.{machines_are, small_status}
use Rattle.planfile.proofs.Agrees.{agree}
use Rattle.roster.specs.Rising.{rising_from, placed, all_placed}
use Rattle.roster.proofs.Ordered.{placed_here}
use Rattle.filewriter.specs.Written.{draft_of, pair_byte, job_record, jobs_of, file_of, RoundTrip}
use Rattle.filewriter.proofs.Overs.{length_file}

-- two different machines of the rack have a pair
paired : (a b : ℕ) → a < 16 → b < 16 → (a ≡ b → ⊥) → pair_number a b ≡ Some (unwrap_or (pair_number a b) 0)
paired a b ha hb apart = grind (arith, nat_tests)

-- a placement's record stands for it
stands :
    (m : ℕ) (p : Placement) → m ≤ 16 → placed m p ≡ true →
    Places m (draft_of p.terms) (pair_byte p) (status_byte p.status) p
stands m p few all =
    let on = placed_here m p all in
    let pair = paired p.primary p.standby (omega (arith, on.primary)) (omega (arith, on.standby)) on.apart in
    record {
      terms = record { number = refl; period = refl; deadline = refl; run = refl; standby = refl; lateness = refl };
      machines = (inverse (pair_byte p) p.primary p.standby).1 pair;
      primary = on.primary;
      standby = on.standby;
      status = refl;
    }

-- the jobs of a file are the placements, with no note among them
between : (m : ℕ) (ps : List Placement) → m ≤ 16 → all_placed m ps ≡ true → Between m (map job_record ps) ps
between m [] few all = tt
between m (p ∷ ps) few all =
    let parts = and_parts (placed m p) (all_of (placed m) ps) all in
    (stands m p few parts.0, between m ps few parts.1)

no_notes : (ps : List Placement) → notes_in (map job_record ps) ≡ 0
no_notes [] = refl
no_notes (p ∷ ps) = no_notes ps

rises : (n : ℕ) (ps : List Placement) → rising_from n ps ≡ true → RisingFrom n ps
rises n [] up = tt
rises n (p ∷ ps) up =
    let parts = and_parts (ltb n (number p)) (rising_from (number p) ps) up in
    (ltb-true n (number p) parts.0, rises (number p) ps parts.1)

-- every number of the file is a byte
fit_2 : (n : ℕ) (rest : List ℕ) → n < 2 ^ 16 → Bytes rest → Bytes (bytes_2 n ++ rest)
fit_2 n rest h all = (omega arith, (omega arith, all))

fit_4 : (n : ℕ) (rest : List ℕ) → n < 2 ^ 32 → Bytes rest → Bytes (bytes_4 n ++ rest)
fit_4 n rest h all = (omega arith, (omega arith, (omega arith, (omega arith, all))))

job_fits : (m : ℕ) (p : Placement) (rest : List ℕ) → m ≤ 16 → placed m p ≡ true → Bytes rest → Bytes (encode (job_record p) ++ rest)
job_fits m p rest few on all =
    let t = p.terms in
    let pair = (machines_are (pair_byte p) p.primary p.standby (stands m p few on).machines).0 in
    let state = small_status p.status in
    let last = pair_byte p ∷ status_byte p.status ∷ rest in
    let lateness = bytes_4 t.lateness ++ last in
    let standby = bytes_4 t.standby ++ lateness in
    let run = bytes_4 t.run ++ standby in
    let deadline = bytes_4 t.deadline ++ run in
    let period = bytes_4 t.period ++ deadline in
    let ends : Bytes last = (omega arith, (omega arith, all)) in (
      omega arith,
      fit_2 t.number period (omega arith)
          (fit_4 t.period deadline (omega arith)
          (fit_4 t.deadline run (omega arith)
          (fit_4 t.run standby (omega arith)
          (fit_4 t.standby lateness (omega arith)
          (fit_4 t.lateness last (omega arith) ends))))),
    )

jobs_fit : (m : ℕ) (ps : List Placement) (rest : List ℕ) → m ≤ 16 → all_placed m ps ≡ true → Bytes rest → Bytes (jobs_of ps ++ rest)
jobs_fit m [] rest few all more = more
jobs_fit m (p ∷ ps) rest few all more =
    let parts = and_parts (placed m p) (all_of (placed m) ps) all in
    job_fits m p (jobs_of ps ++ rest) few parts.0 (jobs_fit m ps rest few parts.1 more)

pub round_trip : RoundTrip
round_trip code m ps small two sixteen few up all =
    let file : PlanFile code (file_of code m ps) m ps = record {
      items = map job_record ps;
      laid_out = refl;
      two_machines = two;
      sixteen_machines = sixteen;
      jobs_and_notes = between m ps sixteen all;
      rising = rises 0 ps up;
      few_jobs = few;
      few_notes = omega (arith, no_notes ps);
    } in
    let bytes : Bytes (file_of code m ps) =
    (omega arith, (small, (omega arith, jobs_fit m ps (encode end) sixteen all (omega arith, tt)))) in
    ((agree code (file_of code m ps) m ps bytes).0 file, length_file code m ps)

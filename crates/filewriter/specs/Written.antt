-- The plan file of a roster, and that it is read back as the same plan.
use Rattle.std.specs.Prelude.{◌≡◌, ℕ, ◌+◌, ◌*◌, ◌<◌, ◌≤◌, true, List, [], ◌∷◌, ◌++◌, map, length, take, drop, Some}
use Rattle.std.specs.Option.{unwrap_or}
use Rattle.terms.specs.declared.draft.Draft.{Draft}
use Rattle.terms.specs.declared.terms.Terms.{Terms}
use Rattle.rack.specs.declared.placement.Placement.{Placement}
use Rattle.pairs.specs.Pairs.{pair_number}
use Rattle.planfile.specs.Format.{Rec, head, job, note, end, encode}
use Rattle.planfile.specs.Jobs.{status_byte}
use Rattle.planfile.specs.File.{encode_all, PlanFile}
use Rattle.planfile.specs.Judging.{plan_of}
use Rattle.roster.specs.Rising.{rising, all_placed}

-- the numbers of terms
abbrev pub draft_of : Terms → Draft
draft_of t =
    record {
      number = t.number;
      period = t.period;
      deadline = t.deadline;
      run = t.run;
      standby = t.standby;
      lateness = t.lateness;
    }

-- the byte of the two machines
abbrev pub pair_byte : Placement → ℕ
pair_byte p = unwrap_or (pair_number p.primary p.standby) 0

abbrev pub job_record : Placement → Rec
job_record p = job (draft_of p.terms) (pair_byte p) (status_byte p.status)

-- the jobs' records, one after the other
abbrev pub jobs_of : List Placement → List ℕ
jobs_of ps = encode_all (map job_record ps)

-- the file of m machines and these placements under the rule with this code, without notes
abbrev pub file_of : ℕ → ℕ → List Placement → List ℕ
file_of code m ps = encode (head code m) ++ (jobs_of ps ++ encode end)

abbrev pub file_length : List Placement → ℕ
file_length ps = 4 + 25 * length ps

-- the old bytes with new ones over them, from a place on
abbrev pub over : ℕ → List ℕ → List ℕ → List ℕ
over at new old = take at old ++ (new ++ drop (at + length new) old)

-- what is written of a roster has that length, and is read back as the same plan
abbrev pub RoundTrip : Type 0
RoundTrip =
    (code m : ℕ) (ps : List Placement) → code < 256 → 2 ≤ m → m ≤ 16 → length ps ≤ 96 →
    rising ps ≡ true → all_placed m ps ≡ true →
    (plan_of code (file_of code m ps) ≡ Some (m, ps)) × (length (file_of code m ps) ≡ file_length ps)

-- records with the notes left out
abbrev pub without_notes : List Rec → List Rec
without_notes [] = []
without_notes (head code machines ∷ rs) = head code machines ∷ without_notes rs
without_notes (job d q s ∷ rs) = job d q s ∷ without_notes rs
without_notes (note text ∷ rs) = without_notes rs
without_notes (end ∷ rs) = end ∷ without_notes rs

-- the plan that a file holds, written again, is the same file without its notes
abbrev pub NotesLeftOut : Type 0
NotesLeftOut =
    (code : ℕ) (bytes : List ℕ) (m : ℕ) (ps : List Placement) (file : PlanFile code bytes m ps) →
    file_of code m ps ≡ encode (head code m) ++ (encode_all (without_notes file.items) ++ encode end)

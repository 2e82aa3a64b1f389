-- The plan that a file holds, written again, is the same file without its notes.
use Rattle.std.proofs.Common.{◌≡◌, ℕ, List, [], ◌∷◌, ◌++◌, map, Option, unwrap_or, sym, refl, ap}
use Rattle.terms.specs.declared.draft.Draft.{Draft}
use Rattle.terms.specs.declared.terms.Terms.{Terms}
use Rattle.terms.specs.Making.{Of}
use Rattle.rack.specs.declared.placement.Placement.{Placement}
use Rattle.pairs.proofs.Inverses.{inverse}
use Rattle.planfile.specs.Format.{Rec, head, job, note, end, encode}
use Rattle.planfile.specs.Jobs.{Places}
use Rattle.planfile.specs.File.{Between, encode_all}
use Rattle.filewriter.specs.Written.{draft_of, pair_byte, job_record, without_notes, NotesLeftOut}

-- terms give back the numbers that they were made of
same_draft : (d : Draft) (t : Terms) → Of d t → draft_of t ≡ d
same_draft d t of = λ i. record {
  number = of.number i;
  period = of.period i;
  deadline = of.deadline i;
  run = of.run i;
  standby = of.standby i;
  lateness = of.lateness i;
}

-- a placement's record is the one that it was read from
same_record : (m : ℕ) (d : Draft) (q s : ℕ) (p : Placement) → Places m d q s p → job_record p ≡ job d q s
same_record m d q s p read =
    let pair : pair_byte p ≡ q = ap (λ (o : Option ℕ). unwrap_or o 0) ((inverse q p.primary p.standby).0 read.machines) in
    λ i. job (same_draft d p.terms read.terms i) (pair i) (sym read.status i)

same_records : (m : ℕ) (rs : List Rec) (ps : List Placement) → Between m rs ps → map job_record ps ≡ without_notes rs
same_records m [] [] read = refl
same_records m [] (p ∷ ps) read = absurd read
same_records m (head code machines ∷ rs) ps read = absurd read
same_records m (job d q s ∷ rs) [] read = absurd read
same_records m (job d q s ∷ rs) (p ∷ ps) read = λ i. same_record m d q s p read.0 i ∷ same_records m rs ps read.1 i
same_records m (note text ∷ rs) ps read = same_records m rs ps read.1
same_records m (end ∷ rs) ps read = absurd read

pub notes_left_out : NotesLeftOut
notes_left_out code bytes m ps file =
    ap (λ (rs : List Rec). encode (head code m) ++ (encode_all rs ++ encode end)) (same_records m file.items ps file.jobs_and_notes)

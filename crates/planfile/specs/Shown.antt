-- What the reader's values stand for.
use Rattle.std.specs.Prelude.{ℕ, List, drop, Some, None, Option}
use Rattle.planfile.specs.declared.record.Record.{Record}
use Rattle.planfile.specs.declared.record.Record.TheVariants.{Head, Job, Note, End}
use Rattle.planfile.specs.declared.reader.Reader.{Reader}
use Rattle.planfile.specs.Format.{Rec, head, job, note, end}

-- the bytes that are still to be read
abbrev pub ahead : Reader → List ℕ
ahead r = drop r.at r.bytes.now

abbrev pub rec_of : Record → Rec
rec_of (Head code machines) = head code machines
rec_of (Job j) = job j.draft j.pair j.status
rec_of (Note text) = note text.now
rec_of End = end

abbrev pub shown : Option Record → List ℕ → Option (Rec × List ℕ)
shown None rest = None
shown (Some r) rest = Some (rec_of r, rest)

-- a record and its length
abbrev pub shown_first : Option (Record × ℕ) → List ℕ → Option (Rec × List ℕ)
shown_first None xs = None
shown_first (Some p) xs = Some (rec_of p.0, drop p.1 xs)

-- The records after the head are judged one by one, however many there may be.
use Rattle.std.proofs.Common.{◌≡◌, ℕ, zero, suc, ◌+◌, ◌<◌, ◌≤◌, Bool, true, false, cond, eqb, ltb, List, [], ◌∷◌, ◌++◌, length, Some, None, Option, sym, refl, ap, ◌∙◌, append_assoc, append-nil, arith}
use Rattle.std.proofs.lemmas.Bool.{le-ltb, lt-ltb}
use Rattle.planfile.specs.declared.record.JobRecord.{JobRecord}
use Rattle.planfile.specs.declared.record.Record.{Record}
use Rattle.planfile.specs.declared.record.Record.TheVariants.{Head, Job, Note, End}
use Rattle.planfile.specs.Shown.{shown}
use denote.Bor.{Bor}
use Rattle.rack.specs.declared.placement.Placement.{Placement}
use Rattle.planfile.specs.Format.{Rec, head, job, note, end, parse_record}
use Rattle.planfile.specs.Judging.{Onward, after_job, admitted, judge, judge_first, body_within, body_of, following}
use Rattle.planfile.proofs.Records.{shorter}

-- two ways on that agree at the rest judge alike
judge_alike :
    (m last jobs notes : ℕ) (f g : Onward) (r : Rec) (xs : List ℕ) → ((l j n : ℕ) → f l j n xs ≡ g l j n xs) →
    judge m last jobs notes f r xs ≡ judge m last jobs notes g r xs
judge_alike m last jobs notes f g (head code machines) xs same = refl
judge_alike m last jobs notes f g (job d q s) xs same =
    ap (λ (o : Option (List Placement)). after_job (admitted m last jobs d q s) o) (same d.number (jobs + 1) notes)
judge_alike m last jobs notes f g (note text) xs same =
    ap (λ (o : Option (List Placement)). cond (ltb notes 64) o None) (same last jobs (notes + 1))
judge_alike m last jobs notes f g end xs same = refl

first_alike :
    (m last jobs notes : ℕ) (f g : Onward) (xs : List ℕ) (o : Option (Rec × List ℕ)) → parse_record xs ≡ o →
    ((l j n : ℕ) (ys : List ℕ) → length ys < length xs → f l j n ys ≡ g l j n ys) →
    judge_first m last jobs notes f o ≡ judge_first m last jobs notes g o
first_alike m last jobs notes f g xs None e same = refl
first_alike m last jobs notes f g xs (Some x) e same =
    judge_alike m last jobs notes f g x.0 x.1 (λ l j n. same l j n x.1 (shorter xs x.0 x.1 e))

-- with no bytes there is no record
empty : (n m last jobs notes : ℕ) → body_within n m last jobs notes [] ≡ None
empty zero m last jobs notes = refl
empty (suc n) m last jobs notes = refl

-- as many records as bytes are enough
enough :
    (n k m : ℕ) (xs : List ℕ) → length xs ≤ n → length xs ≤ k → (last jobs notes : ℕ) →
    body_within n m last jobs notes xs ≡ body_within k m last jobs notes xs
enough n k m [] h i last jobs notes = empty n m last jobs notes ∙ sym (empty k m last jobs notes)
enough zero k m (x ∷ xs) h i last jobs notes = absurd (omega arith)
enough (suc n) zero m (x ∷ xs) h i last jobs notes = absurd (omega arith)
enough (suc n) (suc k) m (x ∷ xs) h i last jobs notes =
    first_alike m last jobs notes (body_within n m) (body_within k m) (x ∷ xs) (parse_record (x ∷ xs)) refl
    (λ l j c ys s. enough n k m ys (omega arith) (omega arith) l j c)

-- the first record, and then the rest
pub body_step :
    (m last jobs notes : ℕ) (xs : List ℕ) →
    body_of m last jobs notes xs ≡ judge_first m last jobs notes (body_of m) (parse_record xs)
unfolding body_of
body_step m last jobs notes [] = refl
body_step m last jobs notes (x ∷ xs) =
    first_alike m last jobs notes (body_within (length xs) m) (λ l j c ys. body_within (length ys) m l j c ys) (x ∷ xs)
    (parse_record (x ∷ xs)) refl
    (λ l j c ys s. enough (length xs) (length ys) m ys (omega arith) (omega arith) l j c)

-- what follows one placement more
pub following_more :
    (before : List Placement) (p : Placement) (o : Option (List Placement)) →
    following before (after_job (Some p) o) ≡ following (before ++ p ∷ []) o
following_more before p None = refl
following_more before p (Some ps) = ap (λ (qs : List Placement). Some qs) (sym (append_assoc before (p ∷ []) ps))

-- all that is read, by what was read before and the bytes that are left
pub record SoFar (all : Option (List Placement)) (m : ℕ) (before : List Placement) (last jobs notes : ℕ) (xs : List ℕ) : Type 0 where
  pub is : all ≡ following before (body_of m last jobs notes xs)

following_none : (before : List Placement) (o : Option (List Placement)) → before ≡ [] → o ≡ following before o
following_none before None e = refl
following_none before (Some ps) e = rw e

pub at_start :
    (m jobs : ℕ) (before : List Placement) (xs : List ℕ) → before ≡ [] → jobs ≡ 0 →
    SoFar (body_of m 0 0 0 xs) m before 0 jobs 0 xs
at_start m jobs before xs e none = record { is = rw none (following_none before (body_of m 0 0 0 xs) e) }

-- the same, where the next record is known
pub record Met (all : Option (List Placement)) (m : ℕ) (before : List Placement) (last jobs notes : ℕ) (next : Option Record) (rest : List ℕ) : Type 0 where
  pub is : all ≡ following before (judge_first m last jobs notes (body_of m) (shown next rest))

module _ {all : Option (List Placement)} {m : ℕ} {before : List Placement} {last jobs notes : ℕ} where
  pub meet :
      {xs : List ℕ} (next : Option Record) (rest : List ℕ) → SoFar all m before last jobs notes xs → parse_record xs ≡ shown next rest →
      Met all m before last jobs notes next rest
  meet {xs} next rest so_far read = record {
    is = so_far.is ∙ ap (λ (v : Option (List Placement)). following before v)
        (body_step m last jobs notes xs ∙ ap (λ (v : Option (Rec × List ℕ)). judge_first m last jobs notes (body_of m) v) read);
  }

  module _ {next : Option Record} {rest : List ℕ} (met : Met all m before last jobs notes next rest) where
    met_as : (found : Option Record) → next ≡ found → all ≡ following before (judge_first m last jobs notes (body_of m) (shown found rest))
    met_as found e = met.is ∙ ap (λ (v : Option Record). following before (judge_first m last jobs notes (body_of m) (shown v rest))) e

    pub no_record : next ≡ None → all ≡ None
    no_record e = met_as None e

    pub a_head : (code machines : ℕ) → next ≡ Some (Head code machines) → all ≡ None
    a_head code machines e = met_as (Some (Head code machines)) e

    pub a_job :
        (it : JobRecord) (p : Placement) (after : List Placement) (more : ℕ) → next ≡ Some (Job it) →
        admitted m last jobs it.draft it.pair it.status ≡ Some p → after ≡ before ++ p ∷ [] → more ≡ jobs + 1 →
        SoFar all m after it.draft.number more notes rest
    a_job it p after more e in_it pushed counted =
        let onward = body_of m it.draft.number (jobs + 1) notes rest in
        record {
          is = met_as (Some (Job it)) e
              ∙ ap (λ (v : Option Placement). following before (after_job v onward)) in_it
              ∙ following_more before p onward
              ∙ rw (pushed, counted);
        }

    pub a_job_refused :
        (it : JobRecord) → next ≡ Some (Job it) → admitted m last jobs it.draft it.pair it.status ≡ None → all ≡ None
    a_job_refused it e out =
        met_as (Some (Job it)) e
        ∙ ap (λ (v : Option Placement). following before (after_job v (body_of m it.draft.number (jobs + 1) notes rest))) out

    pub a_note : (text : Bor (List ℕ)) → next ≡ Some (Note text) → notes < 64 → SoFar all m before last jobs (notes + 1) rest
    a_note text e few = record {
      is = met_as (Some (Note text)) e
          ∙ ap (λ (b : Bool). following before (cond b (body_of m last jobs (notes + 1) rest) None)) (lt-ltb notes 64 few);
    }

    pub a_note_refused : (text : Bor (List ℕ)) → next ≡ Some (Note text) → 64 ≤ notes → all ≡ None
    a_note_refused text e many =
        met_as (Some (Note text)) e
        ∙ ap (λ (b : Bool). following before (cond b (body_of m last jobs (notes + 1) rest) None)) (le-ltb notes 64 many)

    pub an_end : next ≡ Some End → eqb (length rest) 0 ≡ true → all ≡ Some before
    an_end e last_byte =
        met_as (Some End) e ∙ ap (λ (b : Bool). following before (cond b (Some []) None)) last_byte
        ∙ ap (λ (ps : List Placement). Some ps) (append-nil before)

    pub an_end_refused : next ≡ Some End → eqb (length rest) 0 ≡ false → all ≡ None
    an_end_refused e more = met_as (Some End) e ∙ ap (λ (b : Bool). following before (cond b (Some []) None)) more

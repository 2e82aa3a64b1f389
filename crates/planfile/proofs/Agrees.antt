-- What is computed of bytes is exactly what they hold.
use Rattle.std.proofs.Common.{◌≡◌, ℕ, zero, suc, ◌+◌, ◌<◌, ◌≤◌, Bool, true, cond, ◌&&◌, eqb, ltb, leb, List, [], ◌∷◌, ◌++◌, length, Some, None, Option, sym, refl, ap, ◌∙◌, subst, append_assoc, arith}
use Rattle.std.proofs.lemmas.Bool.{and_parts, and_from, ltb-true, leb-true, eqb-true, lt-ltb, le-leb, eq-eqb}
use Rattle.terms.specs.declared.draft.Draft.{Draft}
use Rattle.terms.specs.Making.{Of}
use Rattle.rack.specs.declared.placement.Placement.{Placement}
use Rattle.rack.specs.Plan.{number}
use Rattle.planfile.specs.Format.{Rec, head, job, note, end, encode, Fits, JobFits, Bytes, parse_record}
use Rattle.planfile.specs.Jobs.{Places, placement_of}
use Rattle.planfile.specs.File.{encode_all, Between, notes_in, RisingFrom, PlanFile}
use Rattle.planfile.specs.Judging.{Onward, after_job, admitted, judge, judge_first, body_within, body_of, on_machines, under_head, by_head, plan_of, Agree}
use Rattle.std.proofs.lemmas.List.{nil_from_length}
use Rattle.std.proofs.lemmas.Option.{none-some, same_Some, cond_some}
use Rattle.planfile.proofs.Ways.{kept}
use Rattle.planfile.proofs.Records.{reads_back, reads_only, byte_at}
use Rattle.planfile.proofs.Places.{placed, placed_so, machines_are, small_status}
use Rattle.planfile.proofs.Bodies.{body_step}

bytes_after : (xs ys : List ℕ) → Bytes (xs ++ ys) → Bytes ys
bytes_after [] ys all = all
bytes_after (x ∷ xs) ys all = bytes_after xs ys all.1

-- the records after the head, after so many jobs and notes
record Body (m last jobs notes : ℕ) (xs : List ℕ) (ps : List Placement) : Type 0 where
  items : List Rec
  laid_out : xs ≡ encode_all items ++ encode end
  between : Between m items ps
  rising : RisingFrom last ps
  few_jobs : jobs + length ps ≤ 96
  few_notes : notes + notes_in items ≤ 64

-- a record that can be written, with what follows it
laid :
    (r : Rec) (items : List Rec) (xs rest : List ℕ) → xs ≡ encode r ++ rest → rest ≡ encode_all items ++ encode end →
    xs ≡ encode_all (r ∷ items) ++ encode end
laid r items xs rest e f = e ∙ ap (λ (v : List ℕ). encode r ++ v) f ∙ sym (append_assoc (encode r) (encode_all items) (encode end))

module _ (m : ℕ) where
  -- what goes on gives a body
  abbrev Sound : Onward → List ℕ → Type 0
  Sound onward rest =
      (last jobs notes : ℕ) (ps : List Placement) → Bytes rest → jobs ≤ 96 → notes ≤ 64 →
      onward last jobs notes rest ≡ Some ps → Body m last jobs notes rest ps

  job_so :
      (last jobs notes : ℕ) (onward : Onward) (d : Draft) (q s : ℕ) (xs rest : List ℕ) (ps : List Placement) →
      Sound onward rest → Bytes rest → notes ≤ 64 → xs ≡ encode (job d q s) ++ rest →
      (a : Option Placement) → admitted m last jobs d q s ≡ a →
      (o : Option (List Placement)) → onward d.number (jobs + 1) notes rest ≡ o →
      after_job a o ≡ Some ps → Body m last jobs notes xs ps
  job_so last jobs notes onward d q s xs rest ps sound all few e None is o go so = absurd (none-some ps so)
  job_so last jobs notes onward d q s xs rest ps sound all few e (Some p) is None go so = absurd (none-some ps so)
  job_so last jobs notes onward d q s xs rest ps sound all few e (Some p) is (Some qs) go so =
      let w = kept (ltb jobs 96 && ltb last d.number) (placement_of m d q s) p is in
      let tests = and_parts (ltb jobs 96) (ltb last d.number) w.0 in
      let room : jobs < 96 = ltb-true jobs 96 tests.0 in
      let above : last < d.number = ltb-true last d.number tests.1 in
      let stands = placed_so m d q s p w.1 in
      let same : number p ≡ d.number = stands.terms.number in
      let b = sound d.number (jobs + 1) notes qs all (omega arith) few go in
      subst (λ (v : List Placement). Body m last jobs notes xs v) (same_Some (p ∷ qs) ps so)
      (record {
        items = job d q s ∷ b.items;
        laid_out = laid (job d q s) b.items xs rest e b.laid_out;
        between = (stands, b.between);
        rising = (omega arith, subst (λ (v : ℕ). RisingFrom v qs) (sym same) b.rising);
        few_jobs = omega (arith, b.few_jobs);
        few_notes = b.few_notes;
      })

  record_so :
      (last jobs notes : ℕ) (onward : Onward) (r : Rec) (xs rest : List ℕ) (ps : List Placement) →
      Sound onward rest → Bytes rest → jobs ≤ 96 → notes ≤ 64 → Fits r → xs ≡ encode r ++ rest →
      judge m last jobs notes onward r rest ≡ Some ps → Body m last jobs notes xs ps
  record_so last jobs notes onward (head code k) xs rest ps sound all j n fits e so = absurd (none-some ps so)
  record_so last jobs notes onward (job d q s) xs rest ps sound all j n fits e so =
      job_so last jobs notes onward d q s xs rest ps sound all n e (admitted m last jobs d q s) refl
      (onward d.number (jobs + 1) notes rest) refl so
  record_so last jobs notes onward (note text) xs rest ps sound all j n fits e so =
      let w = kept (ltb notes 64) (onward last jobs (notes + 1) rest) ps so in
      let room : notes < 64 = ltb-true notes 64 w.0 in
      let b = sound last jobs (notes + 1) ps all j (omega arith) w.1 in
      record {
        items = note text ∷ b.items;
        laid_out = laid (note text) b.items xs rest e b.laid_out;
        between = (fits, b.between);
        rising = b.rising;
        few_jobs = b.few_jobs;
        few_notes = omega (arith, b.few_notes);
      }
  record_so last jobs notes onward end xs rest ps sound all j n fits e so =
      let w = cond_some (eqb (length rest) 0) [] ps so in
      subst (λ (v : List Placement). Body m last jobs notes xs v) w.1
      (record {
        items = [];
        laid_out = e ∙ ap (λ (v : List ℕ). 9 ∷ v) (nil_from_length rest (eqb-true (length rest) 0 w.0));
        between = tt;
        rising = tt;
        few_jobs = omega arith;
        few_notes = omega arith;
      })

  first_so :
      (last jobs notes : ℕ) (onward : Onward) (xs : List ℕ) (ps : List Placement) (o : Option (Rec × List ℕ)) →
      ((rest : List ℕ) → Sound onward rest) → Bytes xs → jobs ≤ 96 → notes ≤ 64 → parse_record xs ≡ o →
      judge_first m last jobs notes onward o ≡ Some ps → Body m last jobs notes xs ps
  first_so last jobs notes onward xs ps None sound all j n e so = absurd (none-some ps so)
  first_so last jobs notes onward xs ps (Some x) sound all j n e so =
      let read = reads_only xs x.0 x.1 all e in
      let after : Bytes x.1 = bytes_after (encode x.0) x.1 (subst Bytes read.0 all) in
      record_so last jobs notes onward x.0 xs x.1 ps (sound x.1) after j n read.1 read.0 so

  within_so : (k : ℕ) (rest : List ℕ) → Sound (body_within k m) rest
  within_so zero rest last jobs notes ps all j n so = absurd (none-some ps so)
  within_so (suc k) rest last jobs notes ps all j n so =
      first_so last jobs notes (body_within k m) rest ps (parse_record rest) (within_so k) all j n refl so

-- the numbers of a placed job fit their bytes
job_fits : (m : ℕ) (d : Draft) (q s : ℕ) (p : Placement) → m ≤ 16 → Places m d q s p → JobFits d q s
job_fits m d q s p h stands =
    let o : Of d p.terms = stands.terms in
    let t = p.terms in
    let q_fits = (machines_are q p.primary p.standby stands.machines).0 in
    let s_fits = small_status p.status in
    let e = stands.status in
    record {
      number = omega arith;
      period = omega arith;
      deadline = omega arith;
      run = omega arith;
      standby = omega arith;
      lateness = omega arith;
      pair = omega arith;
      status = omega arith;
    }

module _ (m : ℕ) (few : m ≤ 16) where
  -- a record that was written is judged as itself
  met :
      (last jobs notes : ℕ) (r : Rec) (items : List Rec) → Fits r →
      body_of m last jobs notes (encode_all (r ∷ items) ++ encode end)
      ≡ judge m last jobs notes (body_of m) r (encode_all items ++ encode end)
  met last jobs notes r items fits =
      let rest = encode_all items ++ encode end in
      body_step m last jobs notes (encode_all (r ∷ items) ++ encode end)
      ∙ ap (λ (v : List ℕ). judge_first m last jobs notes (body_of m) (parse_record v)) (append_assoc (encode r) (encode_all items) (encode end))
      ∙ ap (λ (v : Option (Rec × List ℕ)). judge_first m last jobs notes (body_of m) v) (reads_back r rest fits)

  body_met :
      (last jobs notes : ℕ) (items : List Rec) (ps : List Placement) → Between m items ps → RisingFrom last ps →
      jobs + length ps ≤ 96 → notes + notes_in items ≤ 64 → body_of m last jobs notes (encode_all items ++ encode end) ≡ Some ps
  body_met last jobs notes [] [] between rising j n =
      body_step m last jobs notes (encode end)
      ∙ ap (λ (v : Option (Rec × List ℕ)). judge_first m last jobs notes (body_of m) v) (reads_back end [] tt)
  body_met last jobs notes [] (p ∷ ps) between rising j n = absurd between
  body_met last jobs notes (head code k ∷ items) ps between rising j n = absurd between
  body_met last jobs notes (end ∷ items) ps between rising j n = absurd between
  body_met last jobs notes (note text ∷ items) ps between rising j n =
      let rest = encode_all items ++ encode end in
      let room : notes < 64 = omega arith in
      met last jobs notes (note text) items between.0
      ∙ ap (λ (b : Bool). cond b (body_of m last jobs (notes + 1) rest) None) (lt-ltb notes 64 room)
      ∙ body_met last jobs (notes + 1) items ps between.1 rising j (omega arith)
  body_met last jobs notes (job d q s ∷ items) [] between rising j n = absurd between
  body_met last jobs notes (job d q s ∷ items) (p ∷ ps) between rising j n =
      let rest = encode_all items ++ encode end in
      let same : number p ≡ d.number = between.0.terms.number in
      let room : jobs < 96 = omega arith in
      let above : last < d.number = omega (arith, rising.0) in
      let is : admitted m last jobs d q s ≡ Some p =
      ap (λ (b : Bool). cond b (placement_of m d q s) None)
      (and_from (ltb jobs 96) (ltb last d.number) (lt-ltb jobs 96 room) (lt-ltb last d.number above))
      ∙ placed m d q s p between.0 in
      let onward : body_of m d.number (jobs + 1) notes rest ≡ Some ps =
      body_met d.number (jobs + 1) notes items ps between.1 (subst (λ (v : ℕ). RisingFrom v ps) same rising.1) (omega arith) n in
      met last jobs notes (job d q s) items (job_fits m d q s p few between.0)
      ∙ ap (λ (v : Option Placement). after_job v (body_of m d.number (jobs + 1) notes rest)) is
      ∙ ap (λ (v : Option (List Placement)). after_job (Some p) v) onward

computed :
    (code : ℕ) (xs : List ℕ) (m : ℕ) (ps : List Placement) → Bytes xs → PlanFile code xs m ps →
    plan_of code xs ≡ Some (m, ps)
computed code xs m ps all file =
    let rest = encode_all file.items ++ encode end in
    let code_fits : code < 256 = byte_at (encode (head code m) ++ rest) 1 (subst Bytes file.laid_out all) in
    let two = file.two_machines in
    let sixteen = file.sixteen_machines in
    let tests : (eqb code code && (leb 2 m && leb m 16)) ≡ true =
    and_from (eqb code code) (leb 2 m && leb m 16) (eq-eqb code code refl)
    (and_from (leb 2 m) (leb m 16) (le-leb 2 m two) (le-leb m 16 sixteen)) in
    let body : body_of m 0 0 0 rest ≡ Some ps =
    body_met m sixteen 0 0 0 file.items ps file.jobs_and_notes file.rising (omega (arith, file.few_jobs)) (omega (arith, file.few_notes)) in
    ap (λ (v : List ℕ). plan_of code v) file.laid_out
    ∙ ap (λ (v : Option (Rec × List ℕ)). by_head code v) (reads_back (head code m) rest (code_fits, omega arith))
    ∙ ap (λ (b : Bool). cond b (on_machines m (body_of m 0 0 0 rest)) None) tests
    ∙ ap (λ (v : Option (List Placement)). on_machines m v) body

-- a body under a head
under :
    (code : ℕ) (xs : List ℕ) (m : ℕ) (ps : List Placement) (c k : ℕ) (rest : List ℕ) (qs : List Placement) →
    xs ≡ encode (head c k) ++ rest → c ≡ code → 2 ≤ k → k ≤ 16 → Body k 0 0 0 rest qs →
    ◌≡◌ {A = Option (ℕ × List Placement)} (Some (k, qs)) (Some (m, ps)) →
    PlanFile code xs m ps
under code xs m ps c k rest qs laid_so same two sixteen b so =
    let both : ◌≡◌ {A = ℕ × List Placement} (k, qs) (m, ps) = same_Some (k, qs) (m, ps) so in
    let own : PlanFile c xs k qs = record {
      items = b.items;
      laid_out = laid_so ∙ ap (λ (v : List ℕ). encode (head c k) ++ v) b.laid_out;
      two_machines = two;
      sixteen_machines = sixteen;
      jobs_and_notes = b.between;
      rising = b.rising;
      few_jobs = omega (arith, b.few_jobs);
      few_notes = omega (arith, b.few_notes);
    } in
    subst (λ (v : ℕ × List Placement). PlanFile code xs v.0 v.1) both (subst (λ (v : ℕ). PlanFile v xs k qs) same own)

body_so : (m : ℕ) (xs : List ℕ) (ps : List Placement) → Bytes xs → body_of m 0 0 0 xs ≡ Some ps → Body m 0 0 0 xs ps
unfolding body_of
body_so m xs ps all so = within_so m (length xs) xs 0 0 0 ps all (omega arith) (omega arith) so

head_so :
    (code : ℕ) (xs : List ℕ) (m : ℕ) (ps : List Placement) (c k : ℕ) (rest : List ℕ) → xs ≡ encode (head c k) ++ rest → Bytes rest →
    (o : Option (List Placement)) → body_of k 0 0 0 rest ≡ o →
    cond (eqb c code && (leb 2 k && leb k 16)) (on_machines k o) None ≡ Some (m, ps) → PlanFile code xs m ps
head_so code xs m ps c k rest laid_so all None is so =
    absurd (none-some (m, ps) (kept (eqb c code && (leb 2 k && leb k 16)) None (m, ps) so).1)
head_so code xs m ps c k rest laid_so all (Some qs) is so =
    let w = kept (eqb c code && (leb 2 k && leb k 16)) (Some (k, qs)) (m, ps) so in
    let a = and_parts (eqb c code) (leb 2 k && leb k 16) w.0 in
    let b = and_parts (leb 2 k) (leb k 16) a.1 in
    under code xs m ps c k rest qs laid_so (eqb-true c code a.0) (leb-true 2 k b.0) (leb-true k 16 b.1)
    (body_so k rest qs all is) w.1

first_is :
    (code : ℕ) (xs : List ℕ) (m : ℕ) (ps : List Placement) (r : Rec) (rest : List ℕ) → xs ≡ encode r ++ rest → Bytes rest →
    under_head code r rest ≡ Some (m, ps) → PlanFile code xs m ps
first_is code xs m ps (head c k) rest laid_so all so = head_so code xs m ps c k rest laid_so all (body_of k 0 0 0 rest) refl so
first_is code xs m ps (job d q s) rest laid_so all so = absurd (none-some (m, ps) so)
first_is code xs m ps (note text) rest laid_so all so = absurd (none-some (m, ps) so)
first_is code xs m ps end rest laid_so all so = absurd (none-some (m, ps) so)

held :
    (code : ℕ) (xs : List ℕ) (m : ℕ) (ps : List Placement) → Bytes xs → (o : Option (Rec × List ℕ)) → parse_record xs ≡ o →
    by_head code o ≡ Some (m, ps) → PlanFile code xs m ps
held code xs m ps all None e so = absurd (none-some (m, ps) so)
held code xs m ps all (Some x) e so =
    let read = reads_only xs x.0 x.1 all e in
    first_is code xs m ps x.0 x.1 read.0 (bytes_after (encode x.0) x.1 (subst Bytes read.0 all)) so

pub agree : Agree
agree code xs m ps all = (computed code xs m ps all, held code xs m ps all (parse_record xs) refl)

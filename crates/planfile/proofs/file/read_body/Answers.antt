use Rattle.std.proofs.Common.{Some, ap, sym, ◌∙◌, arith}
use Rattle.planfile.proofs.Bodies.{at_start, meet, no_record, a_head, a_job, a_job_refused, a_note, a_note_refused, an_end, an_end_refused}
use Rattle.planfile.proofs.file.read_body.Goals as goal

pub records-init : goal.records-init
records-init c = record {
  so_far = at_start c.args.m _ _ _ c.requires.0 c.requires.1;
  roomy = c.requires.2;
}

pub returns-in_err-job-clause-holds : goal.returns-in_err-job-clause-holds
returns-in_err-job-clause-holds c =
    let met = meet c.next.result _ c.records.invariant.so_far c.next.ensures.reads in
    rw c.from_residual.ensures (no_record met c.in_err-job.was)

pub returns-in_err-placement-in-Job-clause-holds : goal.returns-in_err-placement-in-Job-clause-holds
returns-in_err-placement-in-Job-clause-holds c =
    let met = meet c.next.result _ c.records.invariant.so_far c.next.ensures.reads in
    rw c.from_residual-in_err-placement-in-Job.ensures
    (a_job_refused met c.in-Job.job (c.in_ok-job.was ∙ ap Some c.in-Job.is)
    (rw c.len.ensures at (sym c.admit.ensures ∙ c.in_err-placement-in-Job.was)))

pub records-preserved-in-Job-1 : goal.records-preserved-in-Job-1
records-preserved-in-Job-1 c =
    let met = meet c.next.result _ c.records.invariant.so_far c.next.ensures.reads in
    record {
      so_far = a_job met c.in-Job.job c.in_ok-placement-in-Job.placement _ _ (c.in_ok-job.was ∙ ap Some c.in-Job.is)
          (rw c.len.ensures at (sym c.admit.ensures ∙ c.in_ok-placement-in-Job.was)) c.push_reserved.ensures.items c.push_reserved.ensures.len;
      roomy = omega (arith, c.push_reserved.ensures.capacity, c.records.invariant.roomy);
    }

pub records-preserved : goal.records-preserved
records-preserved c =
    let met = meet c.next.result _ c.records.invariant.so_far c.next.ensures.reads in
    record {
      so_far = a_note met c.in-Note.field-0 (c.in_ok-job.was ∙ ap Some c.in-Note.is) c.if-notes-lt64.true;
      roomy = c.records.invariant.roomy;
    }

pub returns-in-End-clause-holds : goal.returns-in-End-clause-holds
returns-in-End-clause-holds c =
    let met = meet c.next.result _ c.records.invariant.so_far c.next.ensures.reads in
    an_end met (c.in_ok-job.was ∙ ap Some c.in-End.is) (sym c.at_end.ensures ∙ c.if-at_end.true)

pub returns-in_default-clause-holds : goal.returns-in_default-clause-holds
returns-in_default-clause-holds c =
    let met = meet c.next.result _ c.records.invariant.so_far c.next.ensures.reads in
    a_note_refused met c.in-Note.field-0 (c.in_ok-job.was ∙ ap Some c.in-Note.is) c.if-notes-lt64.false

pub returns-in_default-2-clause-holds : goal.returns-in_default-2-clause-holds
returns-in_default-2-clause-holds c =
    let met = meet c.next.result _ c.records.invariant.so_far c.next.ensures.reads in
    an_end_refused met (c.in_ok-job.was ∙ ap Some c.in-End.is) (sym c.at_end.ensures ∙ c.if-at_end.false)

pub returns-in_default-3-clause-holds : goal.returns-in_default-3-clause-holds
returns-in_default-3-clause-holds c =
    let met = meet c.next.result _ c.records.invariant.so_far c.next.ensures.reads in
    a_head met c.in_default.field-0 c.in_default.field-1 (c.in_ok-job.was ∙ ap Some c.in_default.is)

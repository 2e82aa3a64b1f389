use Rattle.std.proofs.Common.{◌≤◌, length, vec_items, vec_len, vec_capacity}
use Rattle.planfile.specs.Shown.{ahead}
use Rattle.planfile.specs.Judging.{body_of}
use Rattle.planfile.proofs.Bodies.{SoFar}
use Rattle.planfile.proofs.file.read_body.Given as goal

abbrev pub invariant-records : goal.invariant-records
invariant-records l = record {
  so_far : SoFar (body_of l.m 0 0 0 (ahead l.initial.reader)) l.m (vec_items l.out) l.last (vec_len l.out) l.notes (ahead l.reader);
  roomy : 96 ≤ vec_capacity l.out;
}

abbrev pub decreases-records : goal.decreases-records
decreases-records l = length (ahead l.reader)

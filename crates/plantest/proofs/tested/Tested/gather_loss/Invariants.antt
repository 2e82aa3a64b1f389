use Rattle.std.proofs.Common.{◌≡◌, ◌+◌, ◌*◌, ◌≤◌, ◌++◌, length, vec_items, vec_len}
use Rattle.plantest.specs.Parts.{loss_with}
use Rattle.plantest.proofs.tested.Tested.gather_loss.Given as goal

abbrev pub invariant-loop-p : goal.invariant-loop-p
invariant-loop-p g l =
    (loss_with l.lates l.g l.f l.self.placements.now ≡ vec_items l.copies.held ++ loss_with l.p-iterator.b.rest.now l.g l.f l.p-iterator.a.rest.now)
    × (vec_len l.copies.held + 2 * length l.p-iterator.a.rest.now ≤ 192)

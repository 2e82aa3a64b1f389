use Rattle.std.proofs.Common.{◌++◌, vec_items, sym, ap, ◌∙◌, append-nil}
use Rattle.std.proofs.lemmas.Slice.Zip.{either_empty_from_Zip}
use Rattle.plantest.proofs.Gathers.{loss_end}
use Rattle.plantest.proofs.tested.Tested.gather_loss.Goals as goal

pub returns : goal.returns
returns g c =
    let t = c.loop-p.p-iterator in
    let ended = either_empty_from_Zip t c.next.new.self c.next.result c.in-None.is c.next.ensures.steps in
    let items = vec_items c.loop-p.copies.held in
    sym (c.loop-p.invariant.0 ∙ ap (λ z. items ++ z) (loss_end t.b.rest.now c.args.g c.args.f t.a.rest.now ended) ∙ append-nil items)

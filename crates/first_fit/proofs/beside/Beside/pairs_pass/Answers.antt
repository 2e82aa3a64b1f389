use Rattle.std.proofs.Common.{◌<◌, vec_items, sym, arith}
use Rattle.std.proofs.lemmas.Bool.{and_right}
use Rattle.rack.specs.Test.{all_below}
use Rattle.rack.proofs.Tested.{all_below_part_false}
use Rattle.plantest.specs.Sweep.{pair_passes}
use Rattle.first_fit.specs.Beside.{machine_beside}
use Rattle.first_fit.proofs.beside.Beside.pairs_pass.Goals as goal

pub returns-then-not-machine_beside : goal.returns-then-not-machine_beside
returns-then-not-machine_beside g c =
    let here = c.args.self.now in
    let b = g.R.Precedence.before here.rule.now in
    let x = here.x.now in
    let m = here.roster.now.machines in
    let ps = vec_items here.roster.now.placements in
    let test = machine_beside b m x ps in
    let below : c.loop-g.g < m = omega (arith, c.loop-g-test.true, c.machines-g-end.ensures) in
    sym
    (and_right (pair_passes b ps x.standby x.primary) (all_below m test)
    (all_below_part_false test m c.loop-g.g below (sym c.if-not-machine_beside.ensures)))

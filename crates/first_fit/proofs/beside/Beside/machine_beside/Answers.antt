use Rattle.std.proofs.Common.{◌<◌, vec_items, sym, arith}
use Rattle.rack.proofs.Tested.{all_below_part_false}
use Rattle.first_fit.specs.Beside.{pair_beside}
use Rattle.first_fit.proofs.beside.Beside.machine_beside.Goals as goal

pub returns-then-not-pair_beside : goal.returns-then-not-pair_beside
returns-then-not-pair_beside g c =
    let here = c.args.self.now in
    let test = pair_beside (g.R.Precedence.before here.rule.now) here.x.now (vec_items here.roster.now.placements) c.args.g in
    let below : c.loop-f.f < here.roster.now.machines = omega (arith, c.loop-f-test.true, c.machines-f-end.ensures) in
    sym (all_below_part_false test here.roster.now.machines c.loop-f.f below (sym c.if-not-pair_beside.ensures))

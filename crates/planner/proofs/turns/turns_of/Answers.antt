use Rattle.std.proofs.Common.{◌≡◌, ◌<◌, length, take, ◌∙◌, arith, rules}
use Rattle.std.proofs.lemmas.List.{ext_get_or, get_or-take, length-take}
use Rattle.orders.specs.Turns.{turn_of}
use Rattle.orders.specs.TurnsLemmas.{turn_told}
use Rattle.planner.proofs.Made.{made_at}
use Rattle.planner.proofs.turns.turns_of.Goals as goal

pub returns : goal.returns
returns g c =
    let m = c.args.machines in
    let turns = g.O.SearchOrder.turns c.args.order.now m c.args.loads.now in
    let each = g.met.O.SearchOrder.permutes c.args.order.now m c.args.loads.now c.requires.0 c.requires.1 c.told-loads in
    let all = c.from_fn.result in
    let made = c.from_fn.ensures.items in
    let long : length all ≡ 16 = made.long in
    let told = made_at _ (λ k. turn_of turns m k) _ (λ k y q call. (search rules, search rules)) all 0 16 made.each in
    let cut = length-take m all in
    ext_get_or 255 (take m all) turns (omega (arith, cut, long, each.long))
    (λ k lt.
    let below : k < m = omega (arith, lt, cut) in
    get_or-take m all k 255 below ∙ told k 255 (omega arith) (omega arith) ∙ turn_told turns m k c.requires.0 c.requires.1 below)

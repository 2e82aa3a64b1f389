use Rattle.std.proofs.Common.{ℕ, ◌+◌, ◌-◌, Bool, ◌==◌, count_by, sym, ◌∙◌}
use Rattle.std.specs.List.{find, range_with_len}
use Rattle.orders.specs.Lightest.{lighter}
use Rattle.orders.proofs.Places.{looks_first, taken_first, passed_first}
use Rattle.orders.proofs.lightest.machine_at.Goals as goal

pub returns-then-is_some : goal.returns-then-is_some
returns-then-is_some c =
    let n : ℕ = c.args.count in
    let g : ℕ = c.loop-g.g in
    let test : ℕ → Bool = λ h. count_by (λ x. lighter c.args.loads.now x h) (range_with_len 0 n) == c.args.k in
    let one = c.machine_if-machine.result in
    sym
    (c.loop-g.invariant ∙ looks_first test g n one c.loop-g-test.true c.machine_if-machine.ensures
    ∙ taken_first one (find test (range_with_len (g + 1) (n - (g + 1)))) (sym c.is_some.ensures ∙ c.if-is_some.true))

pub loop-g-preserved : goal.loop-g-preserved
loop-g-preserved c =
    let n : ℕ = c.args.count in
    let g : ℕ = c.loop-g.g in
    let test : ℕ → Bool = λ h. count_by (λ x. lighter c.args.loads.now x h) (range_with_len 0 n) == c.args.k in
    let one = c.machine_if-machine.result in
    c.loop-g.invariant ∙ looks_first test g n one c.loop-g-test.true c.machine_if-machine.ensures
    ∙ passed_first one (find test (range_with_len (g + 1) (n - (g + 1)))) (sym c.is_some.ensures ∙ c.if-is_some.false)

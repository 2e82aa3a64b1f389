use Rattle.std.proofs.Common.{◌≡◌, ◌-◌, ◌==◌, count_by}
use Rattle.std.specs.List.{find, range_with_len}
use Rattle.orders.specs.Lightest.{lighter}
use Rattle.orders.proofs.lightest.machine_at.Given as goal

abbrev pub invariant-loop-g : goal.invariant-loop-g
invariant-loop-g l =
    find (λ h. count_by (λ x. lighter l.loads x h) (range_with_len 0 l.count) == l.k) (range_with_len 0 l.count)
    ≡ find (λ h. count_by (λ x. lighter l.loads x h) (range_with_len 0 l.count) == l.k) (range_with_len l.g (l.count - l.g))

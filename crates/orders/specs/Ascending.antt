-- The machines by number: 0, 1, .., count - 1.
use Rattle.std.specs.Prelude.{ℕ, List}
use Rattle.std.specs.List.{range_with_len}
use Rattle.orders.specs.declared.ascending.Ascending.{Ascending}

abbrev pub ascending : ℕ → List ℕ
ascending count = range_with_len 0 count

abbrev pub ascending_turns : Ascending → ℕ → List ℕ → List ℕ
ascending_turns order count loads = ascending count

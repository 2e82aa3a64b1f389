use Rattle.std.proofs.Common.{refl}
use Rattle.orders.specs.Turns.{is_turn}
use Rattle.orders.proofs.Places.{place_found}
use Rattle.orders.proofs.ascending.AscendingSearchOrder.turn.Goals as goal

pub returns : goal.returns
returns c =
    rw (c.unwrap_or.ensures, c.machine_at.ensures) (place_found c.args.count c.args.k (is_turn c.args.count c.args.k) refl)

-- The list by load of some loads, worked out.
use Rattle.std.proofs.Common.{◌≡◌, [], ◌∷◌, refl}
use Rattle.orders.specs.Lightest.{by_load}

four_machines : by_load (5 ∷ 3 ∷ 5 ∷ 0 ∷ []) 4 ≡ 3 ∷ 1 ∷ 0 ∷ 2 ∷ []
four_machines = refl

-- Fewer jobs never hurt: a part of a plan that passes, passes.
use Rattle.std.specs.Prelude.{ℕ, Bool, List}
use Rattle.terms.specs.declared.terms.Terms.{Terms}
use Rattle.rack.specs.declared.placement.Placement.{Placement}
use Rattle.rack.specs.Plan.{In, Once}
use Rattle.rack.specs.Test.{Passes}

-- each placement of the one stands in the other, as it is; the order is free, and the other may have any number more
abbrev pub Part : List Placement → List Placement → Type 0
Part ps qs = (p : Placement) → In p ps → In p qs

abbrev pub FewerPass : (Terms → Terms → Bool) → ℕ → List Placement → Type 0
FewerPass before m qs = (ps : List Placement) → Once ps → Part ps qs → Passes before m ps

-- The three figures of a job of a plan.
use Rattle.std.specs.Prelude.{ℕ, zero, suc, max, Bool, cond, List, Option, ◌==◌}
use Rattle.std.specs.Option.{unwrap_or}
use Rattle.terms.specs.declared.terms.Terms.{Terms}
use Rattle.rack.specs.declared.placement.Placement.{Placement}
use Rattle.rack.specs.Sets.{quiet_figure}
use Rattle.rack.specs.Test.{loss_figure, standby_figure}

-- a figure as a number: in a plan that passes there is always one, and 0 stands for none
abbrev pub shown : Option ℕ → ℕ
shown r = unwrap_or r 0

-- the figure of the primary when f stops; its own machine counts for nothing
abbrev pub lost_shown : (Terms → Terms → Bool) → List Placement → Placement → ℕ → ℕ
lost_shown before ps p f = cond (f == p.primary) 0 (shown (loss_figure before ps p f))

-- the largest of them over the machines below n
abbrev pub largest_lost : (Terms → Terms → Bool) → List Placement → Placement → ℕ → ℕ
largest_lost before ps p zero = 0
largest_lost before ps p (suc n) = max (largest_lost before ps p n) (lost_shown before ps p n)

-- quiet figure, largest primary figure over the loss sets, standby figure
abbrev pub three_figures : (Terms → Terms → Bool) → ℕ → List Placement → Placement → ℕ × ℕ × ℕ
three_figures before m ps p =
    (shown (quiet_figure before ps p), largest_lost before ps p m, shown (standby_figure before ps p))

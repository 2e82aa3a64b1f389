-- Shortcuts that accept plans which miss a deadline. None of them is the product's; they stand here to be told apart.
use Rattle.std.specs.Prelude.{ℕ, Bool, cond, ◌&&◌, ◌||◌, List, [], ◌∷◌, is_some, Option, ◌==◌, nat_lt}
use Rattle.terms.specs.declared.terms.Terms.{Terms}
use Rattle.figures.specs.declared.copies.JobCopy.{JobCopy}
use Rattle.figures.specs.Figure.{figure_of}
use Rattle.rack.specs.declared.placement.Placement.{Placement}
use Rattle.rack.specs.Sets.{primary_copy, standby_copy, gather, quiet, quiet_figure}
use Rattle.rack.specs.Test.{all_below, all_of}

-- the published loss set: the active standbys whose primary is elsewhere are left out
abbrev pub short_part : (Terms → Terms → Bool) → List Placement → ℕ → ℕ → Placement → List JobCopy
short_part before ps g f p =
    cond (p.primary == g) (primary_copy p ∷ [])
    (cond (p.standby == g && p.primary == f) (standby_copy before ps p ∷ []) [])

abbrev pub short_loss : (Terms → Terms → Bool) → List Placement → ℕ → ℕ → List JobCopy
short_loss before ps g f = gather (short_part before ps g f) ps

abbrev pub short_fits : (Terms → Terms → Bool) → ℕ → List Placement → Placement → Bool
short_fits before m ps p =
    is_some (quiet_figure before ps p)
    && (all_below m (λ f. (f == p.primary) || is_some (figure_of before (short_loss before ps p.primary f) (primary_copy p)))
    && is_some (figure_of before (short_loss before ps p.standby p.primary) (standby_copy before ps p)))

abbrev pub short_passes : (Terms → Terms → Bool) → ℕ → List Placement → Bool
short_passes before m ps = all_of (short_fits before m ps) ps

-- the lateness of the copies that go before, forgotten
abbrev pub punctual : List JobCopy → List JobCopy
punctual [] = []
punctual (c ∷ cs) = record { terms = c.terms; role = c.role; lateness = 0 } ∷ punctual cs

abbrev pub no_lateness_figure : (Terms → Terms → Bool) → List Placement → Placement → Option ℕ
no_lateness_figure before ps p = figure_of before (punctual (quiet p.primary ps)) (primary_copy p)

-- equal deadlines taken as no hindrance
abbrev pub strictly_before : Terms → Terms → Bool
strictly_before a b = nat_lt a.deadline b.deadline

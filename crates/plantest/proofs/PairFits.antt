-- One placement's part in the sweep of a pair.
use Rattle.std.proofs.Common.{◌≡◌, ℕ, ◌<◌, Bool, cond, List, map, length, get_or, ap, ◌∙◌}
use Rattle.terms.specs.declared.terms.Terms.{Terms}
use Rattle.figures.specs.declared.copies.JobCopy.{JobCopy}
use Rattle.figures.specs.declared.copies.Role.TheVariants.{Standby}
use Rattle.rack.specs.declared.placement.Placement.{Placement}
use Rattle.rack.specs.Plan.{active}
use Rattle.rack.specs.Sets.{copy_of, passive_late, loss}
use Rattle.plantest.specs.Parts.{loss_with}
use Rattle.plantest.specs.Sweep.{copies_fit, pair_fits}
use Rattle.plantest.proofs.Gathers.{loss_is}
use Rattle.plantest.proofs.Sweeps.{map_at}

-- with the gathered set and the quiet figures as latenesses, the copies' test is the pair's
pub pair_fits_is :
    (before : Terms → Terms → Bool) (ps : List Placement) (lates : List ℕ) (set : List JobCopy) (g f n : ℕ) (p : Placement) →
    lates ≡ map (passive_late before ps) ps → set ≡ loss_with lates g f ps → n < length ps → p ≡ get_or ps n p →
    copies_fit before set (copy_of Standby p (cond (active p.status) p.terms.lateness (get_or lates n 0))) g f p ≡ pair_fits before ps g f p
pair_fits_is before ps lates set g f n p figures gathered lt read =
    let late : get_or lates n 0 ≡ passive_late before ps p = ap (λ l. get_or l n 0) figures ∙ map_at (passive_late before ps) ps n p lt read in
    let whole : set ≡ loss before ps g f = gathered ∙ ap (λ l. loss_with l g f ps) figures ∙ loss_is before ps ps g f in
    ap (λ s. copies_fit before s (copy_of Standby p (cond (active p.status) p.terms.lateness (get_or lates n 0))) g f p) whole
    ∙ ap (λ l. copies_fit before (loss before ps g f) (copy_of Standby p (cond (active p.status) p.terms.lateness l)) g f p) late

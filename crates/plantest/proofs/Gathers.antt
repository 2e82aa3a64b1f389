-- Loss sets that are gathered with the latenesses given.
use Rattle.std.proofs.Common.{◌≡◌, ℕ, Bool, true, false, cond, not, ◌&&◌, eqb, List, [], ◌∷◌, ◌++◌, ◌⊎◌, map, refl, ap, ◌∙◌, ⊎_elim}
use Rattle.rack.specs.declared.placement.Placement.{Placement}
use Rattle.rack.specs.declared.placement.Status.{Status}
use Rattle.rack.specs.declared.placement.Status.TheVariants.{Passive, Active}
use Rattle.figures.specs.declared.copies.Role.TheVariants.{Standby}
use Rattle.rack.specs.Plan.{active}
use Rattle.rack.specs.Sets.{copy_of, gather, quiet_part, passive_late, standby_copy, loss_part}
use Rattle.terms.specs.declared.terms.Terms.{Terms}
use Rattle.plantest.specs.Parts.{loss_with, passive_part}

-- where the placements or the latenesses end, the loss set does
pub loss_end : (lates : List ℕ) (g f : ℕ) (ps : List Placement) → (ps ≡ []) ⊎ (lates ≡ []) → loss_with lates g f ps ≡ []
loss_end lates g f ps ended = ⊎_elim (λ e. ap (loss_with lates g f) e ∙ no_job lates) (λ e. ap (λ l. loss_with l g f ps) e) ended
  where
    no_job : (lates : List ℕ) → loss_with lates g f [] ≡ []
    no_job [] = refl
    no_job (late ∷ lates) = refl

-- with the quiet figures as latenesses it is the loss set
pub loss_is : (before : Terms → Terms → Bool) (all ps : List Placement) (g f : ℕ) → loss_with (map (passive_late before all) ps) g f ps ≡ gather (loss_part before all g f) ps
loss_is before all [] g f = refl
loss_is before all (p ∷ ps) g f =
    ap (λ z. (quiet_part g p ++ z) ++ loss_with (map (passive_late before all) ps) g f ps) (same p)
    ∙ ap (λ z. loss_part before all g f p ++ z) (loss_is before all ps g f)
  where
    by_status : (s : Status) (p : Placement) (a b : Bool) (l : ℕ) → cond (a && (not (active s) && b)) (copy_of Standby p l ∷ []) [] ≡ cond (a && (not (active s) && b)) (copy_of Standby p (cond (active s) p.terms.lateness l) ∷ []) []
    by_status Passive p a b l = refl
    by_status Active p true b l = refl
    by_status Active p false b l = refl

    same : (p : Placement) → passive_part (passive_late before all p) g f p ≡ cond (eqb p.standby g && (not (active p.status) && eqb p.primary f)) (standby_copy before all p ∷ []) []
    same p = by_status p.status p (eqb p.standby g) (eqb p.primary f) (passive_late before all p)

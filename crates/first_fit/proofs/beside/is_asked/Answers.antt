use Rattle.std.proofs.Common.{◌≡◌, ℕ, false, ◌&&◌, ◌||◌, not, eqb, List, [], ◌∷◌, sym, refl, ap, ◌∙◌}
use Rattle.std.proofs.lemmas.Bool.{and_right, or_from}
use Rattle.rack.specs.declared.placement.Placement.{Placement}
use Rattle.rack.specs.Plan.{active}
use Rattle.first_fit.specs.Beside.{any_of, asks, changed}
use Rattle.first_fit.proofs.beside.is_asked.Goals as goal

-- where neither quiet set has changed, no placement asks
none_asks : (g f : ℕ) (ps : List Placement) → any_of (asks false false g f) ps ≡ false
none_asks g f [] = refl
none_asks g f (p ∷ ps) =
    or_from (asks false false g f p) (any_of (asks false false g f) ps)
    (and_right (eqb p.standby g && eqb p.primary f) (false || (false && not (active p.status))) refl) (none_asks g f ps)

pub returns-then-not-there : goal.returns-then-not-there
returns-then-not-there c =
    let x = c.args.x.now in
    let ps = c.args.placements.now in
    let g = c.args.g in
    let f = c.args.f in
    sym
    (ap (λ h. any_of (asks h (changed x f) g f) ps) (sym c.is_changed-here.ensures ∙ c.if-not-here.true)
    ∙ ap (λ t. any_of (asks false t g f) ps) (sym c.is_changed-there.ensures ∙ c.if-not-there.true)
    ∙ none_asks g f ps)

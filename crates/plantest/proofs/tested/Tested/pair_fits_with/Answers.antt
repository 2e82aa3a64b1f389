use Rattle.std.proofs.Common.{rules, ◌≡◌, ℕ, ap, ◌∙◌}
use Rattle.std.proofs.lemmas.Iterator.{YieldsList-from_slice, YieldsList-from_zip}
use Rattle.std.proofs.lemmas.Iterator.Search.{all_from_yields_List}
use Rattle.rack.specs.declared.placement.Placement.{Placement}
use Rattle.plantest.specs.Parts.{loss_with}
use Rattle.plantest.specs.Sweep.{all_fit, late_fits}
use Rattle.plantest.proofs.Sweeps.{all_fit_zip}
use Rattle.plantest.proofs.tested.Tested.pair_fits_with.Goals as goal

pub returns : goal.returns
returns g c =
    let b = g.R.Precedence.before c.args.self.now.rule.now in
    let ps = c.args.self.now.placements.now in
    let lates = c.args.lates.now in
    let set = c.as_slice-set.result.now in
    let gathered : set ≡ loss_with lates c.args.g c.args.f ps = c.as_slice-set.ensures ∙ c.gather_loss.ensures in
    all_from_yields_List (λ (t : Placement × ℕ). late_fits b set c.args.g c.args.f t.1 t.0) c.all.new.self _ c.all.result c.all.ensures.ran
    (YieldsList-from_zip (YieldsList-from_slice ps cc) (YieldsList-from_slice lates cc)) (λ x r q k. search (rules, k))
    ∙ all_fit_zip b set c.args.g c.args.f lates ps
    ∙ ap (λ z. all_fit b z c.args.g c.args.f lates ps) gathered

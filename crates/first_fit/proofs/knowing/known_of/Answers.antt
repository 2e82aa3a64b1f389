use Rattle.std.proofs.Common.{◌≡◌, ◌≤◌, length, vec_items, vec_len, sym, ap, ◌∙◌, arith}
use Rattle.std.specs.List.{insert}
use Rattle.rack.specs.declared.placement.Status.TheVariants.{Passive}
use Rattle.roster.specs.Changes.{with_job}
use Rattle.plantest.proofs.Sweeps.{map_length}
use Rattle.first_fit.specs.Choices.{placement_of}
use Rattle.first_fit.proofs.Knows.{ready_beside}
use Rattle.first_fit.proofs.knowing.known_of.Goals as goal

pub returns : goal.returns
returns g c =
    let r = c.args.roster.now in
    let ps = vec_items r.placements in
    let p = placement_of c.args.terms 0 0 Passive in
    let i = c.place_for-i.result in
    let here = c.placements.ensures in
    let within : i ≤ length ps = omega (arith, c.place_for-i.ensures.within, ap length here) in
    let known = c.all_lates.new.known.held in
    let count : length (vec_items known) ≡ length ps = ap length c.all_lates.ensures.figures ∙ map_length _ ps in
    let put = ap (λ l. insert l i p) (sym here) ∙ c.place_for-i.ensures.there ∙ ap (with_job p) here in
    let is = c.as_slice.ensures ∙ c.free_place.ensures ∙ ap (λ l. insert l i 0) c.all_lates.ensures.figures in
    ready_beside (g.R.Precedence.before c.args.rule.now) r.machines ps p i c.as_slice.result.now c.requires within put is

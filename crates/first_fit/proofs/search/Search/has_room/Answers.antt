use Rattle.std.proofs.Common.{List, vec_items, sym, ap, ◌∙◌}
use Rattle.rack.specs.declared.placement.Placement.{Placement}
use Rattle.rack.specs.declared.placement.Status.TheVariants.{Passive}
use Rattle.rack.specs.Test.{all_of}
use Rattle.first_fit.specs.Choices.{placement_of}
use Rattle.first_fit.specs.Room.{quiet_on}
use Rattle.first_fit.proofs.Tries.{taken_back}
use Rattle.first_fit.proofs.Rooms.{no_room}
use Rattle.first_fit.proofs.search.Search.has_room.Goals as goal

pub returns-clause-none : goal.returns-clause-none
returns-clause-none g c =
    let b = g.R.Precedence.before c.args.self.now.rule.now in
    let r = c.args.roster.now in
    λ missing.
    no_room b r.machines (vec_items r.placements) c.args.self.now.terms c.args.primary c.if-primary-eq0.standby Passive
    (ap (λ (qs : List Placement). all_of (quiet_on b qs c.args.primary) qs) (sym c.if-not-insert.ensures.items) ∙ sym c.all_quiet_on-quiet.ensures ∙ missing)

pub returns-clause-jobs : goal.returns-clause-jobs
returns-clause-jobs g c =
    let r = c.args.roster.now in
    let p = placement_of c.args.self.now.terms c.args.primary c.if-primary-eq0.standby Passive in
    taken_back r.machines p _ _ _ (sym c.if-not-insert.ensures.test) c.if-not-insert.ensures.items c.take_back.ensures.jobs

-- A roster that passes the test is a safe plan.
use Rattle.std.proofs.Common.{◌≡◌, Bool, true, vec_items, arith}
use Rattle.terms.specs.declared.terms.Terms.{Terms}
use Rattle.precedence.specs.Laws.{Laws}
use Rattle.rack.specs.Test.{passes}
use Rattle.rack.proofs.Promise.{covered}
use Rattle.rack.proofs.Parts.{fewer_pass}
use Rattle.rack.proofs.Tested.{passes_means}
use Rattle.roster.specs.declared.roster.Roster.{Roster}
use Rattle.roster.proofs.Ordered.{roster_arranged}
use Rattle.plantest.specs.Verdicts.{Safe}

pub safe_so :
    (before : Terms → Terms → Bool) → Laws before → (r : Roster) → passes before r.machines (vec_items r.placements) ≡ true →
    Safe before r.machines (vec_items r.placements)
safe_so before laws r tested =
    let m = r.machines in
    let ps = vec_items r.placements in
    let pass = passes_means before m ps tested in
    let arranged = roster_arranged m ps r.rising_numbers r.on_the_rack in
    record {
      plan = record { from_two = r.sized.0; to_sixteen = r.sized.1; few = omega (arith, r.few, r.placements.ok.0); arranged = arranged };
      passes = pass;
      covered = covered before laws m ps arranged pass;
      fewer = fewer_pass before m ps pass;
    }

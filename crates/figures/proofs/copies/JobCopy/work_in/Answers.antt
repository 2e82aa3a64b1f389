use Rattle.std.proofs.Common.{◌+◌, ◌-◌, ◌*◌, ◌≤◌, mul-le-mul, div-le_self, arith, rules}
use Rattle.figures.proofs.copies.JobCopy.work_in.Goals as goal

work_small : (c : goal.After-releases) → c.from.result * c.releases.result ≤ 5000000000000000
work_small c =
    let copy = c.args.self.now in
    let q : c.releases.result ≤ 5000000000 = omega (arith, div-le_self (c.args.x + copy.lateness + (copy.terms.period - 1)) copy.terms.period) in
    let r : c.from.result ≤ 1000000 = omega arith in
    mul-le-mul r q

pub overflow_mul-result : goal.overflow_mul-result
overflow_mul-result c = let small = work_small c in search rules

pub returns : goal.returns
returns c = record { value = cc; small = work_small c }

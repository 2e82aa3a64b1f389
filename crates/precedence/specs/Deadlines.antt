-- The smaller deadline goes first, then the smaller number.
use Rattle.std.specs.Prelude.{Bool}
use Rattle.terms.specs.declared.terms.Terms.{Terms}
use Rattle.precedence.specs.Keys.{key_before}
use Rattle.precedence.specs.declared.deadline.Deadline.{Deadline}

abbrev pub deadline_before : Deadline → Terms → Terms → Bool
deadline_before rule a b = key_before a.deadline a.number b.deadline b.number

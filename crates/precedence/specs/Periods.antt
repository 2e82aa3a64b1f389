-- The smaller period goes first, then the smaller number.
use Rattle.std.specs.Prelude.{Bool}
use Rattle.terms.specs.declared.terms.Terms.{Terms}
use Rattle.precedence.specs.Keys.{key_before}
use Rattle.precedence.specs.declared.period.Period.{Period}

abbrev pub period_before : Period → Terms → Terms → Bool
period_before rule a b = key_before a.period a.number b.period b.number

-- A status by its number.
use Rattle.std.specs.Prelude.{◌≡◌, ℕ, ◌<◌, List, Result, MatchResult, codes}
use Rattle.rack.specs.declared.placement.Status.{Status}
use Rattle.rack.specs.declared.placement.Status.TheVariants.{Passive, Active}
use Rattle.rack.specs.declared.status.UnknownStatus.{UnknownStatus}

-- 0 passive, 1 active
abbrev pub status_number : Status → ℕ
status_number Passive = 0
status_number Active = 1

-- the result is the status with this number, or an error where no status has it
abbrev pub Numbered : ℕ → Result Status UnknownStatus → Type 0
Numbered n r = MatchResult r (λ s. status_number s ≡ n) (λ e. 1 < n)

-- what a standby of this status does while nothing has stopped
abbrev pub status_text : Status → List ℕ
status_text Passive = codes "asleep"
status_text Active = codes "running along"

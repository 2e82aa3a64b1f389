-- What the programs print of an answer.
use Rattle.std.specs.Prelude.{ℕ, List, ◌++◌, codes, decimal}
use Rattle.rack.specs.declared.placement.Status.{Status}
use Rattle.rack.specs.StatusNumbers.{status_text}

-- where a job's copies stand
abbrev pub standing_text : ℕ → ℕ → Status → List ℕ
standing_text primary standby status =
    codes "primary on machine " ++ (decimal primary ++ (codes ", standby " ++ (status_text status ++ (codes " on machine " ++ decimal standby))))

-- a job's three figures
abbrev pub figures_text : ℕ → ℕ → ℕ → List ℕ
figures_text quiet largest standby =
    codes "quiet " ++ (decimal quiet ++ (codes ", at most " ++ (decimal largest ++ (codes " when another machine stops, standby " ++ decimal standby))))

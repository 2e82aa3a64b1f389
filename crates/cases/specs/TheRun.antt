-- The run that the rows of a day compute is the one run of that day.
use Rattle.std.specs.Prelude.{◌≡◌, ℕ, Bool, List}
use Rattle.terms.specs.declared.terms.Terms.{Terms}
use Rattle.precedence.specs.Laws.{Laws}
use Rattle.rack.specs.declared.placement.Placement.{Placement}
use Rattle.rack.specs.Plan.{Arranged}
use Rattle.rack.specs.Day.{Day, Stop}
use Rattle.rack.specs.Run.{Run, Keeps}
use Rattle.rack.specs.Played.{played}

abbrev pub PlayedIsTheRun : Type 0
PlayedIsTheRun =
    (before : Terms → Terms → Bool) → Laws before → (m : ℕ) (ps : List Placement) → Arranged m ps → (day : Day) (stop : Stop) →
    Keeps before ps day stop (played before m ps day stop)
    × ((run : Run) → Keeps before ps day stop run → (g t : ℕ) → run g t ≡ played before m ps day stop g t)

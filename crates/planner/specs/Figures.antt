-- The three figures that a planned job is answered.
use Rattle.std.specs.Prelude.{ℕ, Bool, List, Some, None, Ok, Err, Option, Result}
use Rattle.terms.specs.declared.terms.Terms.{Terms}
use Rattle.terms.specs.declared.refusal.Refusal.{Refusal}
use Rattle.terms.specs.declared.refusal.Refusal.TheVariants.{Unknown}
use Rattle.rack.specs.declared.placement.Placement.{Placement}
use Rattle.plantest.specs.JobFigures.{three_figures}
use Rattle.roster.specs.Changes.{find}

abbrev pub figures_found : (Terms → Terms → Bool) → ℕ → List Placement → Option Placement → Result (ℕ × ℕ × ℕ) Refusal
figures_found before m ps None = Err Unknown
figures_found before m ps (Some p) = Ok (three_figures before m ps p)

abbrev pub figures_answer : (Terms → Terms → Bool) → ℕ → List Placement → ℕ → Result (ℕ × ℕ × ℕ) Refusal
figures_answer before m ps n = figures_found before m ps (find n ps)

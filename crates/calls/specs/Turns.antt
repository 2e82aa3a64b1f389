-- The sequence in which place tries the choices for a job, and the first of them that passes.
use Rattle.std.specs.Prelude.{◌≡◌, ℕ, cond, List, [], ◌∷◌, ◌++◌, ◌==◌}
use Rattle.rack.specs.declared.placement.Status.{Status}
use Rattle.rack.specs.declared.placement.Status.TheVariants.{Passive, Active}
use Rattle.rack.specs.Plan.{In}
use Rattle.first_fit.specs.Choices.{Choice}

-- one primary and one status, with each other machine as standby in turn
abbrev pub standbys : ℕ → Status → List ℕ → List Choice
standbys p status [] = []
standbys p status (b ∷ bs) = cond (b == p) (standbys p status bs) ((p, b, status) ∷ standbys p status bs)

-- these primaries in turn, each passive and then active
abbrev pub with_primaries : List ℕ → List ℕ → List Choice
with_primaries [] turns = []
with_primaries (p ∷ ps) turns = standbys p Passive turns ++ (standbys p Active turns ++ with_primaries ps turns)

-- all choices, by the machines in their turns
abbrev pub candidates : List ℕ → List Choice
candidates turns = with_primaries turns turns

-- c passes, and none that stands before it in the sequence does
pub record First (Pass : Choice → Type 0) (all : List Choice) (c : Choice) : Type 0 where
  pub earlier : List Choice
  pub later : List Choice
  pub parts : all ≡ earlier ++ c ∷ later
  pub passes : Pass c
  pub none_earlier : (e : Choice) → In e earlier → Pass e → ⊥

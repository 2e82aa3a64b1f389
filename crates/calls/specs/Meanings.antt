-- What place, pin, withdraw and figures mean of a plan, by the numbers of their answers.
use Rattle.std.specs.Prelude.{◌≡◌, ℕ, ◌<◌, ◌≤◌, Bool, ◌⊎◌, List, length, Some, ◌≢◌}
use Rattle.terms.specs.declared.draft.Draft.{Draft}
use Rattle.terms.specs.declared.terms.Terms.{Terms}
use Rattle.terms.specs.Making.{Of}
use Rattle.rack.specs.declared.placement.Placement.{Placement}
use Rattle.rack.specs.declared.placement.Status.{Status}
use Rattle.rack.specs.Plan.{In, Placed, number}
use Rattle.rack.specs.Sets.{quiet_figure}
use Rattle.rack.specs.Test.{Passes, loss_figure, standby_figure}
use Rattle.roster.specs.Changes.{with_job}
use Rattle.roster.specs.Loads.{loads}
use Rattle.first_fit.specs.Choices.{Choice, placement_of}
use Rattle.planner.specs.Answers.{status_number}
use Rattle.planner.specs.Refused.{NoChoice, NoneBesideMore}
use Rattle.calls.specs.Turns.{candidates, First}
use Rattle.calls.specs.Calls.{State, state}

-- a place that is not refused with 2, 3 or 4: its terms are lawful, its number is new, and there is room for a job
pub record Admissible (jobs : List Placement) (d : Draft) (t : Terms) : Type 0 where
  pub terms : Of d t
  pub new : (p : Placement) → In p jobs → number p ≢ t.number
  pub room : length jobs < 96

-- a place is answered with 5 exactly when it is admissible and no choice of two machines and a status passes beside
-- the placements then standing; then none passes beside those and any further ones either. All other admissible ones are accepted
abbrev pub Judged : (Terms → Terms → Bool) → State → Draft → ℕ → Type 0
Judged before s d n =
    (n ≡ 5 → (t : Terms) × Admissible s.jobs d t × NoChoice before s.machines s.jobs t × NoneBesideMore before s.machines s.jobs t)
    × ((t : Terms) → Admissible s.jobs d t → NoChoice before s.machines s.jobs t → n ≡ 5)
    × ((t : Terms) → Admissible s.jobs d t → (n ≡ 0) ⊎ (n ≡ 5))

-- a place that is answered with a choice is admissible, that choice is the first that passes, in the order's turns under
-- the loads then standing, and the job so placed is all that the call adds to the plan
pub record Placing (before : Terms → Terms → Bool) (turns : ℕ → List ℕ → List ℕ) (s : State) (d : Draft) (c : Choice) (next : State) : Type 0 where
  pub terms : Terms
  pub admissible : Admissible s.jobs d terms
  pub first :
      First (λ e. Passes before s.machines (with_job (placement_of terms e.0 e.1 e.2) s.jobs))
      (candidates (turns s.machines (loads s.jobs))) c
  pub then : next ≡ state s.machines (with_job (placement_of terms c.0 c.1 c.2) s.jobs) s.out

-- a candidate that a pin gives by its numbers: admissible, a status, two different machines of the rack, and its plan passes
pub record Fitting (before : Terms → Terms → Bool) (s : State) (d : Draft) (p b n : ℕ) (t : Terms) (status : Status) : Type 0 where
  pub admissible : Admissible s.jobs d t
  pub numbered : n ≡ status_number status
  pub machines : Placed s.machines (placement_of t p b status)
  pub passes : Passes before s.machines (with_job (placement_of t p b status) s.jobs)

-- a pin is accepted exactly when its candidate is such, and then adds just that
abbrev pub Pinning : (Terms → Terms → Bool) → State → Draft → ℕ → ℕ → ℕ → ℕ → State → Type 0
Pinning before s d p b n k next =
    (k ≡ 0 → (t : Terms) × (status : Status) × Fitting before s d p b n t status
    × (next ≡ state s.machines (with_job (placement_of t p b status) s.jobs) s.out))
    × ((t : Terms) (status : Status) → Fitting before s d p b n t status → k ≡ 0)

-- a withdrawal leaves exactly the other jobs as they were, and is refused with 6 exactly when there is no such job
pub record Withdrawing (s : State) (n k : ℕ) (next : State) : Type 0 where
  pub machines : next.machines ≡ s.machines
  pub output : next.out ≡ s.out
  pub only_others : (q : Placement) → In q next.jobs → In q s.jobs × (number q ≢ n)
  pub all_others : (q : Placement) → In q s.jobs → (number q ≢ n) → In q next.jobs
  pub unknown : k ≡ 6 → (q : Placement) → In q s.jobs → number q ≢ n
  pub known : ((q : Placement) → In q s.jobs → number q ≢ n) → k ≡ 6

-- a job's three figures: the quiet figure of its primary, the largest of its primary when another machine stops, and
-- that of its standby; all of them are there
pub record Figured (before : Terms → Terms → Bool) (m : ℕ) (ps : List Placement) (p : Placement) (quiet_one largest standby_one : ℕ) : Type 0 where
  pub quiet : quiet_figure before ps p ≡ Some quiet_one
  pub none_larger :
      (f : ℕ) → f < m → (f ≢ p.primary) → (x : ℕ) × (loss_figure before ps p f ≡ Some x) × (x ≤ largest)
  pub reached : (f : ℕ) × (f < m) × (f ≢ p.primary) × (loss_figure before ps p f ≡ Some largest)
  pub standby : standby_figure before ps p ≡ Some standby_one

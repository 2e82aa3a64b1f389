-- The files of the format's page, by computing.
use Rattle.std.proofs.Common.{◌≡◌, ℕ, List, [], ◌∷◌, map, Some, None, Option, refl}
use Rattle.std.specs.Option.{option_map}
use Rattle.rack.specs.declared.placement.Placement.{Placement}
use Rattle.planfile.specs.Format.{draft_at}
use Rattle.planfile.specs.Jobs.{placement_of, status_byte}
use Rattle.planfile.specs.Judging.{body_of, plan_of}

-- a job's numbers, its machines and its status
abbrev numbers : Placement → List ℕ
numbers p =
    p.terms.number ∷ p.terms.period ∷ p.terms.deadline ∷ p.terms.run ∷ p.terms.standby ∷ p.terms.lateness
    ∷ p.primary ∷ p.standby ∷ status_byte p.status ∷ []

-- the machine count before the jobs
abbrev read : ℕ → List ℕ → Option (List (List ℕ))
read code xs = option_map (λ (plan : ℕ × List Placement). (plan.0 ∷ []) ∷ map numbers plan.1) (plan_of code xs)

-- the empty plan of five machines
no_jobs : read 1 (1 ∷ 1 ∷ 5 ∷ 9 ∷ []) ≡ Some ((5 ∷ []) ∷ [])
unfolding body_of placement_of draft_at
no_jobs = refl

-- and it is none under another rule
other_rule : read 2 (1 ∷ 1 ∷ 5 ∷ 9 ∷ []) ≡ None
unfolding body_of placement_of draft_at
other_rule = refl

-- without an end, and with a byte after it
no_end : read 1 (1 ∷ 1 ∷ 5 ∷ []) ≡ None
unfolding body_of placement_of draft_at
no_end = refl

more : read 1 (1 ∷ 1 ∷ 5 ∷ 9 ∷ 9 ∷ []) ≡ None
unfolding body_of placement_of draft_at
more = refl

-- 29 bytes
one_job : read 1 (1 ∷ 1 ∷ 2 ∷ 2 ∷ 0 ∷ 10 ∷ 0 ∷ 0 ∷ 0 ∷ 10 ∷ 0 ∷ 0 ∷ 0 ∷ 10 ∷ 0 ∷ 0 ∷ 0 ∷ 4 ∷ 0 ∷ 0 ∷ 0 ∷ 4 ∷ 0 ∷ 0 ∷ 0 ∷ 0 ∷ 0 ∷ 0 ∷ 9 ∷ []) ≡ Some ((2 ∷ []) ∷ (10 ∷ 10 ∷ 10 ∷ 4 ∷ 4 ∷ 0 ∷ 0 ∷ 1 ∷ 0 ∷ []) ∷ [])
unfolding body_of placement_of draft_at
one_job = refl

-- the same with a note, 46 bytes
with_note : read 1 (1 ∷ 1 ∷ 2 ∷ 3 ∷ 114 ∷ 111 ∷ 111 ∷ 109 ∷ 32 ∷ 50 ∷ 44 ∷ 32 ∷ 110 ∷ 101 ∷ 119 ∷ 32 ∷ 100 ∷ 105 ∷ 115 ∷ 107 ∷ 2 ∷ 0 ∷ 10 ∷ 0 ∷ 0 ∷ 0 ∷ 10 ∷ 0 ∷ 0 ∷ 0 ∷ 10 ∷ 0 ∷ 0 ∷ 0 ∷ 4 ∷ 0 ∷ 0 ∷ 0 ∷ 4 ∷ 0 ∷ 0 ∷ 0 ∷ 0 ∷ 0 ∷ 0 ∷ 9 ∷ []) ≡ Some ((2 ∷ []) ∷ (10 ∷ 10 ∷ 10 ∷ 4 ∷ 4 ∷ 0 ∷ 0 ∷ 1 ∷ 0 ∷ []) ∷ [])
unfolding body_of placement_of draft_at
with_note = refl

-- 79 bytes
three_jobs : read 1 (1 ∷ 1 ∷ 3 ∷ 2 ∷ 0 ∷ 1 ∷ 0 ∷ 0 ∷ 0 ∷ 20 ∷ 0 ∷ 0 ∷ 0 ∷ 8 ∷ 0 ∷ 0 ∷ 0 ∷ 2 ∷ 0 ∷ 0 ∷ 0 ∷ 4 ∷ 0 ∷ 0 ∷ 0 ∷ 0 ∷ 30 ∷ 0 ∷ 2 ∷ 0 ∷ 2 ∷ 0 ∷ 0 ∷ 0 ∷ 20 ∷ 0 ∷ 0 ∷ 0 ∷ 9 ∷ 0 ∷ 0 ∷ 0 ∷ 4 ∷ 0 ∷ 0 ∷ 0 ∷ 4 ∷ 0 ∷ 0 ∷ 0 ∷ 0 ∷ 15 ∷ 1 ∷ 2 ∷ 0 ∷ 3 ∷ 0 ∷ 0 ∷ 0 ∷ 20 ∷ 0 ∷ 0 ∷ 0 ∷ 11 ∷ 0 ∷ 0 ∷ 0 ∷ 3 ∷ 0 ∷ 0 ∷ 0 ∷ 5 ∷ 0 ∷ 0 ∷ 0 ∷ 0 ∷ 1 ∷ 1 ∷ 9 ∷ []) ≡ Some ((3 ∷ []) ∷ (1 ∷ 20 ∷ 8 ∷ 2 ∷ 4 ∷ 0 ∷ 2 ∷ 0 ∷ 0 ∷ []) ∷ (2 ∷ 20 ∷ 9 ∷ 4 ∷ 4 ∷ 0 ∷ 1 ∷ 0 ∷ 1 ∷ []) ∷ (3 ∷ 20 ∷ 11 ∷ 3 ∷ 5 ∷ 0 ∷ 0 ∷ 2 ∷ 1 ∷ []) ∷ [])
unfolding body_of placement_of draft_at
three_jobs = refl

-- job 1 stands on machine 2
too_few_machines : read 1 (1 ∷ 1 ∷ 2 ∷ 2 ∷ 0 ∷ 1 ∷ 0 ∷ 0 ∷ 0 ∷ 20 ∷ 0 ∷ 0 ∷ 0 ∷ 8 ∷ 0 ∷ 0 ∷ 0 ∷ 2 ∷ 0 ∷ 0 ∷ 0 ∷ 4 ∷ 0 ∷ 0 ∷ 0 ∷ 0 ∷ 30 ∷ 0 ∷ 2 ∷ 0 ∷ 2 ∷ 0 ∷ 0 ∷ 0 ∷ 20 ∷ 0 ∷ 0 ∷ 0 ∷ 9 ∷ 0 ∷ 0 ∷ 0 ∷ 4 ∷ 0 ∷ 0 ∷ 0 ∷ 4 ∷ 0 ∷ 0 ∷ 0 ∷ 0 ∷ 15 ∷ 1 ∷ 2 ∷ 0 ∷ 3 ∷ 0 ∷ 0 ∷ 0 ∷ 20 ∷ 0 ∷ 0 ∷ 0 ∷ 11 ∷ 0 ∷ 0 ∷ 0 ∷ 3 ∷ 0 ∷ 0 ∷ 0 ∷ 5 ∷ 0 ∷ 0 ∷ 0 ∷ 0 ∷ 1 ∷ 1 ∷ 9 ∷ []) ≡ None
unfolding body_of placement_of draft_at
too_few_machines = refl

-- the second job has the first one's number
number_twice : read 1 (1 ∷ 1 ∷ 3 ∷ 2 ∷ 0 ∷ 1 ∷ 0 ∷ 0 ∷ 0 ∷ 20 ∷ 0 ∷ 0 ∷ 0 ∷ 8 ∷ 0 ∷ 0 ∷ 0 ∷ 2 ∷ 0 ∷ 0 ∷ 0 ∷ 4 ∷ 0 ∷ 0 ∷ 0 ∷ 0 ∷ 30 ∷ 0 ∷ 2 ∷ 0 ∷ 1 ∷ 0 ∷ 0 ∷ 0 ∷ 20 ∷ 0 ∷ 0 ∷ 0 ∷ 9 ∷ 0 ∷ 0 ∷ 0 ∷ 4 ∷ 0 ∷ 0 ∷ 0 ∷ 4 ∷ 0 ∷ 0 ∷ 0 ∷ 0 ∷ 15 ∷ 1 ∷ 2 ∷ 0 ∷ 3 ∷ 0 ∷ 0 ∷ 0 ∷ 20 ∷ 0 ∷ 0 ∷ 0 ∷ 11 ∷ 0 ∷ 0 ∷ 0 ∷ 3 ∷ 0 ∷ 0 ∷ 0 ∷ 5 ∷ 0 ∷ 0 ∷ 0 ∷ 0 ∷ 1 ∷ 1 ∷ 9 ∷ []) ≡ None
unfolding body_of placement_of draft_at
number_twice = refl

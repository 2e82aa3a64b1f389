-- The plans that the rows speak of.
use Rattle.std.specs.Prelude.{ℕ, cond, List, [], ◌∷◌, ◌==◌, refl}
use Rattle.rack.specs.declared.placement.Status.{Status}
use Rattle.rack.specs.declared.placement.Status.TheVariants.{Passive, Active}
use Rattle.rack.specs.declared.placement.Placement.{Placement}
use Rattle.rack.specs.Day.{Day, Stop, stops}
use Rattle.cases.specs.Rows.{job, on, full_day}

-- plans 2 to 4: two jobs alike
abbrev pub job_10 : Placement
job_10 = on (job 10 10 10 4 4 0 refl) 0 1 Passive

abbrev pub job_11 : ℕ → ℕ → Status → Placement
job_11 p b status = on (job 11 10 10 4 4 0 refl) p b status

abbrev pub both : Placement → List Placement
both p = job_10 ∷ p ∷ []

-- plan 5: two primaries alone on machine 0, their standbys elsewhere
abbrev pub job_20 : Placement
job_20 = on (job 20 10 10 3 1 7 refl) 0 1 Passive

abbrev pub job_21 : Placement
job_21 = on (job 21 20 20 4 1 0 refl) 0 2 Passive

abbrev pub late_plan : List Placement
late_plan = job_20 ∷ job_21 ∷ []

-- plan 6: the third job with deadline 10, and with 11
abbrev pub job_1 : Placement
job_1 = on (job 1 20 8 2 4 0 refl) 2 0 Passive

abbrev pub job_2 : Placement
job_2 = on (job 2 20 9 4 4 0 refl) 1 0 Active

abbrev pub tight_3 : Placement
tight_3 = on (job 3 20 10 3 5 0 refl) 0 2 Active

abbrev pub loose_3 : Placement
loose_3 = on (job 3 20 11 3 5 0 refl) 0 2 Active

abbrev pub tight_plan : List Placement
tight_plan = job_1 ∷ job_2 ∷ tight_3 ∷ []

abbrev pub loose_plan : List Placement
loose_plan = job_1 ∷ job_2 ∷ loose_3 ∷ []

-- its day: job 1 is first called up at tick 3, and the others at 0; machine 2 stops at tick 4
abbrev pub day_6 : Day
day_6 = full_day (λ n. cond (n == 1) 3 0)

abbrev pub stop_6 : Stop
stop_6 = stops 2 4

-- a job withdrawn: what was active stays active
abbrev pub job_5 : Status → Placement
job_5 status = on (job 5 20 10 2 5 0 refl) 0 1 status

abbrev pub after_withdrawal : Status → List Placement
after_withdrawal status = on (job 4 20 8 4 4 0 refl) 1 2 Passive ∷ job_5 status ∷ []

-- a plan that fails on a machine which the job added last does not touch
abbrev pub far_plan : List Placement
far_plan = on (job 1 2 2 1 1 0 refl) 0 1 Passive ∷ on (job 9 2 1 1 1 0 refl) 2 0 Active ∷ []

-- days on which a call-up is just finished at the stop, and just not
abbrev pub day_0 : Day
day_0 = full_day (λ n. 0)

abbrev pub short_job : Placement
short_job = on (job 1 1 1 1 1 0 refl) 1 0 Passive

abbrev pub long_job : Placement
long_job = on (job 1 2 2 2 2 0 refl) 0 1 Passive

-- the file of plan 2, and the same with a note
abbrev pub job_10_bytes : List ℕ
job_10_bytes =
    2 ∷ 0 ∷ 10 ∷ 0 ∷ 0 ∷ 0 ∷ 10 ∷ 0 ∷ 0 ∷ 0 ∷ 10 ∷ 0 ∷ 0 ∷ 0 ∷ 4 ∷ 0 ∷ 0 ∷ 0 ∷ 4 ∷ 0 ∷ 0 ∷ 0 ∷ 0 ∷ 0 ∷ 0 ∷ 9 ∷ []

abbrev pub file_2 : List ℕ
file_2 = 1 ∷ 1 ∷ 2 ∷ job_10_bytes

abbrev pub noted_2 : List ℕ
noted_2 = 1 ∷ 1 ∷ 2 ∷ 3 ∷ 0 ∷ 1 ∷ 2 ∷ 3 ∷ 4 ∷ 5 ∷ 6 ∷ 7 ∷ 8 ∷ 9 ∷ 10 ∷ 11 ∷ 12 ∷ 13 ∷ 14 ∷ 15 ∷ job_10_bytes

-- the file of plan 6 with a machine count, and a deadline for job 3
abbrev pub file_6 : ℕ → ℕ → List ℕ
file_6 machines deadline =
    1 ∷ 1 ∷ machines
    ∷ 2 ∷ 0 ∷ 1 ∷ 0 ∷ 0 ∷ 0 ∷ 20 ∷ 0 ∷ 0 ∷ 0 ∷ 8 ∷ 0 ∷ 0 ∷ 0 ∷ 2 ∷ 0 ∷ 0 ∷ 0 ∷ 4 ∷ 0 ∷ 0 ∷ 0 ∷ 0 ∷ 30 ∷ 0
    ∷ 2 ∷ 0 ∷ 2 ∷ 0 ∷ 0 ∷ 0 ∷ 20 ∷ 0 ∷ 0 ∷ 0 ∷ 9 ∷ 0 ∷ 0 ∷ 0 ∷ 4 ∷ 0 ∷ 0 ∷ 0 ∷ 4 ∷ 0 ∷ 0 ∷ 0 ∷ 0 ∷ 15 ∷ 1
    ∷ 2 ∷ 0 ∷ 3 ∷ 0 ∷ 0 ∷ 0 ∷ 20 ∷ 0 ∷ 0 ∷ 0 ∷ deadline ∷ 0 ∷ 0 ∷ 0 ∷ 3 ∷ 0 ∷ 0 ∷ 0 ∷ 5 ∷ 0 ∷ 0 ∷ 0 ∷ 0 ∷ 1 ∷ 1
    ∷ 9 ∷ []

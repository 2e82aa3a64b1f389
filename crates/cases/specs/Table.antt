-- The plans worked by hand.
use Rattle.std.specs.Prelude.{Bool, true, false, ◌&&◌, List, [], ◌∷◌, Some, None}
use Rattle.rack.specs.declared.placement.Status.TheVariants.{Passive, Active}
use Rattle.rack.specs.Day.{stops}
use Rattle.calls.specs.declared.call.Call.TheVariants.{Place, Withdraw, Figures, Write}
use Rattle.cases.specs.Rows.{Row, writes, writes_bytes, adopts, adopts_as, pair_is, lists, places, pins, figures_are, withdraws, opens, judged, tested, quiet_is, lost_is, standby_is, tested_short, quiet_without_lateness, tested_no_ties, served, draft, holds}
use Rattle.cases.specs.Rows.{by_primary, by_standby, by_nobody}
use Rattle.cases.specs.Plans.{job_10, job_11, both, job_21, late_plan, job_1, job_2, tight_plan, loose_plan, job_5, after_withdrawal, far_plan}
use Rattle.cases.specs.Plans.{file_2, noted_2, file_6, tight_3, loose_3, day_6, stop_6, day_0, short_job, long_job}

abbrev pub all_hold : List Row → Bool
all_hold [] = true
all_hold (r ∷ rs) = holds r && all_hold rs

abbrev pub worked_plans : List Row
worked_plans =
    -- 1: the limits may be met exactly, and not passed
    judged (draft 1 10 10 4 4 6) true
    ∷ judged (draft 1 10 10 4 4 7) false
    -- 2: one job on two machines; its figures are 4, 4 and 8
    ∷ tested 2 (job_10 ∷ []) true
    ∷ quiet_is (job_10 ∷ []) job_10 (Some 4)
    ∷ lost_is (job_10 ∷ []) job_10 1 (Some 4)
    ∷ standby_is (job_10 ∷ []) job_10 (Some 8)
    -- 3: no choice passes for a second one
    ∷ tested 2 (both (job_11 0 1 Passive)) false
    ∷ tested 2 (both (job_11 0 1 Active)) false
    ∷ tested 2 (both (job_11 1 0 Passive)) false
    ∷ tested 2 (both (job_11 1 0 Active)) false
    -- 4: on three machines the first choice that passes is 0 and 2, active; the figures are 8, 8 and 4
    ∷ tested 3 (both (job_11 0 1 Passive)) false
    ∷ tested 3 (both (job_11 0 2 Passive)) false
    ∷ tested 3 (both (job_11 0 1 Active)) false
    ∷ tested 3 (both (job_11 0 2 Active)) true
    ∷ quiet_is (both (job_11 0 2 Active)) (job_11 0 2 Active) (Some 8)
    ∷ lost_is (both (job_11 0 2 Active)) (job_11 0 2 Active) 1 (Some 8)
    ∷ lost_is (both (job_11 0 2 Active)) (job_11 0 2 Active) 2 (Some 8)
    ∷ standby_is (both (job_11 0 2 Active)) (job_11 0 2 Active) (Some 4)
    -- 5: the lateness of a copy that goes before counts
    ∷ quiet_is late_plan job_21 (Some 10)
    -- 6: the third job fails with deadline 10 and passes with 11
    ∷ tested 3 (job_1 ∷ []) true
    ∷ tested 3 (job_1 ∷ job_2 ∷ []) true
    ∷ tested 3 tight_plan false
    ∷ tested 3 loose_plan true
    -- shortcuts that miss a deadline: other machines' active standbys left out of loss sets
    ∷ tested_short 3 tight_plan true
    -- lateness of copies that go before forgotten
    ∷ quiet_without_lateness late_plan job_21 (Some 7)
    -- equal deadlines taken as no hindrance
    ∷ tested_no_ties 2 (both (job_11 0 1 Passive)) true
    -- a standby made passive after a withdrawal: active it passes with figure 9, passive it does not
    ∷ tested 3 (after_withdrawal Active) true
    ∷ quiet_is (after_withdrawal Active) (job_5 Active) (Some 2)
    ∷ standby_is (after_withdrawal Active) (job_5 Active) (Some 9)
    ∷ tested 3 (after_withdrawal Passive) false
    -- the test looks at every machine
    ∷ tested 3 far_plan false
    -- the day of plan 6: what the shortcut accepts misses a deadline, since machine 0 has begun an active standby's work
    ∷ served 3 tight_plan day_6 stop_6 job_1 0 by_standby
    ∷ served 3 tight_plan day_6 stop_6 job_2 0 by_primary
    ∷ served 3 tight_plan day_6 stop_6 tight_3 0 by_nobody
    ∷ served 3 loose_plan day_6 stop_6 loose_3 0 by_primary
    -- a call-up that is finished exactly at the stop, and the next; one that is begun again at the stop ends late, and so does the next
    ∷ served 2 (short_job ∷ []) day_0 (stops 1 1) short_job 0 by_primary
    ∷ served 2 (short_job ∷ []) day_0 (stops 1 1) short_job 1 by_standby
    ∷ served 2 (long_job ∷ []) day_0 (stops 0 1) long_job 0 by_nobody
    ∷ served 2 (long_job ∷ []) day_0 (stops 0 1) long_job 1 by_nobody
    -- 2 to 4 as calls: place, figures, and a refusal for want of machines
    ∷ places 2 [] (draft 10 10 10 4 4 0) (0, 0, 1, 0)
    ∷ figures_are 2 (job_10 ∷ []) 10 (0, 4, 4, 8)
    ∷ places 2 (job_10 ∷ []) (draft 11 10 10 4 4 0) (5, 0, 0, 0)
    ∷ places 3 (job_10 ∷ []) (draft 11 10 10 4 4 0) (0, 0, 2, 1)
    ∷ figures_are 3 (both (job_11 0 2 Active)) 11 (0, 8, 8, 4)
    -- 6 as calls: the third pin is refused with deadline 10 and kept with 11
    ∷ pins 3 [] (draft 1 20 8 2 4 0) 2 0 0 0
    ∷ pins 3 (job_1 ∷ []) (draft 2 20 9 4 4 0) 1 0 1 0
    ∷ pins 3 (job_1 ∷ job_2 ∷ []) (draft 3 20 10 3 5 0) 0 2 1 7
    ∷ pins 3 (job_1 ∷ job_2 ∷ []) (draft 3 20 11 3 5 0) 0 2 1 0
    -- refusals by number
    ∷ opens 17 1
    ∷ opens 258 1
    ∷ places 2 [] (draft 1 10 11 1 1 0) (2, 0, 0, 0)
    ∷ places 2 (job_10 ∷ []) (draft 10 10 10 4 4 0) (3, 0, 0, 0)
    ∷ withdraws [] 7 6
    ∷ withdraws (job_10 ∷ []) 65546 6
    ∷ withdraws (job_10 ∷ []) 10 0
    ∷ pins 2 [] (draft 1 10 10 1 1 0) 1 1 0 7
    ∷ pins 2 [] (draft 1 10 10 1 1 0) 0 2 0 7
    ∷ pins 2 [] (draft 1 10 10 1 1 0) 0 1 2 7
    ∷ []

-- files, pairs and lists of calls
abbrev pub filed_plans : List Row
filed_plans =
    -- 2 as a file of 29 bytes: the later byte of a space of 30 stays, and 28 are too short
    writes (job_10 ∷ []) 29 0
    ∷ writes (job_10 ∷ []) 28 10
    ∷ writes_bytes 2 (job_10 ∷ []) 30
    (1 ∷ 1 ∷ 2 ∷ 2 ∷ 0 ∷ 10 ∷ 0 ∷ 0 ∷ 0 ∷ 10 ∷ 0 ∷ 0 ∷ 0 ∷ 10 ∷ 0 ∷ 0 ∷ 0 ∷ 4 ∷ 0 ∷ 0 ∷ 0 ∷ 4 ∷ 0 ∷ 0 ∷ 0 ∷ 0 ∷ 0 ∷ 0 ∷ 9 ∷ 7 ∷ [])
    ∷ writes_bytes 2 (job_10 ∷ []) 3 (7 ∷ 7 ∷ 7 ∷ [])
    -- it is adopted and written again as it was; with a note, without the note
    ∷ adopts file_2 0
    ∷ adopts_as file_2 file_2
    ∷ adopts noted_2 0
    ∷ adopts_as noted_2 file_2
    -- 6 as files: the plan with deadline 10 fails, that with 11 is taken over, three machines and all
    ∷ adopts (file_6 3 10) 9
    ∷ adopts_as (file_6 3 10) (1 ∷ 1 ∷ 2 ∷ 9 ∷ [])
    ∷ adopts (file_6 3 11) 0
    ∷ adopts_as (file_6 3 11) (file_6 3 11)
    -- no plan files: no bytes, no end, a byte after the end, another code, one machine, job 1 on machine 2 of two
    ∷ adopts [] 8
    ∷ adopts (1 ∷ 1 ∷ 2 ∷ []) 8
    ∷ adopts (1 ∷ 1 ∷ 2 ∷ 9 ∷ 9 ∷ []) 8
    ∷ adopts (1 ∷ 2 ∷ 2 ∷ 9 ∷ []) 8
    ∷ adopts (1 ∷ 1 ∷ 1 ∷ 9 ∷ []) 8
    ∷ adopts (file_6 2 11) 8
    -- sixteen machines and no jobs are a plan
    ∷ adopts (1 ∷ 1 ∷ 16 ∷ 9 ∷ []) 0
    -- 8: pairs
    ∷ pair_is 30 (Some (2, 0))
    ∷ pair_is 15 (Some (1, 0))
    ∷ pair_is 1 (Some (0, 2))
    ∷ pair_is 239 (Some (15, 14))
    ∷ pair_is 240 None
    -- a list of calls: what each answers, refused ones included
    ∷ lists 3
    (Place (draft 10 10 10 4 4 0) ∷ Place (draft 11 10 10 4 4 0) ∷ Figures 11 ∷ Write 0 29 ∷ Withdraw 10 ∷ Withdraw 10 ∷ [])
    ((0 ∷ 0 ∷ 1 ∷ 0 ∷ []) ∷ (0 ∷ 0 ∷ 2 ∷ 1 ∷ []) ∷ (0 ∷ 8 ∷ 8 ∷ 4 ∷ []) ∷ (10 ∷ []) ∷ (0 ∷ []) ∷ (6 ∷ []) ∷ [])
    ∷ []

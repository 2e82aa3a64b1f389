-- The limits that a job's numbers must keep to be terms.
use Rattle.std.specs.Prelude.{◌+◌, ◌≤◌, Bool, ◌&&◌, nat_le}
use Rattle.terms.specs.declared.draft.Draft.{Draft}

pub record Lawful (d : Draft) : Type 0 where
  pub numbered : 1 ≤ d.number
  pub two_bytes : d.number ≤ 65535
  pub runs : 1 ≤ d.run
  pub stands_by : 1 ≤ d.standby
  pub run_fits : d.lateness + d.run ≤ d.deadline
  pub standby_fits : d.lateness + d.standby ≤ d.deadline
  pub due_in_period : d.deadline ≤ d.period
  pub bounded : d.period ≤ 1000000

-- the same limits as a test
abbrev pub lawful : Draft → Bool
lawful d =
    nat_le 1 d.number && (nat_le d.number 65535 && (nat_le 1 d.run && (nat_le 1 d.standby
    && (nat_le (d.lateness + d.run) d.deadline && (nat_le (d.lateness + d.standby) d.deadline
    && (nat_le d.deadline d.period && nat_le d.period 1000000))))))

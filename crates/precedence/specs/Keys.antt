-- The order by a key, and at equal keys by job number.
use Rattle.std.specs.Prelude.{ℕ, Bool, cond, ◌==◌, nat_lt}

abbrev pub key_before : ℕ → ℕ → ℕ → ℕ → Bool
key_before key number other_key other_number = cond (key == other_key) (nat_lt number other_number) (nat_lt key other_key)

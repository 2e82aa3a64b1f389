-- The records of a plan file, as bytes.
use Rattle.std.specs.Prelude.{◌≡◌, ℕ, ◌+◌, ◌*◌, ◌/◌, ◌%◌, ◌^◌, ◌<◌, cond, List, [], ◌∷◌, ◌++◌, length, take, drop, Some, None, Option, ◌==◌, nat_lt, slice_index}
use Rattle.terms.specs.declared.draft.Draft.{Draft}

pub data Rec : Type 0 where
  head : (code machines : ℕ) → Rec
  job : (draft : Draft) (pair status : ℕ) → Rec
  note : (text : List ℕ) → Rec
  end : Rec

-- a number as two bytes, and as four, the highest first
abbrev pub bytes_2 : ℕ → List ℕ
bytes_2 n = n / 256 ∷ n % 256 ∷ []

abbrev pub bytes_4 : ℕ → List ℕ
bytes_4 n = n / 16777216 ∷ n / 65536 % 256 ∷ n / 256 % 256 ∷ n % 256 ∷ []

-- a byte of kind, and the body
abbrev pub encode : Rec → List ℕ
encode (head code machines) = 1 ∷ code ∷ machines ∷ []
encode (job d pair status) =
    2 ∷ (bytes_2 d.number ++ bytes_4 d.period ++ bytes_4 d.deadline ++ bytes_4 d.run ++ bytes_4 d.standby
    ++ bytes_4 d.lateness ++ (pair ∷ status ∷ []))
encode (note text) = 3 ∷ text
encode end = 9 ∷ []

abbrev pub Bytes : List ℕ → Type 0
Bytes [] = Unit {0}
Bytes (x ∷ xs) = (x < 256) × Bytes xs

-- a job's numbers have two, four and one byte, a note 16
pub record JobFits (d : Draft) (q s : ℕ) : Type 0 where
  pub number : d.number < 2 ^ 16
  pub period : d.period < 2 ^ 32
  pub deadline : d.deadline < 2 ^ 32
  pub run : d.run < 2 ^ 32
  pub standby : d.standby < 2 ^ 32
  pub lateness : d.lateness < 2 ^ 32
  pub pair : q < 256
  pub status : s < 256

abbrev pub Fits : Rec → Type 0
Fits (head code machines) = (code < 256) × (machines < 256)
Fits (job d pair status) = JobFits d pair status
Fits (note text) = (length text ≡ 16) × Bytes text
Fits end = Unit {0}

-- the number in the two bytes, and in the four, from place i on
abbrev pub number_2 : List ℕ → ℕ → ℕ
number_2 xs i = slice_index xs i * 256 + slice_index xs (i + 1)

abbrev pub number_4 : List ℕ → ℕ → ℕ
number_4 xs i = slice_index xs i * 16777216 + slice_index xs (i + 1) * 65536 + slice_index xs (i + 2) * 256 + slice_index xs (i + 3)

unfoldable pub draft_at : List ℕ → Draft
draft_at xs =
    record {
      number = number_2 xs 1;
      period = number_4 xs 3;
      deadline = number_4 xs 7;
      run = number_4 xs 11;
      standby = number_4 xs 15;
      lateness = number_4 xs 19;
    }

abbrev pub job_at : List ℕ → Rec
job_at xs = job (draft_at xs) (slice_index xs 23) (slice_index xs 24)

-- the record, if all of its n bytes are there, and the bytes after it
abbrev pub whole : ℕ → List ℕ → Rec → Option (Rec × List ℕ)
whole n xs r = cond (nat_lt (length xs) n) None (Some (r, drop n xs))

-- a record of that kind, where it stands first in the bytes
abbrev pub of_kind : ℕ → List ℕ → Option (Rec × List ℕ)
of_kind kind xs =
    cond (kind == 1) (whole 3 xs (head (slice_index xs 1) (slice_index xs 2)))
    (cond (kind == 2) (whole 25 xs (job_at xs))
    (cond (kind == 3) (whole 17 xs (note (take 16 (drop 1 xs))))
    (cond (kind == 9) (whole 1 xs end) None)))

-- the record that stands first in the bytes, if any
abbrev pub parse_record : List ℕ → Option (Rec × List ℕ)
parse_record xs = cond (length xs == 0) None (of_kind (slice_index xs 0) xs)

-- what was written is read back, whatever follows it
abbrev pub ReadsBack : Type 0
ReadsBack = (r : Rec) (rest : List ℕ) → Fits r → parse_record (encode r ++ rest) ≡ Some (r, rest)

-- what is read was written so
abbrev pub ReadsOnly : Type 0
ReadsOnly = (xs : List ℕ) (r : Rec) (rest : List ℕ) → Bytes xs → parse_record xs ≡ Some (r, rest) → (xs ≡ encode r ++ rest) × Fits r

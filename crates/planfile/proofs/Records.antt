-- What is written is read back, and what is read was written so.
use Rattle.std.proofs.Common.{◌≡◌, ℕ, zero, suc, ◌+◌, ◌<◌, ◌≤◌, List, [], ◌∷◌, ◌++◌, length, get_or, take, drop, Some, sym, ap, ◌∙◌, subst, arith, length-append, length-drop, take-append-drop, length-take, drop-cons}
use lib.Seq.{take-append_seam, drop-append_seam}
use Rattle.std.proofs.lemmas.List.{drop-drop}
use Rattle.std.proofs.lemmas.Bool.{le-ltb, ne_eqb}
use Rattle.std.proofs.lemmas.Bool.Decides.{nat_tests}
use Rattle.terms.specs.declared.draft.Draft.{Draft}
use Rattle.planfile.specs.Format.{Rec, head, job, note, end, encode, Fits, Bytes, parse_record, of_kind, draft_at, job_at, ReadsBack, ReadsOnly, whole}
use Rattle.planfile.proofs.Numbers.{value_2, value_4, digits_2, digits_4}

same_draft :
    (d e : Draft) → e.number ≡ d.number → e.period ≡ d.period → e.deadline ≡ d.deadline → e.run ≡ d.run →
    e.standby ≡ d.standby → e.lateness ≡ d.lateness → e ≡ d
same_draft d e n p l r s j = λ i. record { number = n i; period = p i; deadline = l i; run = r i; standby = s i; lateness = j i }

pub whole_there : (n : ℕ) (xs : List ℕ) (r : Rec) → n ≤ length xs → whole n xs r ≡ Some (r, drop n xs)
whole_there n xs r h = rw (le-ltb (length xs) n h)

begun : (xs : List ℕ) → 0 < length xs → parse_record xs ≡ of_kind (get_or xs 0 0) xs
begun xs h = rw (ne_eqb (length xs) 0 (λ e. omega arith))

pub reads_back : ReadsBack
unfolding draft_at
reads_back (head code machines) rest fits =
    begun (1 ∷ code ∷ machines ∷ rest) (omega arith)
    ∙ whole_there 3 (1 ∷ code ∷ machines ∷ rest) (head code machines) (omega arith)
reads_back (job d pair status) rest fits =
    let xs = encode (job d pair status) ++ rest in
    let same : draft_at xs ≡ d =
    same_draft d (draft_at xs) (value_2 d.number) (value_4 d.period) (value_4 d.deadline) (value_4 d.run)
    (value_4 d.standby) (value_4 d.lateness) in
    begun xs (omega arith) ∙ whole_there 25 xs (job (draft_at xs) pair status) (omega arith)
    ∙ ap (λ (e : Draft). Some (job e pair status, rest)) same
reads_back (note text) rest fits =
    let took : take 16 (text ++ rest) ≡ text = subst (λ (n : ℕ). take n (text ++ rest) ≡ text) fits.0 (take-append_seam text rest) in
    let left : drop 16 (text ++ rest) ≡ rest = subst (λ (n : ℕ). drop n (text ++ rest) ≡ rest) fits.0 (drop-append_seam text rest) in
    begun (3 ∷ (text ++ rest)) (omega arith)
    ∙ whole_there 17 (3 ∷ (text ++ rest)) (note (take 16 (text ++ rest))) (simp length-append (omega arith))
    ∙ rw (took, left)
reads_back end rest fits = begun (9 ∷ rest) (omega arith) ∙ whole_there 1 (9 ∷ rest) end (omega arith)

pub byte_at : (xs : List ℕ) (k : ℕ) → Bytes xs → get_or xs k 0 < 256
byte_at [] k all = omega arith
byte_at (x ∷ xs) zero all = all.0
byte_at (x ∷ xs) (suc k) all = byte_at xs k all.1

-- the n bytes from place i on, one by one
abbrev span : ℕ → ℕ → List ℕ → List ℕ
span zero i xs = []
span (suc n) i xs = get_or xs i 0 ∷ span n (suc i) xs

spanned : (n i : ℕ) (xs : List ℕ) → i + n ≤ length xs → drop i xs ≡ span n i xs ++ drop (i + n) xs
spanned zero i xs h = ap (λ (k : ℕ). drop k xs) (omega arith)
spanned (suc n) i xs h =
    let lt : i < length xs = omega arith in
    let next : drop (suc i) xs ≡ span n (suc i) xs ++ drop (suc i + n) xs = spanned n (suc i) xs (omega arith) in
    let same : suc i + n ≡ i + suc n = omega arith in
    drop-cons xs i 0 lt ∙ ap (λ (ys : List ℕ). get_or xs i 0 ∷ ys) (next ∙ ap (λ (k : ℕ). span n (suc i) xs ++ drop k xs) same)

-- a whole record: its bytes are there, and what was read is it
whole_is :
    (n : ℕ) (xs : List ℕ) (found r : Rec) (rest : List ℕ) → whole n xs found ≡ Some (r, rest) →
    (n ≤ length xs) × (found ≡ r) × (drop n xs ≡ rest)
whole_is n xs found r rest e = grind (arith, nat_tests)

bytes_drop : (n : ℕ) (xs : List ℕ) → Bytes xs → Bytes (drop n xs)
bytes_drop zero xs all = all
bytes_drop (suc n) [] all = tt
bytes_drop (suc n) (x ∷ xs) all = bytes_drop n xs all.1

bytes_take : (n : ℕ) (xs : List ℕ) → Bytes xs → Bytes (take n xs)
bytes_take zero xs all = tt
bytes_take (suc n) [] all = tt
bytes_take (suc n) (x ∷ xs) all = (all.0, bytes_take n xs all.1)

-- the bytes are the record and then the rest
abbrev Stands : List ℕ → Rec → List ℕ → Type 0
Stands xs r rest = (xs ≡ encode r ++ rest) × Fits r

stands_head :
    (xs : List ℕ) → Bytes xs → get_or xs 0 0 ≡ 1 → 3 ≤ length xs →
    Stands xs (head (get_or xs 1 0) (get_or xs 2 0)) (drop 3 xs)
stands_head xs all kind there = (spanned 3 0 xs there ∙ rw kind, (byte_at xs 1 all, byte_at xs 2 all))

stands_end : (xs : List ℕ) → get_or xs 0 0 ≡ 9 → 1 ≤ length xs → Stands xs end (drop 1 xs)
stands_end xs kind there = (spanned 1 0 xs there ∙ rw kind, tt)

stands_note : (xs : List ℕ) → Bytes xs → get_or xs 0 0 ≡ 3 → 17 ≤ length xs → Stands xs (note (take 16 (drop 1 xs))) (drop 17 xs)
stands_note xs all kind there =
    let cut : drop 1 xs ≡ take 16 (drop 1 xs) ++ drop 17 xs =
    sym (take-append-drop 16 (drop 1 xs)) ∙ ap (λ (ys : List ℕ). take 16 (drop 1 xs) ++ ys) (drop-drop 16 1 xs) in
    let first : xs ≡ get_or xs 0 0 ∷ drop 1 xs = spanned 1 0 xs (omega arith) in (
      first ∙ ap (λ (k : ℕ). k ∷ drop 1 xs) kind ∙ ap (λ (ys : List ℕ). 3 ∷ ys) cut,
      (simp (length-take, length-drop) (omega arith), bytes_take 16 (drop 1 xs) (bytes_drop 1 xs all)),
    )

stands_job : (xs : List ℕ) → Bytes xs → get_or xs 0 0 ≡ 2 → 25 ≤ length xs → Stands xs (job_at xs) (drop 25 xs)
unfolding draft_at
stands_job xs all kind there =
    let b = λ (k : ℕ). byte_at xs k all in
    let x = λ (k : ℕ). get_or xs k 0 in
    let number = digits_2 (x 1) (x 2) (b 1) (b 2) in
    let period = digits_4 (x 3) (x 4) (x 5) (x 6) (b 3) (b 4) (b 5) (b 6) in
    let deadline = digits_4 (x 7) (x 8) (x 9) (x 10) (b 7) (b 8) (b 9) (b 10) in
    let run = digits_4 (x 11) (x 12) (x 13) (x 14) (b 11) (b 12) (b 13) (b 14) in
    let standby = digits_4 (x 15) (x 16) (x 17) (x 18) (b 15) (b 16) (b 17) (b 18) in
    let lateness = digits_4 (x 19) (x 20) (x 21) (x 22) (b 19) (b 20) (b 21) (b 22) in
    let same : encode (job_at xs) ≡ span 25 0 xs =
    λ i. sym kind i ∷ (number i ++ period i ++ deadline i ++ run i ++ standby i ++ lateness i ++ (x 23 ∷ x 24 ∷ [])) in (
      spanned 25 0 xs there ∙ ap (λ (ys : List ℕ). ys ++ drop 25 xs) (sym same),
      record {
        number = omega (arith, b 1, b 2);
        period = omega (arith, b 3, b 4, b 5, b 6);
        deadline = omega (arith, b 7, b 8, b 9, b 10);
        run = omega (arith, b 11, b 12, b 13, b 14);
        standby = omega (arith, b 15, b 16, b 17, b 18);
        lateness = omega (arith, b 19, b 20, b 21, b 22);
        pair = b 23;
        status = b 24;
      },
    )

read_so :
    (n : ℕ) (xs : List ℕ) (found r : Rec) (rest : List ℕ) → (n ≤ length xs → Stands xs found (drop n xs)) →
    whole n xs found ≡ Some (r, rest) → Stands xs r rest
read_so n xs found r rest stands e =
    let w = whole_is n xs found r rest e in
    subst (λ (v : List ℕ). Stands xs r v) w.2 (subst (λ (v : Rec). Stands xs v (drop n xs)) w.1 (stands w.0))

-- which kind of record was read
pub by_kind :
    (xs : List ℕ) (r : Rec) (rest : List ℕ) (P : Type 0) → parse_record xs ≡ Some (r, rest) →
    (get_or xs 0 0 ≡ 1 → whole 3 xs (head (get_or xs 1 0) (get_or xs 2 0)) ≡ Some (r, rest) → P) →
    (get_or xs 0 0 ≡ 2 → whole 25 xs (job_at xs) ≡ Some (r, rest) → P) →
    (get_or xs 0 0 ≡ 3 → whole 17 xs (note (take 16 (drop 1 xs))) ≡ Some (r, rest) → P) →
    (get_or xs 0 0 ≡ 9 → whole 1 xs end ≡ Some (r, rest) → P) → P
by_kind xs r rest P e of_head of_job of_note of_end = grind (arith, nat_tests)

pub reads_only : ReadsOnly
reads_only xs r rest all e =
    by_kind xs r rest (Stands xs r rest) e
    (λ k w. read_so 3 xs (head (get_or xs 1 0) (get_or xs 2 0)) r rest (stands_head xs all k) w)
    (λ k w. read_so 25 xs (job_at xs) r rest (stands_job xs all k) w)
    (λ k w. read_so 17 xs (note (take 16 (drop 1 xs))) r rest (stands_note xs all k) w)
    (λ k w. read_so 1 xs end r rest (stands_end xs k) w)

whole_shorter :
    (n : ℕ) (xs : List ℕ) (found r : Rec) (rest : List ℕ) → 0 < n → whole n xs found ≡ Some (r, rest) →
    length rest < length xs
whole_shorter n xs found r rest h e =
    let w = whole_is n xs found r rest e in
    omega (arith, length-drop n xs, ap length w.2, w.0)

-- a record has a byte
pub shorter : (xs : List ℕ) (r : Rec) (rest : List ℕ) → parse_record xs ≡ Some (r, rest) → length rest < length xs
shorter xs r rest e =
    by_kind xs r rest (length rest < length xs) e
    (λ k w. whole_shorter 3 xs (head (get_or xs 1 0) (get_or xs 2 0)) r rest (omega arith) w)
    (λ k w. whole_shorter 25 xs (job_at xs) r rest (omega arith) w)
    (λ k w. whole_shorter 17 xs (note (take 16 (drop 1 xs))) r rest (omega arith) w)
    (λ k w. whole_shorter 1 xs end r rest (omega arith) w)

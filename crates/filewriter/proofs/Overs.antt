-- Bytes written over others, one part after the other, and the jobs' records so written.
use Rattle.std.proofs.Common.{◌≡◌, ℕ, ◌+◌, ◌*◌, ◌<◌, ◌≤◌, List, [], ◌∷◌, ◌++◌, map, length, get_or, take, drop, sym, refl, ap, ◌∙◌, arith}
use Rattle.std.proofs.lemmas.List.{append_assoc, append-nil, drop_at, drop-drop, length-append, length-take-le, map_more, take_at}
use Rattle.rack.specs.declared.placement.Placement.{Placement}
use Rattle.planfile.specs.Format.{Rec, head, end, encode}
use Rattle.planfile.specs.File.{encode_all}
use Rattle.filewriter.specs.Written.{job_record, jobs_of, file_of, file_length, over}

-- what is written after new bytes stands after them
over_over :
    (at : ℕ) (s t d : List ℕ) (k : ℕ) → at ≤ length d → k ≡ at + length s → over k t (over at s d) ≡ over at (s ++ t) d
over_over at s t d k fits is =
    let w = take at d ++ s in
    let rest = drop (at + length s) d in
    let past = drop (at + length (s ++ t)) d in
    let size : length w ≡ k = omega (arith, length-append (take at d) s, length-take-le at d fits, is) in
    let ends : at + length s + length t ≡ at + length (s ++ t) = omega (arith, length-append s t) in
    let apart : over at s d ≡ w ++ rest = sym (append_assoc (take at d) s rest) in
    let back : drop (k + length t) (w ++ rest) ≡ past =
    sym (drop-drop (length t) k (w ++ rest)) ∙ ap (λ (v : List ℕ). drop (length t) v) (drop_at w rest k size)
    ∙ drop-drop (length t) (at + length s) d ∙ ap (λ (n : ℕ). drop n d) ends in
    ap (λ (v : List ℕ). over k t v) apart
    ∙ ap (λ (v : List ℕ). v ++ (t ++ drop (k + length t) (w ++ rest))) (take_at w rest k size)
    ∙ ap (λ (v : List ℕ). w ++ (t ++ v)) back
    ∙ append_assoc (take at d) s (t ++ past)
    ∙ ap (λ (v : List ℕ). take at d ++ v) (sym (append_assoc s t past))

encode_all_append : (xs ys : List Rec) → encode_all (xs ++ ys) ≡ encode_all xs ++ encode_all ys
encode_all_append [] ys = refl
encode_all_append (r ∷ xs) ys =
    ap (λ (v : List ℕ). encode r ++ v) (encode_all_append xs ys) ∙ sym (append_assoc (encode r) (encode_all xs) (encode_all ys))

-- one job more
jobs_more :
    (ps : List Placement) (i : ℕ) (p : Placement) → i < length ps → p ≡ get_or ps i p →
    jobs_of (take (i + 1) ps) ≡ jobs_of (take i ps) ++ encode (job_record p)
jobs_more ps i p h is =
    let here = job_record p in
    ap encode_all (map_more job_record ps i p h ∙ ap (λ (x : Placement). map job_record (take i ps) ++ job_record x ∷ []) (sym is))
    ∙ encode_all_append (map job_record (take i ps)) (here ∷ [])
    ∙ ap (λ (v : List ℕ). jobs_of (take i ps) ++ v) (append-nil (encode here))

length_jobs : (ps : List Placement) → length (jobs_of ps) ≡ 25 * length ps
length_jobs [] = refl
length_jobs (p ∷ ps) = omega (arith, length_jobs ps)

pub length_file : (code m : ℕ) (ps : List Placement) → length (file_of code m ps) ≡ file_length ps
length_file code m ps = omega (arith, length-append (jobs_of ps) (encode end), length_jobs ps)

-- one job's record written after those of the jobs before it
pub over_more :
    (ps : List Placement) (i : ℕ) (p : Placement) (out d new bytes : List ℕ) → i < length ps → p ≡ get_or ps i p → 3 ≤ length d →
    out ≡ over 3 (jobs_of (take i ps)) d → bytes ≡ encode (job_record p) → new ≡ over (3 + 25 * i) bytes out →
    new ≡ over 3 (jobs_of (take (i + 1) ps)) d
over_more ps i p out d new bytes h is room before made put =
    let done = jobs_of (take i ps) in
    let size : 3 + 25 * i ≡ 3 + length done = omega (arith, length_jobs (take i ps), length-take-le i ps (omega arith)) in
    put
    ∙ ap (λ (v : List ℕ). over (3 + 25 * i) v out) made
    ∙ ap (λ (v : List ℕ). over (3 + 25 * i) (encode (job_record p)) v) before
    ∙ over_over 3 done (encode (job_record p)) d (3 + 25 * i) room size
    ∙ ap (λ (v : List ℕ). over 3 v d) (sym (jobs_more ps i p h is))

-- head, jobs and end, each written after the other
pub over_all :
    (code m : ℕ) (ps : List Placement) (d : List ℕ) → 3 ≤ length d →
    over (3 + 25 * length ps) (encode end) (over 3 (jobs_of ps) (over 0 (encode (head code m)) d)) ≡ file_of code m ps ++ drop (file_length ps) d
over_all code m ps d room =
    let top = encode (head code m) in
    let jobs = jobs_of ps in
    let two : over 3 jobs (over 0 top d) ≡ over 0 (top ++ jobs) d = over_over 0 top jobs d 3 (omega arith) refl in
    let size : 3 + 25 * length ps ≡ 0 + length (top ++ jobs) = omega (arith, length_jobs ps) in
    let ends : 0 + length (file_of code m ps) ≡ file_length ps = omega (arith, length_file code m ps) in
    ap (λ (v : List ℕ). over (3 + 25 * length ps) (encode end) v) two
    ∙ over_over 0 (top ++ jobs) (encode end) d (3 + 25 * length ps) (omega arith) size
    ∙ ap (λ (n : ℕ). file_of code m ps ++ drop n d) ends

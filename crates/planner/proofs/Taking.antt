-- Taking over the plan of a file, and what was written taken back.
use Rattle.std.proofs.Common.{◌≡◌, ℕ, suc, ◌<◌, ◌≤◌, Bool, true, false, cond, leb, List, [], ◌∷◌, ◌++◌, length, get_or, take, drop, Some, None, Ok, Err, Option, Result, sym, refl, ap, ◌∙◌, ⊎_elim, w8, Fits}
use lib.Seq.{take-append_seam}
use Rattle.std.proofs.lemmas.Bool.{cases_Bool}
use Rattle.terms.specs.declared.terms.Terms.{Terms}
use Rattle.terms.specs.declared.refusal.Refusal.{Refusal}
use Rattle.terms.specs.declared.refusal.Refusal.TheVariants.{NotAPlan, PlanFails, Short}
use Rattle.rack.specs.declared.placement.Placement.{Placement}
use Rattle.rack.specs.Test.{passes}
use Rattle.rack.proofs.Tested.{passes_means, passes_true}
use Rattle.roster.specs.Rising.{rising, all_placed}
use Rattle.planfile.specs.Format.{Bytes}
use Rattle.planfile.specs.File.{PlanFile}
use Rattle.planfile.specs.Judging.{plan_of}
use Rattle.planfile.proofs.Agrees.{agree}
use Rattle.filewriter.specs.Written.{file_of, file_length}
use Rattle.filewriter.proofs.Returns.{round_trip}
use Rattle.planner.specs.Filed.{AdoptMeans, TakenBack, refused_with, adopted, taken, write_answer, write_bytes}

module _ (before : Terms → Terms → Bool) (code : ℕ) (xs : List ℕ) (m : ℕ) (ps : List Placement) (held : plan_of code xs ≡ Some (m, ps)) (pass : passes before m ps ≡ true) where
  pub adopt_done : adopted before (plan_of code xs) ≡ Ok tt
  adopt_done = ap (adopted before) held ∙ ap (λ b. cond b (Ok tt) (Err PlanFails)) pass

  pub adopt_takes : (old : ℕ × List Placement) → taken before (plan_of code xs) old ≡ (m, ps)
  adopt_takes old = ap (λ f. taken before f old) held ∙ ap (λ b. cond b (m, ps) old) pass

-- what is read of lent bytes is a byte each
pub all_bytes : (xs : List ℕ) → ((i : ℕ) → Fits w8 (get_or xs i 0)) → Bytes xs
all_bytes [] each = tt
all_bytes (x ∷ xs) each = ((each 0).fits, all_bytes xs (λ i. each (suc i)))

module _ (before : Terms → Terms → Bool) (code : ℕ) (xs : List ℕ) (all : Bytes xs) where
  -- bytes that hold no plan are no plan file
  adopt_none :
      (f : Option (ℕ × List Placement)) → plan_of code xs ≡ f → ((m : ℕ) (ps : List Placement) → PlanFile code xs m ps → ⊥) →
      (old : ℕ × List Placement) → (adopted before f ≡ Err NotAPlan) × (taken before f old ≡ old)
  adopt_none None is no' old = (refl, refl)
  adopt_none (Some plan) is no' old = absurd (no' plan.0 plan.1 ((agree code xs plan.0 plan.1 all).1 is))

  adopt_fails :
      (m : ℕ) (ps : List Placement) → PlanFile code xs m ps → passes before m ps ≡ false → (old : ℕ × List Placement) →
      (adopted before (plan_of code xs) ≡ Err PlanFails) × (taken before (plan_of code xs) old ≡ old)
  adopt_fails m ps file fails old =
      let held = (agree code xs m ps all).0 file in (
        ap (adopted before) held ∙ ap (λ b. cond b (Ok tt) (Err PlanFails)) fails,
        ap (λ f. taken before f old) held ∙ ap (λ b. cond b (m, ps) old) fails,
      )

  -- what is computed of the bytes is what adopt means of them
  pub adopt_means :
      (r : Result (Unit {0}) Refusal) (old new : ℕ × List Placement) → r ≡ adopted before (plan_of code xs) →
      new ≡ taken before (plan_of code xs) old → AdoptMeans before code xs (refused_with r) old new
  adopt_means r old new answer plan =
      record {
        takes = λ m ps file pass.
            let held = (agree code xs m ps all).0 file in
            let yes' = passes_true before m ps pass in
            (ap refused_with (answer ∙ adopt_done before code xs m ps held yes'), plan ∙ adopt_takes before code xs m ps held yes' old);
        fails = λ m ps file fails.
            let off : passes before m ps ≡ false = ⊎_elim (λ pass. absurd (fails (passes_means before m ps pass))) (λ off. off) (cases_Bool (passes before m ps)) in
            let both = adopt_fails m ps file off old in
            (ap refused_with (answer ∙ both.0), plan ∙ both.1);
        none = λ no'.
            let both = adopt_none (plan_of code xs) refl no' old in
            (ap refused_with (answer ∙ both.0), plan ∙ both.1);
      }

module _ (before : Terms → Terms → Bool) (code m : ℕ) (ps : List Placement) (small : code < 256) (two : 2 ≤ m) (sixteen : m ≤ 16) (few : length ps ≤ 96) (up : rising ps ≡ true) (on : all_placed m ps ≡ true) where
  -- the file stands at the start of what was written
  file_first : (space : List ℕ) → take (file_length ps) (file_of code m ps ++ drop (file_length ps) space) ≡ file_of code m ps
  file_first space =
      ap (λ n. take n (file_of code m ps ++ drop (file_length ps) space)) (sym (round_trip code m ps small two sixteen few up on).1)
      ∙ take-append_seam (file_of code m ps) (drop (file_length ps) space)

  -- what was written is taken back as the same plan
  pub taken_back : (space : List ℕ) → TakenBack before code m ps (write_answer ps space) (write_bytes code m ps space)
  taken_back space = go (leb (file_length ps) (length space))
    where
      go : (b : Bool) → TakenBack before code m ps (cond b (Ok (file_length ps)) (Err Short)) (cond b (file_of code m ps ++ drop (file_length ps) space) space)
      go false = tt
      go true = λ pass plan.
          let held = ap (plan_of code) (file_first space) ∙ (round_trip code m ps small two sixteen few up on).0 in
          let yes' = passes_true before m ps pass in
          let bytes = take (file_length ps) (file_of code m ps ++ drop (file_length ps) space) in
          (adopt_done before code bytes m ps held yes', adopt_takes before code bytes m ps held yes' plan)

-- A call that is refused changes nothing.
use Rattle.std.proofs.Common.{◌≡◌, ℕ, Bool, false, cond, leb, List, [], ◌∷◌, length, is_some, Ok, Err, Option, Result, refl, ap, ◌∙◌, arith, take-append-drop}
use Rattle.std.proofs.lemmas.List.{drop-drop}
use Rattle.std.proofs.lemmas.Grind.{common_steps}
use Rattle.terms.specs.declared.terms.Terms.{Terms}
use Rattle.terms.specs.declared.refusal.Refusal.{Refusal}
use Rattle.terms.specs.declared.refusal.Refusal.TheVariants.{Unknown, Short}
use Rattle.rack.specs.declared.placement.Placement.{Placement}
use Rattle.roster.specs.Changes.{find, without}
use Rattle.filewriter.specs.Written.{file_length}
use Rattle.planfile.specs.Judging.{plan_of}
use Rattle.first_fit.specs.Choices.{Choice}
use Rattle.planner.specs.Answers.{admitted, place_answer, pin_choice, jobs_with, done}
use Rattle.planner.specs.Filed.{adopted, taken, write_bytes}
use Rattle.calls.specs.declared.call.Call.{Call}
use Rattle.calls.specs.declared.call.Call.TheVariants.{Place, Pin, Withdraw, Adopt, Figures, Write}
use Rattle.calls.specs.Said.{said_placed, said_done, said_written, refusal_number}
use Rattle.calls.specs.Calls.{State, state, plan_in, with_plan, space_at, with_space, answer_of, after}

placing : (ps : List Placement) (a : Result Terms Refusal) (r : Result Choice Refusal) → (refusal_number (said_placed r) ≡ 0 → ⊥) → jobs_with ps a r ≡ ps
placing ps a r refused = grind (arith, common_steps)

pinning : (ps : List Placement) (a : Result Terms Refusal) (r : Result Choice Refusal) → (refusal_number (said_done (done r)) ≡ 0 → ⊥) → jobs_with ps a r ≡ ps
pinning ps a r refused = grind (arith, common_steps)

-- without a job that is not there
without_unknown : (n : ℕ) (ps : List Placement) → is_some (find n ps) ≡ false → without n ps ≡ ps
without_unknown n [] none = refl
without_unknown n (p ∷ ps) none = grind (arith, common_steps, without_unknown n ps)

withdrawing :
    (n : ℕ) (ps : List Placement) (b : Bool) → is_some (find n ps) ≡ b →
    (refusal_number (said_done (cond b (Ok tt) (Err Unknown))) ≡ 0 → ⊥) → without n ps ≡ ps
withdrawing n ps b is refused = grind (arith, common_steps, without_unknown)

adopting :
    (before : Terms → Terms → Bool) (f : Option (ℕ × List Placement)) (old : ℕ × List Placement) →
    (refusal_number (said_done (adopted before f)) ≡ 0 → ⊥) → taken before f old ≡ old
adopting before f old refused = grind (arith, common_steps)

-- the output with its own bytes in a space
same_space : (start size : ℕ) (out : List ℕ) → with_space start size (space_at start size out) out ≡ out
same_space start size out = rw (← drop-drop size start out) (simp take-append-drop)

writing :
    (code m : ℕ) (ps : List Placement) (space : List ℕ) →
    (refusal_number (said_written (cond (leb (file_length ps) (length space)) (Ok (file_length ps)) (Err Short))) ≡ 0 → ⊥) →
    write_bytes code m ps space ≡ space
writing code m ps space refused = grind (arith, common_steps)

module _ (before : Terms → Terms → Bool) (turns : ℕ → List ℕ → List ℕ) (code : ℕ) where
  pub refused_same : (s : State) (c : Call) → (refusal_number (answer_of before turns code s c) ≡ 0 → ⊥) → after before turns code s c ≡ s
  refused_same s (Place d) refused =
      ap (λ (ps : List Placement). state s.machines ps s.out)
      (placing s.jobs (admitted s.jobs d) (place_answer before turns s.machines s.jobs d) refused)
  refused_same s (Pin d p b status) refused =
      ap (λ (ps : List Placement). state s.machines ps s.out)
      (pinning s.jobs (admitted s.jobs d) (pin_choice before s.machines s.jobs d p b status) refused)
  refused_same s (Withdraw n) refused =
      ap (λ (ps : List Placement). state s.machines ps s.out) (withdrawing n s.jobs (is_some (find n s.jobs)) refl refused)
  refused_same s (Adopt bytes) refused =
      ap (with_plan s.out) (adopting before (plan_of code bytes.now) (plan_in s) refused)
  refused_same s (Figures n) refused = refl
  refused_same s (Write start size) refused =
      ap (λ (xs : List ℕ). state s.machines s.jobs xs)
      (ap (λ (xs : List ℕ). with_space start size xs s.out) (writing code s.machines s.jobs (space_at start size s.out) refused)
      ∙ same_space start size s.out)

-- One call more of a list.
use Rattle.std.proofs.Common.{◌≡◌, ℕ, ◌+◌, ◌<◌, Bool, List, [], ◌∷◌, ◌++◌, length, get_or, take, set, sym, refl, ap, ◌∙◌, subst}
use Rattle.std.proofs.lemmas.List.{take_more, take_more_set}
use Rattle.terms.specs.declared.terms.Terms.{Terms}
use Rattle.plantest.specs.Verdicts.{Safe}
use Rattle.calls.specs.declared.call.Call.{Call}
use Rattle.calls.specs.Said.{Answer}
use Rattle.calls.specs.Calls.{State, answer_of, after, after_all, answers_of}
use Rattle.calls.specs.Carrying.{Right, Holds, AllCarried}

module _ (before : Terms → Terms → Bool) (turns : ℕ → List ℕ → List ℕ) (code : ℕ) where
  after_more : (s : State) (cs : List Call) (x : Call) → after_all before turns code s (cs ++ x ∷ []) ≡ after before turns code (after_all before turns code s cs) x
  after_more s [] x = refl
  after_more s (c ∷ cs) x = after_more (after before turns code s c) cs x

  answers_more : (s : State) (cs : List Call) (x : Call) → answers_of before turns code s (cs ++ x ∷ []) ≡ answers_of before turns code s cs ++ answer_of before turns code (after_all before turns code s cs) x ∷ []
  answers_more s [] x = refl
  answers_more s (c ∷ cs) x = ap (λ l. answer_of before turns code s c ∷ l) (answers_more (after before turns code s c) cs x)

  holds_more :
      (s : State) (cs : List Call) (x : Call) → Holds before turns code s cs → Right before turns code (after_all before turns code s cs) x →
      Safe before (after before turns code (after_all before turns code s cs) x).machines (after before turns code (after_all before turns code s cs) x).jobs →
      Holds before turns code s (cs ++ x ∷ [])
  holds_more s [] x so_far here on = (so_far, here, on)
  holds_more s (c ∷ cs) x so_far here on = (so_far.0, so_far.1, holds_more (after before turns code s c) cs x so_far.2 here on)

  -- a list carried out, and one call more that leaves a safe plan
  carried_more :
      (s : State) (cs : List Call) (x : Call) (answers : List Answer) (a : Answer) (now next : State) → AllCarried before turns code s cs answers now →
      a ≡ answer_of before turns code now x → next ≡ after before turns code now x → Right before turns code now x → Safe before next.machines next.jobs →
      AllCarried before turns code s (cs ++ x ∷ []) (answers ++ a ∷ []) next
  carried_more s cs x answers a now next all answered after_it right safe =
      let ended : next ≡ after before turns code (after_all before turns code s cs) x =
      after_it ∙ ap (λ (z : State). after before turns code z x) all.ended in
      record {
        answered =
            ap (λ (l : List Answer). l ++ a ∷ []) all.answered
            ∙ ap (λ (y : Answer). answers_of before turns code s cs ++ y ∷ []) (answered ∙ ap (λ (z : State). answer_of before turns code z x) all.ended)
            ∙ sym (answers_more s cs x);
        ended = ended ∙ sym (after_more s cs x);
        holds =
            holds_more s cs x all.holds (subst (λ (z : State). Right before turns code z x) all.ended right)
            (subst (λ (z : State). Safe before z.machines z.jobs) ended safe);
      }

  -- the calls up to an index carried out, and the one at it, whose answer is stored there
  pub carried_on :
      (s : State) (cs : List Call) (answers : List Answer) (i : ℕ) (d : Call) (a : Answer) (now next : State) → i < length cs → i < length answers →
      AllCarried before turns code s (take i cs) (take i answers) now →
      a ≡ answer_of before turns code now (get_or cs i d) → next ≡ after before turns code now (get_or cs i d) → Right before turns code now (get_or cs i d) →
      Safe before next.machines next.jobs →
      AllCarried before turns code s (take (i + 1) cs) (take (i + 1) (set answers i a)) next
  carried_on s cs answers i d a now next lt room all answered ended right safe =
      rw (take_more cs i d lt, take_more_set answers i a room)
      (carried_more s (take i cs) (get_or cs i d) (take i answers) a now next all answered ended right safe)

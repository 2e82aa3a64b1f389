-- A part of a plan that passes, passes: in it no figure is larger.
use Rattle.std.proofs.Common.{◌≡◌, ℕ, ◌+◌, ◌≤◌, Bool, true, false, cond, not, ◌&&◌, eqb, List, [], ◌∷◌, ◌++◌, is_some, Some, None, Option, unwrap_or, sym, refl, ap, ◌∙◌, inl, inr, ⊎_elim, mul-le-mul, arith}
use Rattle.std.proofs.lemmas.Bool.{both_ways}
use Rattle.terms.specs.declared.terms.Terms.{Terms}
use Rattle.figures.specs.declared.copies.Role.{Role}
use Rattle.figures.specs.declared.copies.Role.TheVariants.{Standby}
use Rattle.figures.specs.declared.copies.JobCopy.{JobCopy}
use Rattle.figures.specs.Demand.{work_in, held_off, all_held_off}
use Rattle.figures.proofs.Demands.{period_some, ceil_mono, cond_mono}
use Rattle.figures.proofs.Shrinks.{figure_shrinks}
use Rattle.rack.specs.declared.placement.Placement.{Placement}
use Rattle.rack.specs.Plan.{In, number, active, Once}
use Rattle.rack.specs.Sets.{copy_of, primary_copy, gather, quiet_part, quiet, quiet_figure, passive_late, standby_late, standby_copy, loss_part, loss}
use Rattle.rack.specs.Test.{loss_figure, standby_figure, Passes}
use Rattle.rack.specs.Fewer.{Part, FewerPass}
use Rattle.rack.proofs.SumLaws.{sum_over}

-- a list without one of its places
abbrev without : (qs : List Placement) (p : Placement) → In p qs → List Placement
without [] p at = []
without (q ∷ qs) p (inl first) = qs
without (q ∷ qs) p (inr later) = q ∷ without qs p later

-- a list weighs what stands at a place and what is left
weigh_without : (w : Placement → ℕ) (qs : List Placement) (p : Placement) (at : In p qs) → sum_over qs w ≡ w p + sum_over (without qs p at) w
weigh_without w [] p at = absurd at
weigh_without w (q ∷ qs) p (inl first) = omega (arith, ap w first)
weigh_without w (q ∷ qs) p (inr later) = omega (arith, weigh_without w qs p later)

-- what has another number is left
in_without :
    (qs : List Placement) (p : Placement) (at : In p qs) (x : Placement) → In x qs → (number x ≡ number p → ⊥) → In x (without qs p at)
in_without [] p at x x_in other = absurd at
in_without (q ∷ qs) p (inl first) x x_in other = ⊎_elim (λ x_first. absurd (other (ap number (x_first ∙ sym first)))) (λ x_later. x_later) x_in
in_without (q ∷ qs) p (inr later) x x_in other =
    ⊎_elim (λ x_first. inl x_first) (λ x_later. inr (in_without qs p later x x_later other)) x_in

-- a part in which no number stands twice weighs no more than the whole
pub weigh_part : (w : Placement → ℕ) (ps qs : List Placement) → Once ps → Part ps qs → sum_over ps w ≤ sum_over qs w
weigh_part w [] qs once part = omega arith
weigh_part w (p ∷ ps) qs once part =
    let at = part p (inl refl) in
    omega (
      arith,
      weigh_without w qs p at,
      weigh_part w ps (without qs p at) once.1 (λ x x_in. in_without qs p at x (part x (inr x_in)) (once.0 x x_in)),
    )

-- where each weighs no more, all weigh no more
pub weigh_less : (v w : Placement → ℕ) (ps : List Placement) → ((p : Placement) → In p ps → v p ≤ w p) → sum_over ps v ≤ sum_over ps w
weigh_less v w [] less = omega arith
weigh_less v w (p ∷ ps) less = omega (arith, less p (inl refl), weigh_less v w ps (λ q at. less q (inr at)))

-- what is some has a value
pub some_value : (r : Option ℕ) → is_some r ≡ true → (f : ℕ) × (r ≡ Some f)
some_value None some = absurd (both_ways false refl some)
some_value (Some f) some = (f, refl)

-- where the one has a value, the other has one that is no larger
abbrev pub Shrinks : Option ℕ → Option ℕ → Type 0
Shrinks r s = (f : ℕ) → r ≡ Some f → (e : ℕ) × (s ≡ Some e) × (e ≤ f)

-- so where the one is some, the other is
pub shrinks_some : (r s : Option ℕ) → Shrinks r s → is_some r ≡ true → is_some s ≡ true
shrinks_some r s shrinks some = let v = some_value r some in ap is_some (shrinks v.0 v.1).1

-- and what stands for the one is no larger than what stands for the other
pub shrinks_value : (r s : Option ℕ) (d : ℕ) → Shrinks r s → is_some r ≡ true → unwrap_or s d ≤ unwrap_or r d
shrinks_value r s d shrinks some =
    let v = some_value r some in
    let u = shrinks v.0 v.1 in
    omega (arith, ap (λ o. unwrap_or o d) v.1, ap (λ o. unwrap_or o d) u.1, u.2)

module _ (before : Terms → Terms → Bool) where
  -- two sets together hold off what each holds off
  pub held_off_both :
      (one other : List JobCopy) (own : JobCopy) (x : ℕ) →
      all_held_off before (one ++ other) own x ≡ all_held_off before one own x + all_held_off before other own x
  held_off_both [] other own x = omega arith
  held_off_both (c ∷ one) other own x = omega (arith, held_off_both one other own x)

  -- what is gathered holds off the sum of the parts
  pub held_off_gather :
      (part : Placement → List JobCopy) (ps : List Placement) (own : JobCopy) (x : ℕ) →
      all_held_off before (gather part ps) own x ≡ sum_over ps (λ p. all_held_off before (part p) own x)
  held_off_gather part [] own x = refl
  held_off_gather part (p ∷ ps) own x = omega (arith, held_off_both (part p) (gather part ps) own x, held_off_gather part ps own x)

  -- how late a copy is does not change by how much it is held off
  pub held_off_lateness :
      (set : List JobCopy) (role : Role) (p : Placement) (a b x : ℕ) →
      all_held_off before set (copy_of role p a) x ≡ all_held_off before set (copy_of role p b) x
  held_off_lateness [] role p a b x = refl
  held_off_lateness (c ∷ set) role p a b x = omega (arith, held_off_lateness set role p a b x)

  -- a copy that is no later holds off no more
  pub later_more :
      (role : Role) (p : Placement) (a b : ℕ) (own : JobCopy) (x : ℕ) → a ≤ b →
      held_off before (copy_of role p a) own x ≤ held_off before (copy_of role p b) own x
  later_more role p a b own x less =
      cond_mono (before p.terms own.terms) (work_in (copy_of role p a) x) (work_in (copy_of role p b) x)
      (mul-le-mul (omega arith) (ceil_mono (x + a) (x + b) p.terms.period (period_some p.terms) (omega arith)))

  -- nor where it stands only on a condition
  pub later_more_if :
      (here : Bool) (role : Role) (p : Placement) (a b : ℕ) (own : JobCopy) (x : ℕ) → a ≤ b →
      all_held_off before (cond here (copy_of role p a ∷ []) []) own x ≤ all_held_off before (cond here (copy_of role p b ∷ []) []) own x
  later_more_if true role p a b own x less = omega (arith, later_more role p a b own x less)
  later_more_if false role p a b own x less = omega arith

  module _ (ps qs : List Placement) (once : Once ps) (part : Part ps qs) where
    -- where each of a part adds no more, the part holds off no more
    pub gather_less :
        (v w : Placement → List JobCopy) (own : JobCopy) (x : ℕ) →
        ((p : Placement) → In p ps → all_held_off before (v p) own x ≤ all_held_off before (w p) own x) →
        all_held_off before (gather v ps) own x ≤ all_held_off before (gather w qs) own x
    gather_less v w own x less =
        let of_v : Placement → ℕ = λ p. all_held_off before (v p) own x in
        let of_w : Placement → ℕ = λ p. all_held_off before (w p) own x in
        omega (
          arith,
          held_off_gather v ps own x,
          held_off_gather w qs own x,
          weigh_less of_v of_w ps less,
          weigh_part of_w ps qs once part,
        )

    -- no quiet figure of a part is larger than that of the whole
    pub quiet_shrinks : (p : Placement) → Shrinks (quiet_figure before qs p) (quiet_figure before ps p)
    quiet_shrinks p f is =
        figure_shrinks before (quiet p.primary ps) (quiet p.primary qs) (primary_copy p) (primary_copy p)
        (λ x. omega (arith, gather_less (quiet_part p.primary) (quiet_part p.primary) (primary_copy p) x (λ q at. omega arith)))
        (omega arith) (omega arith) f is

    module _ (m : ℕ) (pass : Passes before m qs) where
      -- no passive standby of a part is later than in the whole
      pub passive_no_later : (p : Placement) → In p ps → passive_late before ps p ≤ passive_late before qs p
      passive_no_later p at =
          shrinks_value (quiet_figure before qs p) (quiet_figure before ps p) p.terms.deadline (quiet_shrinks p) (pass p (part p at)).quiet

      -- nor is any standby
      pub standby_no_later : (p : Placement) → In p ps → standby_late before ps p ≤ standby_late before qs p
      standby_no_later p at = late_either_way (active p.status) (passive_no_later p at)
        where
          -- active or not
          late_either_way :
              (b : Bool) → passive_late before ps p ≤ passive_late before qs p →
              cond b p.terms.lateness (passive_late before ps p) ≤ cond b p.terms.lateness (passive_late before qs p)
          late_either_way true less = omega arith
          late_either_way false less = less

      -- no loss set of a part holds off more than that of the whole
      pub loss_less :
          (g f : ℕ) (own : JobCopy) (x : ℕ) → all_held_off before (loss before ps g f) own x ≤ all_held_off before (loss before qs g f) own x
      loss_less g f own x =
          gather_less (loss_part before ps g f) (loss_part before qs g f) own x
          (λ p at.
          let here : Bool = eqb p.standby g && (not (active p.status) && eqb p.primary f) in
          omega (
            arith,
            held_off_both (quiet_part g p) (cond here (standby_copy before ps p ∷ []) []) own x,
            held_off_both (quiet_part g p) (cond here (standby_copy before qs p ∷ []) []) own x,
            later_more_if here Standby p (standby_late before ps p) (standby_late before qs p) own x (standby_no_later p at),
          ))

      -- no figure of a primary after a loss is larger in a part
      pub loss_shrinks : (p : Placement) (f : ℕ) → Shrinks (loss_figure before qs p f) (loss_figure before ps p f)
      loss_shrinks p f e is =
          figure_shrinks before (loss before ps p.primary f) (loss before qs p.primary f) (primary_copy p) (primary_copy p)
          (λ x. omega (arith, loss_less p.primary f (primary_copy p) x)) (omega arith) (omega arith) e is

      -- no figure of a standby is larger in a part
      pub standby_shrinks : (p : Placement) → In p ps → Shrinks (standby_figure before qs p) (standby_figure before ps p)
      standby_shrinks p at e is =
          let late_ps : ℕ = standby_late before ps p in
          let late_qs : ℕ = standby_late before qs p in
          figure_shrinks before (loss before ps p.standby p.primary) (loss before qs p.standby p.primary) (standby_copy before ps p)
          (standby_copy before qs p)
          (λ x.
          omega (
            arith,
            loss_less p.standby p.primary (standby_copy before ps p) x,
            held_off_lateness (loss before qs p.standby p.primary) Standby p late_ps late_qs x,
          ))
          (standby_no_later p at) (omega arith) e is

-- the figures of a job in a part of a plan are no larger than in the plan
pub record FiguresShrink (before : Terms → Terms → Bool) (qs ps : List Placement) (p : Placement) : Type 0 where
  pub quiet : Shrinks (quiet_figure before qs p) (quiet_figure before ps p)
  pub lost : (f : ℕ) → Shrinks (loss_figure before qs p f) (loss_figure before ps p f)
  pub standby : Shrinks (standby_figure before qs p) (standby_figure before ps p)

-- of a plan that passes, no figure of a part is larger
pub figures_shrink :
    (before : Terms → Terms → Bool) (m : ℕ) (qs : List Placement) → Passes before m qs →
    (ps : List Placement) → Once ps → Part ps qs → (p : Placement) → In p ps → FiguresShrink before qs ps p
figures_shrink before m qs pass ps once part p at = record {
  quiet = quiet_shrinks before ps qs once part p;
  lost = loss_shrinks before ps qs once part m pass p;
  standby = standby_shrinks before ps qs once part m pass p at;
}

-- a part of a plan that passes, passes
pub fewer_pass : (before : Terms → Terms → Bool) (m : ℕ) (qs : List Placement) → Passes before m qs → FewerPass before m qs
fewer_pass before m qs pass ps once part p at =
    let fit = pass p (part p at) in
    let less = figures_shrink before m qs pass ps once part p at in
    record {
      quiet = shrinks_some (quiet_figure before qs p) (quiet_figure before ps p) less.quiet fit.quiet;
      lost = λ f lt elsewhere. shrinks_some (loss_figure before qs p f) (loss_figure before ps p f) (less.lost f) (fit.lost f lt elsewhere);
      standby = shrinks_some (standby_figure before qs p) (standby_figure before ps p) less.standby fit.standby;
    }

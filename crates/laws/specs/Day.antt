-- Totals that are current stay so, those of any systems, over any list of calls that keep them, accepted and refused, and of calls that observe.
use Rattle.std.specs.Prelude.{ℕ, ◌<◌, ◌≡◌, refl, Bool, true, false, List, ℤ, ◌+ℤ◌, neg_ℤ}
use Rattle.std.proofs.Common.{◌∙◌, ap}
use Rattle.std.proofs.Math.IntN.{+ℤ_comm, -ℤ-+ℤ_cancel}
use Rattle.paper.specs.declared.Keeps.TheVariants.{Totals}
use Rattle.paper.specs.Answer.Cases.{Answer, Answer.Refused, Answer.Idle, Answer.Held, Answer.Moved}
use Rattle.paper.specs.Answer.Cases.{SweepAnswer, SweepAnswer.Fault, SweepAnswer.Swept}
use Rattle.paper.specs.Panel.Input.{Lattice, Call, Choices, Buffers}
use Rattle.paper.specs.Panel.Takes.{keeps_by}
use Rattle.paper.specs.Site.Energy.{energy}
use Rattle.paper.specs.Refusal.Rules.{When}
use Rattle.paper.specs.Answer.Task.{Sweep}
use Rattle.paper.specs.Answer.Totals.{Current, Brought, TotalsAfter, KeepAccepts, KeepAnswers, SweepKeepAnswers}
use Rattle.laws.specs.Observed.{observed_still, sweep_observed_still}

-- one call: before it the spins are xs and the totals ts, after it ys and us. It is a move or a sweep of any mode, form, group and choices that keeps
-- totals, on the lattice g: its sizes, tables and couplings. Pins are no part of it, so each call has its own. To observe keeps none, so each call that
-- observes is one of these, whatever it is lent
pub data Called (g : Lattice) (xs ts ys us : List ℤ) : Type 0 where
  move :
      (c : Call) (p : Choices) (b b' : Buffers) (a : Answer)
      → When (keeps_by Totals c.form) (c.lattice ≡ g)
      → b.spins ≡ xs
      → b'.spins ≡ ys
      → KeepAnswers (keeps_by Totals c.form) c p b ts a b' us
      → Called g xs ts ys us
  sweep :
      (w : Sweep) (b b' : Buffers) (a : SweepAnswer)
      → When (keeps_by Totals w.form) (w.lattice ≡ g)
      → b.spins ≡ xs
      → b'.spins ≡ ys
      → SweepKeepAnswers (keeps_by Totals w.form) w b ts a b' us
      → Called g xs ts ys us

-- any number of them, each lent the spins and the totals that the one before left
pub data Day (g : Lattice) : (xs ts ys us : List ℤ) → Type 0 where
  over : {xs ts : List ℤ} → Day g xs ts xs ts
  first : {xs ts ys us zs vs : List ℤ} → Called g xs ts ys us → Day g ys us zs vs → Day g xs ts zs vs

-- ---- one call
restored : (x y : ℤ) → x +ℤ (y +ℤ neg_ℤ x) ≡ y
restored x y = +ℤ_comm x (y +ℤ neg_ℤ x) ∙ -ℤ-+ℤ_cancel y x

module _ (Which : ℕ → Type 0) (g : Lattice) (inside : (t : ℕ) → Which t → t < g.s) (xs ts ys us : List ℤ) (h : Current Which g xs ts) where
  brought_current : Brought g xs ts ys us → Current Which g ys us
  brought_current p t l =
      p.each t (inside t l)
      ∙ (ap (λ (x : ℤ). x +ℤ (energy g ys t +ℤ neg_ℤ (energy g xs t))) (h t l) ∙ restored (energy g xs t) (energy g ys t))

  left_current : ys ≡ xs → us ≡ ts → Current Which g ys us
  left_current p q = rw (p, q) h

  after_current :
      (keeping : Bool) (l : Lattice)
      → When keeping (l ≡ g)
      → TotalsAfter keeping l xs ts ys us
      → (keeping ≡ false → ys ≡ xs)
      → Current Which g ys us
  after_current true l same p still = brought_current (rw (same refl) at (p.brought refl))
  after_current false l same p still = left_current (still refl) (p.left refl)

module _
    (Which : ℕ → Type 0) (g : Lattice) (inside : (t : ℕ) → Which t → t < g.s) (ts us : List ℤ) (b b' : Buffers)
    (h : Current Which g b.spins ts)
  where
    refused_current : b' ≡ b → us ≡ ts → Current Which g b'.spins us
    refused_current p q = left_current Which g inside b.spins ts b'.spins us h (ap (λ (z : Buffers). z.spins) p) q

    module _ (c : Call) (p : Choices) (same : When (keeps_by Totals c.form) (c.lattice ≡ g)) where
      accepted_current : (a : Answer) → KeepAccepts (keeps_by Totals c.form) c p b ts a b' us → Current Which g b'.spins us
      accepted_current a f =
          after_current Which g inside b.spins ts b'.spins us h (keeps_by Totals c.form) c.lattice same f.totals
          (λ e. observed_still c p e b b' a f.answers)

      move_current : (a : Answer) → KeepAnswers (keeps_by Totals c.form) c p b ts a b' us → Current Which g b'.spins us
      move_current (Refused r) f = refused_current f.kept f.totals_kept
      move_current Idle f = accepted_current Idle f
      move_current Held f = accepted_current Held f
      move_current Moved f = accepted_current Moved f

    module _ (w : Sweep) (same : When (keeps_by Totals w.form) (w.lattice ≡ g)) where
      sweep_current : (a : SweepAnswer) → SweepKeepAnswers (keeps_by Totals w.form) w b ts a b' us → Current Which g b'.spins us
      sweep_current (Fault r) f = refused_current f.kept f.totals_kept
      sweep_current (Swept i m n) f =
          after_current Which g inside b.spins ts b'.spins us h (keeps_by Totals w.form) w.lattice same f.totals
          (λ e. sweep_observed_still w e b b' i m n f.answers)

module _ {Which : ℕ → Type 0} {g : Lattice} (inside : (t : ℕ) → Which t → t < g.s) where
  pub called_current : {xs ts ys us : List ℤ} → Current Which g xs ts → Called g xs ts ys us → Current Which g ys us
  called_current {ts = ts} {us = us} h (Called.move c p b b' a same before after f) =
      rw after at (move_current Which g inside ts us b b' (rw before h) c p same a f)
  called_current {ts = ts} {us = us} h (Called.sweep w b b' a same before after f) =
      rw after at (sweep_current Which g inside ts us b b' (rw before h) w same a f)

  -- ---- the day
  pub totals_stay_current : {xs ts ys us : List ℤ} → Current Which g xs ts → Day g xs ts ys us → Current Which g ys us
  totals_stay_current h Day.over = h
  totals_stay_current h (Day.first x rest) = totals_stay_current (called_current h x) rest

-- Two sweeps over different systems of one panel, each with its own output areas: what is put together from what the tasks of both hold, and that the one is
-- answered and then the other.
use Rattle.std.specs.Prelude.{ℕ, ◌<◌, ◌≡◌, refl, Bool, true, false, List, length, ℤ}
use Rattle.std.proofs.Math.Path.{sym}
use Rattle.std.proofs.Common.{◌∙◌, subst}
use Rattle.lemmas.specs.Bools.{never}
use Rattle.paper.specs.Answer.Cases.{SweepAnswer}
use Rattle.paper.specs.Panel.Input.{Buffers, system, spin}
use Rattle.paper.specs.Refusal.Rule.{Kept}
use Rattle.paper.specs.Refusal.Kept.{valid_of}
use Rattle.paper.specs.Answer.Totals.{total, swept_rules, SweepKeepAnswers}
use Rattle.paper.specs.Answer.Task.{Sweep, tasks, masked, task_call, task_choices, areas}
use Rattle.paper.specs.Answer.Sweep.{sweep_rules, Unmoved}
use Rattle.laws.specs.AnswersLocal.{with_spins}
use Rattle.laws.specs.SweepTasks.{task_valid, named_in}
use Rattle.laws.specs.SameView.{SameOutputs, with_outputs}
use Rattle.laws.specs.KeepDetermined.{SameSweepKept, sweep_keep_determined}
use Rattle.laws.specs.SweepNamedOnly.{ListsOnly}
use Rattle.sweep_tasks.specs.Updating.{swept_kept}
use Rattle.any_order.specs.Tasks.{Holding, Collected}

-- what is put together from what the unmasked tasks of both sweeps hold: the rows and totals in one panel
pub record MergedTwo
    (w x : Sweep) (b d : Buffers) (ts : List ℤ) (held held' : ℕ → Holding) (b' d' : Buffers) (us : List ℤ)
    : Type 0
  where
    pub outputs : Collected w b held b' us
    pub outputs' : Collected x d held' d' us
    pub one_panel : d'.spins ≡ b'.spins
    pub totals_long : length us ≡ length ts
    pub other_rows : (i t : ℕ) → i < w.lattice.n → Unmoved w t → Unmoved x t → spin w.lattice.n b'.spins t i ≡ spin w.lattice.n b.spins t i
    pub other_totals : (t : ℕ) → Unmoved w t → Unmoved x t → total us t ≡ total ts t

-- the sweep w is answered a, and then the sweep x is answered a'; between them the panel has some rows and totals
pub record InTurn
    (keeping : Bool) (w : Sweep) (b : Buffers) (ts : List ℤ) (a : SweepAnswer) (b' : Buffers)
    (keeping' : Bool) (x : Sweep) (d : Buffers) (a' : SweepAnswer) (d' : Buffers) (us : List ℤ)
    : Type 0
  where
    pub rows : List ℤ
    pub totals : List ℤ
    pub first : SweepKeepAnswers keeping w b ts a (with_spins b' rows) totals
    pub second : SweepKeepAnswers keeping' x (with_spins d rows) totals a' d' us

-- ---- a sweep that lists some systems only moves no others
module _ (mine : ℕ → Bool) (w : Sweep) (only : ListsOnly mine w) (keeping : Bool) (b : Buffers) (ts : List ℤ) (v : Kept (swept_rules keeping w b ts)) where
  pub task_mine : (k : ℕ) → k < tasks w → masked w k ≡ false → (y : ℕ) → y < w.members → mine (system (task_call w k) y) ≡ true
  task_mine k h e y hy = only (system (task_call w k) y) (named_in w b sound k h (system (task_call w k) y) (record {
    place = y;
    below = hy;
    is = refl;
    inside = (valid_of (task_call w k) (task_choices w k) (areas w b b.spins k) (task_valid w b sound k h e)).sound.grouped.below y hy;
  }))
    where
      sound : Kept (sweep_rules w b)
      sound = swept_kept keeping w b ts v

  pub unmoved : (t : ℕ) → mine t ≡ false → Unmoved w t
  unmoved t q k y hk e hy same = never (sym q ∙ rw same (task_mine k hk e y hy))

-- ---- whatever the two sweeps, one after the other, answer and leave is this
pub record SameInTurn
    (a : SweepAnswer) (b' : Buffers) (a' : SweepAnswer) (d' : Buffers) (us : List ℤ)
    (f : SweepAnswer) (y : Buffers) (g : SweepAnswer) (z : Buffers) (vs : List ℤ)
    : Type 0
  where
    pub answer : a ≡ f
    pub answer' : a' ≡ g
    pub outputs : SameOutputs b' y
    pub buffers : d' ≡ z
    pub totals : us ≡ vs

pub in_turn_determined :
    (keeping : Bool) (w : Sweep) (b : Buffers) (ts : List ℤ) (a : SweepAnswer) (b' : Buffers) (keeping' : Bool) (x : Sweep) (d : Buffers)
    (a' : SweepAnswer) (d' : Buffers) (us : List ℤ) (f : SweepAnswer) (y : Buffers) (ts₁ : List ℤ) (g : SweepAnswer) (z : Buffers) (vs : List ℤ)
    → InTurn keeping w b ts a b' keeping' x d a' d' us
    → SweepKeepAnswers keeping w b ts f y ts₁
    → SweepKeepAnswers keeping' x (with_spins d y.spins) ts₁ g z vs
    → SameInTurn a b' a' d' us f y g z vs
in_turn_determined keeping w b ts a b' keeping' x d a' d' us f y ts₁ g z vs t p q = record {
  answer = s.answer;
  answer' = r.answer;
  outputs = with_outputs (sym s.buffers);
  buffers = r.buffers;
  totals = r.totals;
}
  where
    s : SameSweepKept a (with_spins b' t.rows) t.totals f y ts₁
    s = sweep_keep_determined keeping w b ts (with_spins b' t.rows) y t.totals ts₁ a f t.first p

    second : SweepKeepAnswers keeping' x (with_spins d y.spins) ts₁ a' d' us
    second =
        subst (λ (us₁ : List ℤ). SweepKeepAnswers keeping' x (with_spins d y.spins) us₁ a' d' us) s.totals
        (subst (λ (u : Buffers). SweepKeepAnswers keeping' x (with_spins d u.spins) t.totals a' d' us) s.buffers t.second)

    r : SameSweepKept a' d' us g z vs
    r = sweep_keep_determined keeping' x (with_spins d y.spins) ts₁ d' z us vs a' g second q

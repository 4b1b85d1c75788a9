-- The rules that an accepted sweep keeps, by name.
use Rattle.std.specs.Prelude.{ℕ, zero, suc, ◌≤◌, ◌<◌, ◌≡◌, refl, Bool, true, false, cond, List, [], ◌∷◌, ◌++◌, get_or}
use Rattle.std.proofs.Common.{sym, arith}
use Rattle.std.proofs.Math.Decide.{ℕ_discrete}
use Rattle.std.specs.Float.{nan}
use Rattle.lemmas.specs.Bools.{never}
use Rattle.paper.specs.Panel.Input.{Buffers}
use Rattle.paper.specs.Panel.Takes.{takes_cuts}
use Rattle.paper.specs.Refusal.Rule.{Rule, Kept}
use Rattle.paper.specs.Refusal.Rules.{When, HoudOfTwo, order_names, Named, Spins, Inverse, Pins, Listed, SmallCouplings, Warm, choice_rules}
use Rattle.paper.specs.Refusal.Kept.{Fit, fit_of, fit_kept}
use Rattle.paper.specs.Refusal.Verdict.{kept_both}
use Rattle.paper.specs.Answer.Task.{Sweep, tasks, masked, task_call, task_choices}
use Rattle.paper.specs.Answer.Sweep.{common, task_rules, sweep_rules, SweepRanged, SweepExact}

-- 1 to 7, the mask bytes, and each unmasked task's 8 to 10
pub record SweepValid (w : Sweep) (b : Buffers) : Type 0 where
  pub ranged : SweepRanged w
  pub houd : HoudOfTwo w.mode w.form w.members
  pub exact : SweepExact w b
  pub spins : Spins w.lattice.n (Named w.lattice.s (order_names w.order)) b.spins
  pub inverse : Inverse w.lattice.n w.lattice.d w.lattice.fwd w.lattice.bwd
  pub pins : Pins w.pins
  pub order : Listed w.lattice.s (order_names w.order)
  pub couplings : When (takes_cuts (common w)) (SmallCouplings w.lattice.couplings)
  pub warm : When (takes_cuts (common w)) ((j : ℕ) → j < w.t → Warm (get_or w.temperatures j nan))
  pub masks : (j : ℕ) → j < w.t → get_or w.masks j 0 ≤ 1
  pub each : (k : ℕ) → k < tasks w → masked w k ≡ false → Fit (task_call w k) (task_choices w k) b.spins

-- ---- the rules of the tasks
abbrev rules_of : Sweep → Buffers → ℕ → List Rule
rules_of w b k = choice_rules (task_call w k) (task_choices w k) b.spins

pub kept_left : (rs qs : List Rule) → Kept (rs ++ qs) → Kept rs
kept_left [] qs h = tt
kept_left (r ∷ rs) qs h = (h.0, kept_left rs qs h.1)

kept_right : (rs qs : List Rule) → Kept (rs ++ qs) → Kept qs
kept_right [] qs h = h
kept_right (r ∷ rs) qs h = kept_right rs qs h.1

-- if a task is not masked its rules stand
unmasked : (t : Bool) (rs : List Rule) → t ≡ false → Kept (cond t [] rs) → Kept rs
unmasked false rs e h = h
unmasked true rs e h = never (sym e)

in_turn : (t : Bool) (rs : List Rule) → (t ≡ false → Kept rs) → Kept (cond t [] rs)
in_turn false rs h = h refl
in_turn true rs h = tt

module _ (w : Sweep) (b : Buffers) where
  tasks_of : (K : ℕ) → Kept (task_rules w b K) → (k : ℕ) → k < K → masked w k ≡ false → Kept (rules_of w b k)
  tasks_of zero h k l e = absurd (omega arith)
  tasks_of (suc K) h k l e = at (ℕ_discrete k K) (tasks_of K (kept_left (task_rules w b K) _ h) k)
    where
      at : Dec (k ≡ K) → (k < K → masked w k ≡ false → Kept (rules_of w b k)) → Kept (rules_of w b k)
      at (yes q) ih = rw q (unmasked (masked w K) (rules_of w b K) (rw q at e) (kept_right (task_rules w b K) (cond (masked w K) [] (rules_of w b K)) h))
      at (no q) ih = ih (omega arith) e

  tasks_kept : (K : ℕ) → ((k : ℕ) → k < K → masked w k ≡ false → Kept (rules_of w b k)) → Kept (task_rules w b K)
  tasks_kept zero h = tt
  tasks_kept (suc K) h =
      kept_both (task_rules w b K) (cond (masked w K) [] (rules_of w b K)) (tasks_kept K (λ k l. h k (omega arith)))
      (in_turn (masked w K) (rules_of w b K) (h K (omega arith)))

  -- all rules are kept just if these are
  pub sweep_valid_of : Kept (sweep_rules w b) → SweepValid w b
  sweep_valid_of k = record {
    ranged = k.0;
    houd = k.1.0;
    exact = k.1.1.0;
    spins = k.1.1.1.0;
    inverse = k.1.1.1.1.0;
    pins = k.1.1.1.1.1.0;
    order = k.1.1.1.1.1.1.0;
    couplings = k.1.1.1.1.1.1.1.0;
    warm = k.1.1.1.1.1.1.1.1.0;
    masks = k.1.1.1.1.1.1.1.1.1.0;
    each = λ j h e. fit_of (task_call w j) (task_choices w j) b.spins (tasks_of (tasks w) k.1.1.1.1.1.1.1.1.1.1 j h e);
  }

  pub sweep_valid_kept : SweepValid w b → Kept (sweep_rules w b)
  sweep_valid_kept v = (v.ranged, (v.houd, (v.exact, (v.spins, (v.inverse, (v.pins, (v.order, (v.couplings, (v.warm, (v.masks, each))))))))))
    where
      each : Kept (task_rules w b (tasks w))
      each = tasks_kept (tasks w) (λ k h e. fit_kept (task_call w k) (task_choices w k) b.spins (v.each k h e))

-- Test 10 of every call of a task, in the order of its tests.
use Prim.Native.Nat.{ℕ, ◌≤◌, ◌<◌}
use mathlib.Core.Path.{◌≡◌, sym, ◌∙◌}
use mathlib.Core.Bool.{Bool, true, false, not}
use mathlib.Core.List.{List}
use lib.ListN.{get_or}
use lib.IntN.{ℤ}
use lib.Bits.{bit_xor}
use native.Mathlib.Omega.{arith}
use Rattle.lemmas.specs.Tells.{Tells}
use Rattle.lemmas.specs.Bools.{never}
use Rattle.paper.specs.declared.Task.{Task}
use Rattle.paper.specs.Panel.Input.{pattern_of}
use Rattle.paper.specs.Panel.Takes.{one_cluster}
use Rattle.paper.specs.Site.Acting.{test_by, acts}
use Rattle.paper.specs.Refusal.Rules.{Seeded}
use Rattle.columns.specs.Column.{shown}
use Rattle.columns.specs.Gauge.{gauge_of, gauge_is}
use Rattle.column_rules.specs.Laws.{SomeSite}
use Rattle.column_rules.specs.Sight.{acts_at, column_acts_lem, some_site, some_acts}
use Rattle.tests.specs.Choices.{EveryCut, EveryRows}

module _ (t : Task) (xs : List ℤ) where
  -- no seed is taken
  pub unseeded : one_cluster t.form ≡ false → EveryCut t (λ c. Seeded c xs)
  unseeded w cuts d s temperature fwd bwd pins couplings = record { below = λ e. never (sym w ∙ e); acting = λ e. never (sym w ∙ e) }

  -- it is no site
  pub seed_past : one_cluster t.form ≡ true → t.n ≤ t.seed → EveryCut t (λ c. Seeded c xs → ⊥)
  seed_past w l cuts d s temperature fwd bwd pins couplings h = let b = h.below w in omega arith

  -- it acts
  pub seed_acts : t.seed < t.n → acts_at t.mode t.n t.group t.reference xs t.seed ≡ true → EveryCut t (λ c. Seeded c xs)
  unfolding acts
  seed_acts l e cuts d s temperature fwd bwd pins couplings = record { below = λ _. l; acting = λ _ _. e }

  -- it does not: then no site may
  pub seed_rests :
      (r : Bool) → one_cluster t.form ≡ true → t.seed < t.n
      → acts_at t.mode t.n t.group t.reference xs t.seed ≡ false
      → Tells r (SomeSite t.n (acts_at t.mode t.n t.group t.reference xs))
      → EveryCut t (λ c. Tells (not r) (Seeded c xs))
  unfolding acts
  seed_rests true w l e some cuts d s temperature fwd bwd pins couplings = λ s. never (sym e ∙ s.acting w (some_acts _ xs some))
  seed_rests false w l e some cuts d s temperature fwd bwd pins couplings = record { below = λ _. l; acting = λ _ o. absurd (some (some_site _ xs o)) }

-- what the seed's column shows, seen through the gauge, is whether the seed acts on the rows
pub seed_seen : (t : Task) (cols : List ℕ) (g : ℕ) (r : Bool) → t.seed < t.n → g ≡ gauge_of t.mode t.group.len (get_or cols t.reference 0)
    → r ≡ test_by t.mode t.group.len (shown (bit_xor (get_or cols t.seed 0) g))
    → EveryRows t cols (λ xs. acts_at t.mode t.n t.group t.reference xs t.seed ≡ r)
seed_seen t cols g r l eg er xs p w =
    sym (er
    ∙ column_acts_lem p l (w.at t.seed l)
    (eg ∙ gauge_is t.mode t.group.len t.n t.reference (pattern_of t.n t.group xs) w p.reference))

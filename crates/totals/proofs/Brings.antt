-- Totals that are paid the changes of a move are brought along.
use Prim.Native.Nat.{ℕ, ◌≤◌, ◌<◌}
use mathlib.Core.Path.{◌≡◌, sym, ◌∙◌, ap}
use mathlib.Core.Logic.{◌⊎◌, inl, inr}
use mathlib.Core.List.{List}
use native.Mathlib.Nat.{mul-le-mul_right, suc-mul}
use native.Mathlib.Omega.{arith}
use lib.ListN.{length}
use lib.IntN.{ℤ, nat_abs, ◌+ℤ◌, ◌-ℤ◌, +ℤ_idr}
use Rattle.lemmas.specs.Places.{Placed, Unplaced, place}
use Rattle.lemmas.specs.Sums.{sum}
use Rattle.paper.specs.declared.Group.{Group}
use Rattle.paper.specs.Panel.Input.{Lattice, member, spin, pattern_of}
use Rattle.paper.specs.Refusal.Rules.{Spin, Inverse}
use Rattle.paper.specs.Site.Energy.{energy}
use Rattle.columns.specs.Column.{Inside}
use Rattle.paper.specs.Answer.Totals.{total, Brought}
use Rattle.totals.specs.Gain.{site_gain, Ground, Sums}
use Rattle.totals.specs.Law.{Shows, change_in, energy_change, energy_same}
use Rattle.totals.specs.Contract.{Payable, Paid, Bringable, Spun}

module _ {g : Lattice} {group : Group} {totals xs : List ℤ} (h : Bringable g group totals) (r : Spun g group xs) where
  pub inside : Inside g.n group xs
  inside k l = omega (arith, r.long, suc-mul (member group k) g.n, mul-le-mul_right g.n (h.grouped.below k l))

  pub spin_of : (i k : ℕ) → i < g.n → k < group.len → Spin (pattern_of g.n group xs i k)
  spin_of i k li lk = r.spins i k li lk

module _ {g : Lattice} {group : Group} {totals : List ℤ} (h : Bringable g group totals) where
  pub ground : {olds news : List ℕ} → g.n ≤ length olds → g.n ≤ length news → Ground g.n g.d g.fwd g.bwd g.couplings olds news
  ground o w = record {
    n_high = h.sizes.n_high;
    d_high = h.sizes.d_high;
    fwd_long = h.fwd_long;
    bwd_long = h.bwd_long;
    js_long = h.js_long;
    olds_long = o;
    news_long = w;
    inverse = h.inverse;
    small = h.couplings;
  }

  -- changes that are small enough are added to the totals
  pub payable :
      (f : ℕ → ℤ) {sums : List ℤ} → ((k : ℕ) → nat_abs (f k) ≤ 65536000000) → Sums group.len f sums → Payable group sums totals
  payable f small s = record {
    few = h.few;
    below = λ k l. omega (arith, h.grouped.below k l, h.totals_long);
    distinct = h.grouped.distinct;
    small = h.totals_small;
    long = s.long;
    room = λ k l. rw (s.each k l) (omega (arith, small k));
  }

module _ (g : Lattice) {group : Group} {xs totals : List ℤ} (tables : Inverse g.n g.d g.fwd g.bwd) (old new : ℕ → ℕ) {sums totals' ys : List ℤ}
    (s : Sums group.len (λ k. sum g.n (site_gain (change_in g old new) k)) sums) (paid : Paid group.len group sums totals totals')
    (before : (k : ℕ) → k < group.len → Shows g.n old k xs (member group k))
    (after : (k : ℕ) → k < group.len → Shows g.n new k ys (member group k))
    (others : (i t : ℕ) → i < g.n → Unplaced group.len (member group) t → spin g.n ys t i ≡ spin g.n xs t i) where
  each : (t : ℕ) → Placed group.len (member group) t ⊎ Unplaced group.len (member group) t
      → total totals' t ≡ total totals t +ℤ (energy g ys t -ℤ energy g xs t)
  each t (inl r) =
      let k = r.0 in
      let l = r.1 in
      rw r.2
      (paid.group k l
      ∙ ap (λ (z : ℤ). total totals (member group k) +ℤ z)
      (s.each k l ∙ sym (energy_change g old new k xs ys (member group k) tables (before k l) (after k l))))
  each t (inr u) =
      paid.others t u
      ∙ (sym (+ℤ_idr (total totals t)) ∙ ap (λ (z : ℤ). total totals t +ℤ z) (sym (energy_same g xs ys t tables (λ i li. others i t li u))))

  pub brought : Brought g xs totals ys totals'
  brought = record { long = paid.long; each = λ t l. each t (place group.len (member group) t) }

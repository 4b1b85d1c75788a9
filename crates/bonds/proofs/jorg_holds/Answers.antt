-- `bonds::jorg_holds` meets its contract: the machine's product is the strength, which fits.
use Prim.Native.Nat.{ℕ, ◌/◌, ◌≤◌}
use mathlib.Core.Path.{◌≡◌, ap, ◌∙◌}
use native.Mathlib.Nat.{le_trans}
use native.Mathlib.Omega.{arith}
use lib.IntN.{ℤ, pos, nat_abs, ◌*ℤ◌}
use lib.Ieee.{Float}
use mir.Syntax.{w32}
use mir.Val.{SFits, to_z, of_z}
use mir.Facts.{sfits_lit}
use Rattle.lemmas.specs.Sums.{sum}
use Rattle.lemmas.specs.Held.{Value, given, asks, stored, reads, held_mul, held_lt, small_fits, mul_small}
use Rattle.paper.specs.Site.Bonds.{whole, drawn, pair_term}
use Rattle.columns.specs.Column.{shown}
use Rattle.bonds.proofs.Pairs.{pairs_small}
use Rattle.bonds.proofs.jorg_holds.Goals as goal

module _ (coupling : ℤ) (len a b : ℕ) (low : nat_abs coupling ≤ 1000000) (few : len ≤ 8) where
  -- the sum over the pairs, and the strength
  abbrev pairs : ℤ
  pairs = sum (len / 2) (pair_term (shown a) (shown b))

  pairs_few : nat_abs pairs ≤ 4
  pairs_few = le_trans (pairs_small a b (len / 2)) (omega (arith, few))

  strong_small : nat_abs (coupling *ℤ pairs) ≤ 4000000
  strong_small = mul_small coupling pairs 1000000 4 low pairs_few

  -- p is what `pair_sum` answers
  product : {p : ℤ} → SFits w32 coupling → p ≡ pairs → Value w32 (to_z w32 (of_z w32 coupling) *ℤ to_z w32 (of_z w32 p)) (coupling *ℤ pairs)
  product fits e =
      held_mul (given fits) (record { bits = ap (of_z w32) e; fits = small_fits w32 pairs 4 pairs_few tt })
      (small_fits w32 (coupling *ℤ pairs) 4000000 strong_small tt)

pub overflow_mul-strength : goal.overflow_mul-strength
overflow_mul-strength c = let a = c.args in
    let r = c.requires in
    asks (product a.coupling a.len a.a a.b r.coupling_bound r.len_bound c.ranges.coupling c.pair_sum.ensures)

pub size-requires : goal.size-requires
size-requires c = let a = c.args in
    let r = c.requires in
    rw (reads (stored (product a.coupling a.len a.a a.b r.coupling_bound r.len_bound c.ranges.coupling c.pair_sum.ensures)))
    (strong_small a.coupling a.len a.a a.b r.coupling_bound r.len_bound)

pub returns-then-strength-gt0 : goal.returns-then-strength-gt0
returns-then-strength-gt0 c = let a = c.args in
    let r = c.requires in
    let p = stored (product a.coupling a.len a.a a.b r.coupling_bound r.len_bound c.ranges.coupling c.pair_sum.ensures) in
    rw (held_lt {a = pos 0} (given (sfits_lit tt)) p c.if-strength-gt0.true)
    (c.is_drawn.ensures ∙ ap (λ (x : Float). drawn a.sampler.four x a.cut) (c.size.ensures ∙ ap (λ (z : ℤ). whole (nat_abs z)) (reads p)))

pub returns-else-strength-gt0 : goal.returns-else-strength-gt0
returns-else-strength-gt0 c = let a = c.args in
    let r = c.requires in
    let p = stored (product a.coupling a.len a.a a.b r.coupling_bound r.len_bound c.ranges.coupling c.pair_sum.ensures) in
    rw (held_lt {a = pos 0} (given (sfits_lit tt)) p c.if-strength-gt0.false) c.if-strength-gt0.false

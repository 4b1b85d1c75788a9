-- `row_sum` meets its contract: after i turns the total is the sum over the sites before i.
use Prim.Native.Nat.{◌+◌}
use mathlib.Core.Path.{refl, ◌∙◌}
use native.Mathlib.Omega.{arith}
use lib.IntN.{◌+ℤ◌}
use mir.Syntax.{w64}
use mir.Val.{to_z, of_z}
use mir.ValLaws.{to_z-of_z}
use Rattle.lemmas.specs.Sums.{sum}
use Rattle.lemmas.specs.Held.{Value, asks, bounded}
use Rattle.meter.specs.Row.{site_term}
use Rattle.meter.proofs.Bonds.{row_bounded, row_small}
use Rattle.meter.proofs.Totalled.{next_total, all_added}
use Rattle.meter.proofs.row_sum.Goals as goal

-- the total after a turn
next : (c : goal.After-site_sum-total) → let a = c.args in
    Value w64 (to_z w64 c.loop-i.total-bits +ℤ to_z w64 (of_z w64 c.site_sum-total.result)) (sum (c.loop-i.i + 1) (site_term a.d a.fwd.now a.js.now a.row.now))
next c =
    next_total (row_bounded c.requires) c.loop-i.invariant c.loop-i-test.true c.site_sum-total.ensures
    (bounded w64 c.site_sum-total.result c.site_sum-total.type_inv)

pub loop-i-init : goal.loop-i-init
unfolding sum
loop-i-init c = refl

pub overflow_add-total : goal.overflow_add-total
overflow_add-total c = asks (next c)

pub loop-i-preserved : goal.loop-i-preserved
loop-i-preserved c = to_z-of_z w64 _ (asks (next c)) ∙ (next c).is

pub returns : goal.returns
returns c =
    let total = all_added (row_bounded c.requires) c.loop-i.invariant (omega arith) c.loop-i-test.false in
    record { is = total; small = rw total (row_small c.requires) }

-- `site_sum` meets its contract: after e turns the total is the sum of the site's first e bonds.
use Prim.Native.Nat.{◌+◌}
use mathlib.Core.Path.{refl, ◌∙◌}
use native.Mathlib.Omega.{arith}
use lib.IntN.{◌+ℤ◌}
use mir.Syntax.{w64}
use mir.Val.{to_z, of_z}
use mir.ValLaws.{to_z-of_z}
use Rattle.lemmas.specs.Sums.{sum}
use Rattle.lemmas.specs.Held.{Value, asks, bounded}
use Rattle.meter.specs.Row.{bond_term}
use Rattle.meter.proofs.Bonds.{site_bounded}
use Rattle.meter.proofs.Totalled.{next_total, all_added}
use Rattle.meter.proofs.site_sum.Goals as goal

-- the total after a turn
next : (c : goal.After-bond_at-total) → let a = c.args in
    Value w64 (to_z w64 c.loop-e.total-bits +ℤ to_z w64 (of_z w64 c.bond_at-total.result)) (sum (c.loop-e.e + 1) (bond_term a.d a.fwd.now a.js.now a.row.now a.i))
next c =
    next_total (site_bounded c.requires.of c.args.i c.requires.site) c.loop-e.invariant c.loop-e-test.true c.bond_at-total.ensures
    (bounded w64 c.bond_at-total.result c.bond_at-total.type_inv)

pub loop-e-init : goal.loop-e-init
unfolding sum
loop-e-init c = refl

pub overflow_add-total : goal.overflow_add-total
overflow_add-total c = asks (next c)

pub loop-e-preserved : goal.loop-e-preserved
loop-e-preserved c = to_z-of_z w64 _ (asks (next c)) ∙ (next c).is

pub returns : goal.returns
returns c = all_added (site_bounded c.requires.of c.args.i c.requires.site) c.loop-e.invariant (omega arith) c.loop-e-test.false

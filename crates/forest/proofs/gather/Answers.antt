-- `gather` meets its contract.
use Prim.Native.Nat.{ℕ}
use mathlib.Core.Path.{sym, ap}
use mathlib.Core.Bool.{Bool}
use lib.Dec.{eqb}
use lib.ListN.{get_or}
use Rattle.forest.proofs.Lists.{gather_more}
use Rattle.forest.proofs.gather.Goals as goal

pub loop-i-preserved : goal.loop-i-preserved
loop-i-preserved c =
    let holds : Bool = eqb (get_or c.args.holds.now c.loop-i.at 0) 1 in
    let h = c.loop-i.invariant in
    gather_more h c.loop-i-test.true c.requires.fits holds (ap (λ (z : ℕ). eqb (get_or c.args.holds.now z 0) 1) (sym h.cell)) _
    c.from-len.ensures

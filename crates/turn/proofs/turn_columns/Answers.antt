-- `turn_columns` meets its contract. The invariant: the first x sites of the list have their new columns.
use Prim.Native.Nat.{◌<◌}
use mathlib.Core.Path.{◌≡◌, ◌∙◌}
use native.Mathlib.Omega.{arith}
use lib.ListN.{length, get_or, length-take}
use lib.Seq.{get_or-take}
use Rattle.turn.proofs.Step.{one_chosen}
use Rattle.turn.proofs.turn_columns.Goals as goal

pub loop-x-preserved : goal.loop-x-preserved
loop-x-preserved c = let a = c.args in
    let l = c.loop-x in
    let here : l.x < a.len = omega (arith, simp length-take at c.loop-x-test.true) in
    let is : c.wide-i.result ≡ get_or a.list.now l.x 0 = c.wide-i.ensures ∙ get_or-take a.len a.list.now l.x 0 here in
    let below : c.wide-i.result < a.t.n = omega (arith, is, c.requires.sites l.x here) in
    let inside : c.wide-i.result < length l.news = omega (arith, below, c.requires.area_room, l.invariant.long) in
    one_chosen _ _ _ _ _ _ _ _ c.requires.apart here l.invariant inside is c.turned_column.ensures

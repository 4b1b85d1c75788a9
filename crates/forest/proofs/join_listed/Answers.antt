-- `join_listed` meets its contract.
use Prim.Native.Nat.{◌<◌}
use mathlib.Core.Path.{◌∙◌}
use native.Mathlib.Omega.{arith}
use Rattle.std.proofs.lemmas.List.{get_or-take, length-take-le}
use Rattle.forest.proofs.Bonds.{listed_start, listed_more}
use Rattle.forest.proofs.join_listed.Goals as goal

pub loop-site-init : goal.loop-site-init
loop-site-init c = listed_start _ _ _ _ _ c.requires.down

pub loop-site-preserved : goal.loop-site-preserved
loop-site-preserved c =
    let list = c.args.list.now in
    let t = c.loop-site.site-index in
    let among : t < c.args.len = omega (arith, c.loop-site-test.true, length-take-le c.args.len list c.requires.short) in
    listed_more c.args.d c.args.k c.args.fwd.now list c.loop-site.invariant among (c.wide-x.ensures ∙ get_or-take c.args.len list t 0 among)
    c.wide.ensures c.union.ensures

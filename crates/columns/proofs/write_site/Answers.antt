-- `write_site` meets its contract. The invariant: the spins of the first k members are written.
use mathlib.Core.Path.{◌∙◌}
use Prim.Native.Nat.{◌+◌, ◌*◌, ◌<◌}
use native.Mathlib.Omega.{arith}
use lib.ListN.{length, get_or}
use mir.Syntax.{w8}
use mir.ValLaws.{to_z-of_z}
use Rattle.columns.proofs.Site.{one_there}
use Rattle.columns.proofs.write_site.Goals as goal

pub loop-k-preserved : goal.loop-k-preserved
loop-k-preserved c =
    let cell : let a = c.args in get_or a.systems.now c.loop-k.k 0 * a.n + a.i < length a.spins.now = let p = c.requires.site in
    omega (arith, p.inside c.loop-k.k c.loop-k-test.true, p.below) in
    let h = c.loop-k-test.true in
    let e = to_z-of_z w8 c.pick.result (record { sfits = c.pick.type_inv }) ∙ c.pick.ensures in
    one_there h c.loop-k.invariant c.requires.distinct c.requires.site.below cell e

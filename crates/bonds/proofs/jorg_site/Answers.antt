-- `bonds::jorg_site` meets its contract.
use Prim.Native.Nat.{◌+◌, ◌*◌}
use mathlib.Core.Path.{◌≡◌, ◌∙◌}
use mathlib.Core.Bool.{◌&&◌}
use native.Mathlib.Omega.{arith}
use lib.ListN.{length, get_or}
use lib.Ieee.{nan}
use Rattle.paper.specs.Site.Bonds.{jorg_holds}
use Rattle.columns.specs.Column.{shown}
use Rattle.bonds.specs.Table.{Coupled, acting, jorg_at}
use Rattle.bonds.proofs.Couplings.{coupling_back}
use Rattle.bonds.proofs.Rows.{Place, place, row_more, byte_is}
use Rattle.bonds.proofs.jorg_site.Goals as goal

pub loop-e-preserved : goal.loop-e-preserved
loop-e-preserved c =
    let at : (let a = c.args in Place (length a.acts.now) a.d a.fwd.now a.i c.loop-e.e) =
    place c.requires.jorg_in.active.forward c.args.i c.loop-e.e c.requires.acts.below c.loop-e-test.true in
    let coupled : (let a = c.args in Coupled (length a.acts.now) a.d a.couplings.now a.cuts.now) = c.requires.jorg_in.coupled in
    let right : (let a = c.args in
    c.jorg_bond-bond.result ≡ jorg_at a.d a.fwd.now a.couplings.now a.cuts.now a.len a.sampler a.acts.now a.cols.now a.i c.loop-e.e) =
    let a = c.args in
    rw c.requires.acts.does
    (c.jorg_bond-bond.ensures
    ∙ (λ i. acting a.acts.now (c.wide-j.ensures i)
    && jorg_holds (coupling_back coupled at i) a.len (shown (get_or a.cols.now a.i 0)) (shown (get_or a.cols.now (c.wide-j.ensures i) 0))
    a.sampler (get_or a.cuts.now (a.i * a.d + c.loop-e.e) nan))) in
    let l = c.loop-e in
    row_more _ l.e _ _ _ _ l.invariant (omega (arith, at, c.requires.jorg_in.active.holds_long)) (byte_is c.from.ensures right)

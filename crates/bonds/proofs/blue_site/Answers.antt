-- `bonds::blue_site` meets its contract.
use Prim.Native.Nat.{◌+◌, ◌*◌}
use mathlib.Core.Path.{◌≡◌, ◌∙◌}
use native.Mathlib.Omega.{arith}
use lib.ListN.{length, get_or}
use lib.Ieee.{nan}
use Rattle.paper.specs.Site.Bonds.{kind_of, blue_holds}
use Rattle.columns.specs.Column.{shown}
use Rattle.bonds.specs.Table.{Coupled, blue_at}
use Rattle.bonds.proofs.Couplings.{coupling_back}
use Rattle.bonds.proofs.Rows.{Place, place, row_more, byte_is}
use Rattle.bonds.proofs.blue_site.Goals as goal

pub loop-e-preserved : goal.loop-e-preserved
loop-e-preserved c =
    let at : (let a = c.args in Place (length a.cols.now) a.d a.fwd.now a.i c.loop-e.e) =
    place c.requires.blue_in.forward c.args.i c.loop-e.e c.requires.i_in_bounds c.loop-e-test.true in
    let coupled : (let a = c.args in Coupled (length a.cols.now) a.d a.couplings.now a.cuts.now) = c.requires.blue_in.coupled in
    let bond-is : (let a = c.args in c.blue_bond.result ≡ blue_at a.d a.fwd.now a.couplings.now a.cuts.now a.sampler a.cols.now a.i c.loop-e.e) =
    let a = c.args in
    let cols = a.cols.now in
    c.blue_bond.ensures
    ∙ (λ i. blue_holds (kind_of (coupling_back coupled at i) (shown (get_or cols a.i 0)) (shown (get_or cols (c.wide.ensures i) 0))) a.sampler
    (get_or a.cuts.now (a.i * a.d + c.loop-e.e) nan)) in
    let l = c.loop-e in
    row_more _ l.e _ _ _ _ l.invariant (omega (arith, at, c.requires.blue_in.blue_long)) (byte_is c.from.ensures bond-is)

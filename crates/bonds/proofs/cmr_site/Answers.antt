-- `bonds::cmr_site` meets its contract.
use Prim.Native.Nat.{◌+◌, ◌*◌}
use mathlib.Core.Path.{◌≡◌, ap, ◌∙◌}
use native.Mathlib.Omega.{arith}
use lib.ListN.{length, get_or}
use lib.IntN.{pos}
use lib.Ieee.{nan}
use mir.Syntax.{w32}
use mir.Val.{to_z, of_z}
use Rattle.paper.specs.declared.BondKind.{BondKind}
use Rattle.paper.specs.Site.Bonds.{kind_of, blue_holds, grey_holds}
use Rattle.columns.specs.Column.{shown}
use Rattle.bonds.specs.Table.{Coupled, kind_at}
use Rattle.bonds.proofs.Couplings.{coupling_back}
use Rattle.bonds.proofs.Rows.{Place, place, row_more, byte_is}
use Rattle.bonds.proofs.cmr_site.Goals as goal

pub loop-e-preserved : goal.loop-e-preserved
loop-e-preserved c =
    let at : (let a = c.args in Place (length a.cols.now) a.d a.fwd.now a.i c.loop-e.e) =
    place c.requires.cmr_in.forward c.args.i c.loop-e.e c.requires.i_in_bounds c.loop-e-test.true in
    let coupled : (let a = c.args in Coupled (length a.cols.now) a.d a.couplings.now a.cuts.now) = c.requires.cmr_in.coupled in
    let kind-is : (let a = c.args in
    let cols = a.cols.now in
    let read = to_z w32 (of_z w32 (get_or a.couplings.now (a.i * a.d + c.loop-e.e) (pos 0))) in
    kind_of read (shown (get_or cols a.i 0)) (shown (get_or cols c.wide.result 0)) ≡ kind_at a.d a.fwd.now a.couplings.now cols a.i c.loop-e.e) =
    let cols = c.args.cols.now in
    (λ i. kind_of (coupling_back coupled at i) (shown (get_or cols c.args.i 0)) (shown (get_or cols (c.wide.ensures i) 0))) in
    let l = c.loop-e in
    let cut = get_or c.args.cuts.now (c.args.i * c.args.d + l.e) nan in
    record {
      blue = row_more _ l.e _ _ _ _ l.invariant.blue (omega (arith, at, c.requires.cmr_in.blue_long))
          (byte_is c.from.ensures (c.blue_bond-on.ensures ∙ ap (λ (x : BondKind). blue_holds x c.args.sampler cut) kind-is));
      grey = row_more _ l.e _ _ _ _ l.invariant.grey (omega (arith, at, c.requires.cmr_in.grey_long))
          (byte_is c.from-in-loop-e.ensures (c.grey_bond.ensures ∙ ap (λ (x : BondKind). grey_holds x c.args.sampler cut) kind-is));
    }

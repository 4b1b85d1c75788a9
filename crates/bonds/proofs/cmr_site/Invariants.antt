-- `bonds::cmr_site` meets its contract.
use Prim.Native.Nat.{◌*◌}
use Rattle.bonds.specs.Table.{blue_at, grey_at}
use Rattle.bonds.specs.Row.{BothRows}
use Rattle.bonds.proofs.cmr_site.Given as goal

abbrev pub invariant-loop-e : goal.invariant-loop-e
invariant-loop-e l =
    BothRows (l.i * l.d) l.e (blue_at l.d l.fwd l.couplings l.cuts l.sampler l.cols l.i)
    (grey_at l.d l.fwd l.couplings l.cuts l.sampler l.cols l.i) l.initial.blue l.initial.grey l.blue l.grey

-- `bonds::blue_site` meets its contract.
use Prim.Native.Nat.{◌*◌}
use Rattle.bonds.specs.Table.{blue_at}
use Rattle.bonds.specs.Row.{Row}
use Rattle.bonds.proofs.blue_site.Given as goal

abbrev pub invariant-loop-e : goal.invariant-loop-e
invariant-loop-e l = Row (l.i * l.d) l.e (blue_at l.d l.fwd l.couplings l.cuts l.sampler l.cols l.i) l.initial.blue l.blue

-- `bonds::jorg_site` meets its contract.
use Prim.Native.Nat.{◌*◌}
use Rattle.bonds.specs.Table.{jorg_at}
use Rattle.bonds.specs.Row.{Row}
use Rattle.bonds.proofs.jorg_site.Given as goal

abbrev pub invariant-loop-e : goal.invariant-loop-e
invariant-loop-e l = Row (l.i * l.d) l.e (jorg_at l.d l.fwd l.couplings l.cuts l.len l.sampler l.acts l.cols l.i) l.initial.holds l.holds

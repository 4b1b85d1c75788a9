-- `bonds::active_site` meets its contract.
use Prim.Native.Nat.{◌*◌}
use Rattle.bonds.specs.Table.{both_acting}
use Rattle.bonds.specs.Row.{Row}
use Rattle.bonds.proofs.active_site.Given as goal

abbrev pub invariant-loop-e : goal.invariant-loop-e
invariant-loop-e l = Row (l.i * l.d) l.e (both_acting l.d l.fwd l.acts l.i) l.initial.holds l.holds

-- `lead_all_back` meets its contract: after i turns the bonds of the sites before i are done.
use Prim.Native.Nat.{◌*◌}
use Rattle.neighbours.specs.Backward.{Led}
use Rattle.neighbours.proofs.lead_all_back.Given as goal

abbrev pub invariant-loop-i : goal.invariant-loop-i
invariant-loop-i l = Led l.n l.d l.fwd (l.i * l.d) l.bwd

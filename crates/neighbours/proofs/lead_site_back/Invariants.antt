-- `lead_site_back` meets its contract: after e turns the site's first e bonds are done.
use Prim.Native.Nat.{◌+◌, ◌*◌}
use Rattle.neighbours.specs.Backward.{Led}
use Rattle.neighbours.proofs.lead_site_back.Given as goal

abbrev pub invariant-loop-e : goal.invariant-loop-e
invariant-loop-e l = Led l.n l.d l.fwd (l.i * l.d + l.e) l.bwd

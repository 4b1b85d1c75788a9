-- `site_sum` meets its contract: after e turns the total is the sum of the site's first e bonds.
use mathlib.Core.Path.{◌≡◌}
use Rattle.lemmas.specs.Sums.{sum}
use Rattle.meter.specs.Row.{bond_term}
use Rattle.meter.proofs.site_sum.Given as goal

abbrev pub invariant-loop-e : goal.invariant-loop-e
invariant-loop-e l = l.total ≡ sum l.e (bond_term l.d l.fwd l.js l.row l.i)

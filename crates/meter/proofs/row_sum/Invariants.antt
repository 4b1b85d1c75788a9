-- `row_sum` meets its contract: after i turns the total is the sum over the sites before i.
use mathlib.Core.Path.{◌≡◌}
use Rattle.lemmas.specs.Sums.{sum}
use Rattle.meter.specs.Row.{site_term}
use Rattle.meter.proofs.row_sum.Given as goal

abbrev pub invariant-loop-i : goal.invariant-loop-i
invariant-loop-i l = l.total ≡ sum l.i (site_term l.d l.fwd l.js l.row)

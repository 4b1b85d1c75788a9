-- `bonds::pair_sum` meets its contract: the total is the sum over the pairs passed, and the two columns are past them.
use mathlib.Core.Path.{◌≡◌}
use Rattle.lemmas.specs.Sums.{sum}
use Rattle.paper.specs.Site.Bonds.{pair_term}
use Rattle.columns.specs.Column.{shown}
use Rattle.bonds.proofs.Pairs.{past}
use Rattle.bonds.proofs.pair_sum.Given as goal

abbrev pub invariant-loop-k : goal.invariant-loop-k
invariant-loop-k l = (l.total ≡ sum l.k (pair_term (shown l.a) (shown l.b))) × (l.x ≡ past l.a l.k) × (l.y ≡ past l.b l.k)

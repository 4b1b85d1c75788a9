-- `change_site` meets its contract. The invariant: the sums have the changes of the bonds of the first e directions, in both senses.
use Rattle.lemmas.specs.Sums.{sum}
use Rattle.totals.specs.Gain.{change_of, Added}
use Rattle.totals.proofs.Site.{turn_gain}
use Rattle.totals.proofs.change_site.Given as goal

abbrev pub invariant-loop-e : goal.invariant-loop-e
invariant-loop-e l = Added l.len (λ k. sum l.e (turn_gain (change_of l.d l.fwd l.bwd l.couplings l.olds l.news) l.i k)) l.initial.sums l.sums

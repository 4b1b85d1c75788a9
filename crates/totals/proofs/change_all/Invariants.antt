-- `change_all` meets its contract. The invariant: the sums have the changes that are looked at from the first i sites.
use Rattle.lemmas.specs.Sums.{sum}
use Rattle.totals.specs.Gain.{change_of, site_gain, Added}
use Rattle.totals.proofs.Sums.{noughts}
use Rattle.totals.proofs.change_all.Given as goal

abbrev pub invariant-loop-i : goal.invariant-loop-i
invariant-loop-i l = Added l.len (λ k. sum l.i (site_gain (change_of l.d l.fwd l.bwd l.couplings l.olds l.news) k)) noughts l.sums

-- `change_listed` meets its contract. The invariant: the sums have the changes that are looked at from the first a sites of the list.
use Rattle.lemmas.specs.Sums.{sum}
use Rattle.totals.specs.Gain.{change_of, at_site, site_gain, Added}
use Rattle.totals.proofs.Sums.{noughts}
use Rattle.totals.proofs.change_listed.Given as goal

abbrev pub invariant-loop-site : goal.invariant-loop-site
invariant-loop-site l = Added l.len (λ k. sum l.site-index (λ b. site_gain (change_of l.d l.fwd l.bwd l.couplings l.olds l.news) k (at_site l.list b))) noughts l.sums

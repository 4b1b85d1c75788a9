-- `gather` meets its contract. The invariant: the sites next to the first a of the list are gathered.
use Rattle.totals.specs.Listed.{NearSome, columns_by, Gathered}
use Rattle.totals.proofs.gather.Given as goal

abbrev pub invariant-loop-site : goal.invariant-loop-site
invariant-loop-site l = Gathered l.n l.members (columns_by l.n l.group l.spins) (NearSome l.d l.fwd l.bwd l.list l.site-index) l.initial.olds l.initial.news l.olds l.news

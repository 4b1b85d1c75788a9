-- `gather_near` meets its contract. The invariant: the sites next to i in the first e directions are gathered.
use Rattle.totals.specs.Listed.{Near, columns_by, Gathered}
use Rattle.totals.proofs.gather_near.Given as goal

abbrev pub invariant-loop-e : goal.invariant-loop-e
invariant-loop-e l = Gathered l.n l.members (columns_by l.n l.group l.spins) (Near l.d l.fwd l.bwd l.i l.e) l.initial.olds l.initial.news l.olds l.news

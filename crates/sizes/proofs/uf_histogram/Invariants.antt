-- `uf_histogram` meets its contract.
use lib.ListN.{length}
use Rattle.sizes.proofs.Tallies.{Bins}
use Rattle.sizes.proofs.uf_histogram.Given as goal

abbrev pub invariant-loop-size : goal.invariant-loop-size
invariant-loop-size l = Bins l.sizes l.ones (length l.initial.counts) l.counts l.size-index

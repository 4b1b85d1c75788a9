-- `edges::fill::copy` meets its contract: what was passed is decoded.
use Rattle.edges.proofs.Codes.{Decoding}
use Rattle.edges.proofs.fill.copy.Given as goal

abbrev pub invariant-loop-k : goal.invariant-loop-k
invariant-loop-k l = Decoding l.cells l.initial.couplings l.k l.couplings

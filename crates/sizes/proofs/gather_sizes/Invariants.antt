-- `gather_sizes` meets its contract.
use lib.ListN.{length}
use Rattle.sizes.proofs.Picks.{Pick}
use Rattle.sizes.proofs.gather_sizes.Given as goal

abbrev pub invariant-loop-r : goal.invariant-loop-r
invariant-loop-r l = Pick l.found l.tally l.bytes (length l.initial.list) l.list l.all l.len l.r

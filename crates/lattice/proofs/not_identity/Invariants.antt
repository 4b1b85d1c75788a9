-- `not_identity` meets its contract: after k turns the flag tells of the numbers before k.
use lib.ListN.{length, get_or}
use Rattle.lattice.proofs.Moved.{Moving}
use Rattle.lattice.proofs.not_identity.Given as goal

abbrev pub invariant-loop-k : goal.invariant-loop-k
invariant-loop-k l = Moving (length l.row) (λ k. get_or l.row k 0) l.k l.moved

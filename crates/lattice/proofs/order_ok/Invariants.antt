-- `order_ok` meets its contract: after k turns the flag tells of the first k systems, and these are marked.
use lib.ListN.{length, get_or}
use Rattle.lattice.specs.Groups.{Listing}
use Rattle.lattice.proofs.order_ok.Given as goal

abbrev pub invariant-loop-system : goal.invariant-loop-system
invariant-loop-system l = Listing l.s (length l.order) (λ k. get_or l.order k 0) l.system-index l.ok l.marks

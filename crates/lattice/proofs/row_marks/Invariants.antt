-- `row_marks` meets its contract: after k turns the first k are marked.
use Prim.Native.Nat.{◌+◌}
use lib.ListN.{get_or}
use Rattle.lattice.specs.Marking.{Marked}
use Rattle.lattice.proofs.row_marks.Given as goal

abbrev pub invariant-loop-k : goal.invariant-loop-k
invariant-loop-k l = Marked l.m (λ k. get_or l.perms (l.at + k) 0) l.k l.marks

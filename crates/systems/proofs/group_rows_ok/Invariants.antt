-- `group_rows_ok` meets its contract: after k turns the flag tells of the systems before k.
use lib.ListN.{get_or}
use Rattle.lemmas.specs.Tells.{Flagged}
use Rattle.systems.specs.Rows.{RowSpins}
use Rattle.systems.proofs.group_rows_ok.Given as goal

abbrev pub invariant-loop-t : goal.invariant-loop-t
invariant-loop-t l = Flagged l.fn.group.len (λ j. RowSpins l.n l.s l.spins (get_or l.fn.group.systems j 0)) l.t-index l.ok

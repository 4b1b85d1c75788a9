-- `rows_full` meets its contract: after r turns the flag tells of the rows before r.
use Rattle.lemmas.specs.Tells.{Flagged}
use Rattle.paper.specs.Refusal.Rules.{Permutes}
use Rattle.lattice.specs.Marking.{row_at}
use Rattle.lattice.proofs.rows_full.Given as goal

abbrev pub invariant-loop-r : goal.invariant-loop-r
invariant-loop-r l = Flagged l.rows (λ r. Permutes l.m (row_at l.m l.perms r)) l.r l.ok

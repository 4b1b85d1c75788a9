-- `column_rules::table_of` meets its contract. The invariant: the entries below x are written, and the others are 0.
use Rattle.column_rules.proofs.Bytes.{Filling}
use Rattle.column_rules.proofs.table_of.Given as goal

abbrev pub invariant-loop-x : goal.invariant-loop-x
invariant-loop-x g l = Filling l.len l.end l.x (goal.F-post g l.entry) l.table

-- `edge_text::reading::digits` meets its contract: what was passed are digits, and their value is kept.
use Rattle.edge_text.proofs.Scan.{Gathering}
use Rattle.edge_text.proofs.reading.digits.Given as goal

abbrev pub invariant-loop-end : goal.invariant-loop-end
invariant-loop-end l = Gathering l.text l.at l.value l.end

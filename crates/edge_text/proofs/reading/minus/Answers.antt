-- `edge_text::reading::minus` meets its contract.
use Rattle.edge_text.proofs.Lines.{minus_zero, minus_at}
use Rattle.edge_text.proofs.reading.minus.Goals as goal

pub returns-then-value-lt1 : goal.returns-then-value-lt1
returns-then-value-lt1 c = minus_zero c.in_ok-value.ensures c.if-value-lt1.true

pub returns : goal.returns
returns c = minus_at c.in_ok-value.ensures _ c.if-value-lt1.false c.minus_code.ensures

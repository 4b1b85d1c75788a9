-- `edge_text::reading::coupling` meets its contract.
use Rattle.lemmas.specs.Tells.{told}
use Rattle.edge_text.specs.Outcome.{number_found}
use Rattle.edge_text.specs.Reading.{HasMinus}
use Rattle.edge_text.proofs.Lines.{minus_as, plus_at}
use Rattle.edge_text.proofs.reading.coupling.Goals as goal

pub returns-then-has_minus : goal.returns-then-has_minus
returns-then-has_minus c =
    let has : HasMinus c.args.text.now c.args.at = told c.if-has_minus.true c.has_minus.ensures in
    minus_as (number_found c.minus.result) has c.minus.ensures

pub returns : goal.returns
returns c = plus_at c.in_ok-value.ensures _ c.plus_code.ensures

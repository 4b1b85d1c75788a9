-- `drawn_row` meets its contract.
use Rattle.std.proofs.Common.{ap, ◌∙◌}
use Rattle.draws.specs.Answer.{taken_row}
use Rattle.draws.proofs.Telling.{taken_row_or}
use Rattle.draws.proofs.passes.drawn_row.Goals as goal

pub returns : goal.returns
returns c = c.unwrap_or.ensures ∙ (taken_row_or c.args.s c.row_by.result ∙ ap taken_row c.row_by.ensures)

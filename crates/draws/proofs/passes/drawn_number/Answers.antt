-- `drawn_number` meets its contract.
use Rattle.std.proofs.Common.{ap, ◌∙◌}
use Rattle.draws.specs.Answer.{taken}
use Rattle.draws.proofs.Telling.{taken_or}
use Rattle.draws.proofs.passes.drawn_number.Goals as goal

pub returns : goal.returns
returns c = c.unwrap_or.ensures ∙ (taken_or c.args.s c.number.result ∙ ap taken c.number.ensures)

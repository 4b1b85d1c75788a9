-- `edge_text::reading::line` meets its contract: a site, a site and a coupling, one behind another.
use Rattle.edge_text.proofs.Lines.{line_no_to, line_no_end}
use Rattle.edge_text.proofs.reading.line.Goals as goal

pub returns-in_err-to : goal.returns-in_err-to
returns-in_err-to c = rw c.from_residual-in_err-to.ensures (line_no_to c.in_ok-from.ensures c.in_err-to.ensures)

pub returns-in_err-coupling : goal.returns-in_err-coupling
returns-in_err-coupling c =
    rw c.from_residual-in_err-coupling.ensures (line_no_end c.in_ok-from.ensures c.in_ok-to.ensures c.in_err-coupling.ensures)

-- `edge_text::reading::exact` meets its contract.
use Rattle.edge_text.proofs.Lines.{exact_over}
use Rattle.edge_text.proofs.reading.exact.Goals as goal

pub returns-then-most-found : goal.returns-then-most-found
returns-then-most-found c = exact_over c.in_ok-found.ensures c.args.most c.requires.low c.requires.ended.no_digit c.if-most-found.true

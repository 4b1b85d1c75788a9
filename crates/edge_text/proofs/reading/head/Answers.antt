-- `edge_text::reading::head` meets its contract.
use Rattle.edge_text.specs.Outcome.{number_found}
use Rattle.edge_text.proofs.Lines.{head_other, head_as}
use Rattle.edge_text.proofs.reading.head.Goals as goal

pub returns-then-sites-n : goal.returns-then-sites-n
returns-then-sites-n c = head_other _ _ c.args.most c.in_ok-sites.ensures c.if-sites-n.true

pub returns : goal.returns
returns c = head_as _ _ c.args.most c.in_ok-sites.ensures c.if-sites-n.false (number_found c.exact-2.result) c.exact-2.ensures

-- `edge_text::writing::put_then` meets its contract.
use Rattle.edge_text.specs.Writing.{put_one, put_both}
use Rattle.edge_text.proofs.writing.put_then.Goals as goal

pub returns : goal.returns
returns c = put_both c.put_number-e.ensures (put_one _ _ _)

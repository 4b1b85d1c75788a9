-- `edge_text::writing::put_head` meets its contract: two numbers, one behind the other.
use Rattle.edge_text.specs.Writing.{put_both}
use Rattle.edge_text.proofs.Puts.{head_parts}
use Rattle.edge_text.proofs.writing.put_head.Goals as goal

pub returns : goal.returns
returns c = rw (head_parts c.args.n c.args.m) (put_both c.put_then-p.ensures c.put_then.ensures)

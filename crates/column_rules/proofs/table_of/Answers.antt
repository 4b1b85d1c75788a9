-- `column_rules::table_of` meets its contract. The invariant: the entries below x are written, and the others are 0.
use Rattle.column_rules.proofs.Bytes.{filling_none}
use Rattle.column_rules.proofs.table_of.Goals as goal

pub loop-x-init : goal.loop-x-init
loop-x-init g c = filling_none c.args.len _ c.requires.len_bound

-- `look` meets its contract: the columns of the rows, and the look at them.
use Rattle.column_rules.specs.Sight.{rows_look, look_sights}
use Rattle.column_rules.proofs.look.Goals as goal

pub look_columns-requires : goal.look_columns-requires
look_columns-requires c = rows_look c.requires.panel c.pack.ensures c.requires.flags_long

pub returns : goal.returns
returns c = look_sights c.requires.panel c.pack.ensures c.look_columns.ensures

-- `column_rules::flip_table` meets its contract: what the closure answers is the entry.
use Rattle.std.proofs.Common.{rules}
use Rattle.column_rules.proofs.Bytes.{table_from}
use Rattle.column_rules.proofs.flip_table.Goals as goal

pub returns : goal.returns
returns c = table_from c.requires.few (λ x r h p. search rules) c.table_of.ensures

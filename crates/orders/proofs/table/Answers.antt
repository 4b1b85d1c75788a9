-- `table` meets its contract: the code's table is the one of the definitions.
use borrow.Author.Rules.{rules}
use Rattle.orders.specs.Table.{orders}
use Rattle.orders.proofs.table.Goals as goal

pub returns : goal.returns
unfolding orders
returns c = search rules

-- `edges::list::Table::entry_length` meets its contract.
use mathlib.Core.Path.{sym, ◌∙◌}
use Rattle.edges.specs.Listing.{small_edge}
use Rattle.edges.proofs.Lists.{none_long, one_long}
use Rattle.edges.proofs.list.Table.entry_length.Goals as goal

pub returns-then-is_zero : goal.returns-then-is_zero
returns-then-is_zero c = none_long c.requires (sym c.is_zero.ensures ∙ c.if-is_zero.true)

pub line_length-requires : goal.line_length-requires
line_length-requires c = rw c.edge_at.ensures (small_edge c.requires)

pub returns : goal.returns
returns c = one_long c.requires (sym c.is_zero.ensures ∙ c.if-is_zero.false) _ _ c.edge_at.ensures c.line_length.ensures

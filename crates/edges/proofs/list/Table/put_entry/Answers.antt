-- `edges::list::Table::put_entry` meets its contract.
use mathlib.Core.Path.{sym, ◌∙◌}
use Rattle.edges.specs.Listing.{small_edge}
use Rattle.edges.proofs.Lists.{none_put, one_put, one_room}
use Rattle.edges.proofs.list.Table.put_entry.Goals as goal

pub returns-then-is_zero : goal.returns-then-is_zero
returns-then-is_zero c = none_put c.requires.bond (sym c.is_zero.ensures ∙ c.if-is_zero.true) _ _

pub put_line-requires : goal.put_line-requires
put_line-requires c =
    let room = one_room c.requires.bond (sym c.is_zero.ensures ∙ c.if-is_zero.false) _ _ c.requires.fits in
    rw c.edge_at.ensures (record { small = small_edge c.requires.bond; fits = room })

pub returns : goal.returns
returns c = one_put c.requires.bond (sym c.is_zero.ensures ∙ c.if-is_zero.false) _ _ _ _ _ c.edge_at.ensures c.put_line.ensures

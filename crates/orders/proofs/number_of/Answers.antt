-- `number_of` meets its contract: the rank of a permutation is its place in the table.
use Rattle.lemmas.specs.Tells.{told}
use Rattle.orders.proofs.Laws.{rank_stands}
use Rattle.orders.proofs.Rows.{row_alone}
use Rattle.orders.proofs.number_of.Goals as goal

pub returns : goal.returns
returns c =
    let xs = c.args.row.now in
    let h = row_alone xs (told c.if-not-permutations_ok.false c.permutations_ok.ensures) in
    record { valid = (c.if-row-ne5.false, (h, tt)); stands = rw c.rank.ensures (rank_stands xs h) }

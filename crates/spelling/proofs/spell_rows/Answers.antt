-- `spell_rows` meets its contract: so many cells are written.
use Rattle.std.proofs.Common.{◌∙◌, sym, arith}
use Rattle.lemmas.specs.Stores.{filled_none, filled_more, filled_to}
use Rattle.spelling.proofs.Cells.{cell, all_rows}
use Rattle.spelling.proofs.spell_rows.Goals as goal

pub loop-i-init : goal.loop-i-init
loop-i-init c = filled_none _ _ _

pub loop-k-init : goal.loop-k-init
loop-k-init c = filled_to c.loop-i.invariant (omega arith)

pub loop-k-preserved : goal.loop-k-preserved
loop-k-preserved c =
    let here = cell c.args.numbers.now c.loop-i.i c.loop-k.k c.loop-k-test.true in
    filled_to (filled_more c.loop-k.invariant (omega arith) (c.spell.ensures ∙ sym here)) (omega arith)

pub loop-i-preserved : goal.loop-i-preserved
loop-i-preserved c = filled_to c.loop-k.invariant (omega arith)

pub returns : goal.returns
returns c = all_rows c.args.numbers.now c.requires.exact (filled_to c.loop-i.invariant (omega arith))

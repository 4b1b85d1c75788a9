-- `choose_members` meets its contract, block by block.
use Rattle.std.specs.Prelude.{◌≡◌, min}
use Rattle.std.proofs.Common.{le_refl, arith}
use Rattle.task_choose.specs.Blocks.{upto_more, upto_end}
use Rattle.task_choose.proofs.grown.choose_members.Goals as goal

pub loop-from-preserved : goal.loop-from-preserved
loop-from-preserved c =
    let at : min c.loop-from.from c.args.t.n ≡ c.loop-from.from = omega arith in
    upto_more (rw at at c.loop-from.invariant) (omega arith) (omega arith) (rw c.min-to.ensures at c.choose_block.ensures)

pub returns-2 : goal.returns-2
returns-2 c =
    let at : min c.loop-from.from c.args.t.n ≡ c.loop-from.from = omega arith in
    let to : c.min-to.result ≡ c.args.t.n = omega arith in
    upto_end (upto_more (rw at at c.loop-from.invariant) (omega arith) (le_refl _) (rw to at c.choose_block.ensures)) (le_refl _)

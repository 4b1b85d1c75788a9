-- `step_by_numbers` meets its contract: the rows of the numbers are lent to `overlap_step`.
use Prim.Native.Nat.{ℕ}
use lib.ListN.{length-replicate}
use Rattle.paper.specs.Answer.Cases.{answer_of}
use Rattle.coded.proofs.Spelled.{spelled_step}
use Rattle.coded.proofs.numbers.step_by_numbers.Goals as goal

pub returns : goal.returns
returns c =
    let a = c.args in
    spelled_step _ _ a.choices.now _ c.spell_into-len.new.area a.greys.now c.spell_into-len.result _ _ (answer_of c.overlap_step.result) _ _
    c.requires c.if-group-ne5.false (length-replicate {A = ℕ} 20480 0) c.spell_into-len.ensures c.overlap_step.ensures

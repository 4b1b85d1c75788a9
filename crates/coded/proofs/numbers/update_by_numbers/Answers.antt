-- `update_by_numbers` meets its contract: the rows of the numbers are lent to `overlap_update`.
use Prim.Native.Nat.{ℕ}
use lib.ListN.{length-replicate}
use Rattle.paper.specs.Answer.Cases.{sweep_answer_of}
use Rattle.paper.specs.Answer.Task.{Sweep}
use Rattle.paper.specs.Answer.Made.{sweep_of}
use Rattle.coded.proofs.Spelled.{spelled_sweep}
use Rattle.coded.proofs.numbers.update_by_numbers.Goals as goal

pub returns : goal.returns
returns c =
    let a = c.args in
    let w : Sweep = sweep_of a.plan a.fwd.now a.bwd.now a.pins.now a.couplings.now a.order.now a.masks.now a.temperatures.now
    a.cuts.now a.references.now a.seeds.now a.choices.now a.greys.now in
    spelled_sweep _ w a.choices.now _ c.spell_into-len.new.area c.spell_into-len.result _ _ (sweep_answer_of c.overlap_update.result) _ _
    c.requires c.if-plan-ne5.false (length-replicate {A = ℕ} 245760 0) c.spell_into-len.ensures c.overlap_update.ensures

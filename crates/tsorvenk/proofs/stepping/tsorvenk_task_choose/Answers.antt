-- `tsorvenk_task_choose` meets its contract: a code that is none is refused, and any other call is answered by `task_choose`.
use Rattle.lemmas.specs.Tells.{passed}
use Rattle.tsorvenk.specs.Number.{Coded}
use Rattle.tsorvenk.proofs.Told.{same_call_at, same_choices}
use Rattle.tsorvenk.proofs.Checked.{one}
use Rattle.tsorvenk.proofs.Tasks.{choose_known}
use mathlib.Core.Bool.{not}
use mathlib.Core.Path.{ap}
use Rattle.tsorvenk.proofs.stepping.tsorvenk_task_choose.Goals as goal

pub returns : goal.returns
returns c =
    let known : let a = c.args in Coded a.mode a.form 0 0 = passed c.codes_ok.result (ap not c.if-not-codes_ok.false) c.codes_ok.ensures in
    let a = c.args in
    rw c.verdict_of.ensures
    (choose_known (same_call_at c.mode_of-m.ensures c.form_of.ensures one)
    (same_choices a.flips.now a.perms.now c.taken.ensures c.mode_of-m.ensures) known c.task_choose.ensures)

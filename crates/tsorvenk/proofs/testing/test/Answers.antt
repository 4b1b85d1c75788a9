-- `test` meets its contract: a code that is none is refused, and any other call is answered by `test_sweep`.
use Rattle.lemmas.specs.Tells.{passed}
use Rattle.tsorvenk.specs.Number.{Coded, keeps_of}
use Rattle.tsorvenk.proofs.Told.{same_keeping}
use Rattle.tsorvenk.proofs.Swept.{same_sweep}
use Rattle.tsorvenk.proofs.Tasks.{test_known}
use mathlib.Core.Bool.{not}
use mathlib.Core.Path.{ap}
use Rattle.tsorvenk.proofs.testing.test.Goals as goal

pub returns : goal.returns
returns c =
    let known : let a = c.args in Coded a.mode a.form 0 a.keeps = passed c.codes_ok.result (ap not c.if-not-codes_ok.false) c.codes_ok.ensures in
    let a = c.args in
    rw c.verdict_of.ensures
    (test_known (same_keeping c.keeps_of.ensures c.form_of.ensures)
    (same_sweep a.flips.now a.perms.now c.keeps_of.result (keeps_of a.keeps) c.mode_of-m.ensures c.form_of.ensures) known
    (rw c.taken.ensures at c.test_sweep.ensures))

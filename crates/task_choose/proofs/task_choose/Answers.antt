-- `task_choose` meets its contract: the tests, then the columns by the form.
use Rattle.std.specs.Prelude.{◌≡◌, Err}
use Rattle.std.proofs.lemmas.Grind.{common_steps}
use native.Mathlib.Omega.{arith}
use Rattle.paper.specs.declared.Refusal.{Refusal}
use Rattle.std.proofs.Common.{sym, subst}
use mathlib.Core.List.{[]}
use Rattle.paper.specs.Panel.Input.{Call, Choices}
use Rattle.paper.specs.Panel.Made.{call_of, choices_of}
use Rattle.paper.specs.Refusal.Verdict.{Verdict}
use Rattle.paper.specs.Refusal.Numbers.{number_of, refused}
use Rattle.packing.specs.Bytes.{own_task}
use Rattle.task_steps.specs.Choose.{Found, found_of}
use Rattle.task_choose.specs.Answered.{refused_by}
use Rattle.task_choose.proofs.task_choose.Goals as goal

-- a refusal has a number
not_zero : (e : Refusal) → number_of e ≡ 0 → ⊥
not_zero e h = refused [] e (subst (Verdict []) (sym h) tt)

pub returns-in_err-test_choose : goal.returns-in_err-test_choose
returns-in_err-test_choose c =
    let e : Refusal = c.in_err-test_choose.field-0.0 in
    let back : c.from_residual.result ≡ Err e = grind (arith, common_steps) in
    let a = c.args in
    let call_at : Call = call_of (own_task a.t) [] [] a.pins.now [] [] in
    let choicesAt : Choices = choices_of a.choices.now a.greys.now in
    let found_at : Found = found_of a.labels.now a.grey_labels.now a.members.now a.blue.now in
    rw back
    (refused_by call_at choicesAt a.rows.now found_at a.area.now (number_of e) (not_zero e) c.in_err-test_choose.ensures)

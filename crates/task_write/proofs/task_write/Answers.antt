-- `task_write` meets its contract: the tests, then the rows.
use Rattle.std.specs.Prelude.{◌≡◌, Err}
use Rattle.std.proofs.lemmas.Grind.{common_steps}
use native.Mathlib.Omega.{arith}
use Rattle.paper.specs.declared.Refusal.{Refusal}
use Rattle.std.proofs.Common.{sym, subst}
use mathlib.Core.Bool.{Bool}
use mathlib.Core.List.{[]}
use Rattle.paper.specs.Panel.Made.{call_of}
use Rattle.paper.specs.Panel.Takes.{keeps_by}
use Rattle.paper.specs.Refusal.Rule.{Kept}
use Rattle.paper.specs.Refusal.Verdict.{Verdict}
use Rattle.paper.specs.Refusal.Numbers.{number_of, refused}
use Rattle.packing.specs.Bytes.{own_task}
use Rattle.task_steps.specs.Write.{Shape, shape_of, Writing, writing_of, write_rules}
use Rattle.task_write.specs.Wrote.{ready_of, refused_by}
use Rattle.task_write.proofs.task_write.Goals as goal

-- a refusal has a number
not_zero : (e : Refusal) → number_of e ≡ 0 → ⊥
not_zero e h = refused [] e (subst (Verdict []) (sym h) tt)

pub returns-in_err-test_write : goal.returns-in_err-test_write
returns-in_err-test_write c =
    let e : Refusal = c.in_err-test_write.field-0.0 in
    let back : c.from_residual.result ≡ Err e = grind (arith, common_steps) in
    let keepingAt : Bool = keeps_by c.args.t.keeps c.args.t.form in
    let shape_at : Shape = let a = c.args in shape_of (call_of (own_task a.t) a.fwd.now a.bwd.now [] a.couplings.now []) in
    let lent_at : Writing = let a = c.args in writing_of a.rows.now a.members.now a.area.now a.totals.now in
    rw back (refused_by keepingAt shape_at lent_at (number_of e) (not_zero e) c.in_err-test_write.ensures)

pub write_grown-requires-clause-ready : goal.write_grown-requires-clause-ready
write_grown-requires-clause-ready c =
    let keepingAt : Bool = keeps_by c.args.t.keeps c.args.t.form in
    let shape_at : Shape = let a = c.args in shape_of (call_of (own_task a.t) a.fwd.now a.bwd.now [] a.couplings.now []) in
    let lent_at : Writing = let a = c.args in writing_of a.rows.now a.members.now a.area.now a.totals.now in
    let kept : Kept (write_rules keepingAt shape_at lent_at) = c.in_ok-test_write.ensures in
    let a = c.args in
    ready_of a.t a.fwd.now a.bwd.now a.couplings.now a.rows.now a.members.now a.area.now a.totals.now kept

pub write_labelled-requires : goal.write_labelled-requires
write_labelled-requires c =
    let keepingAt : Bool = keeps_by c.args.t.keeps c.args.t.form in
    let shape_at : Shape = let a = c.args in shape_of (call_of (own_task a.t) a.fwd.now a.bwd.now [] a.couplings.now []) in
    let lent_at : Writing = let a = c.args in writing_of a.rows.now a.members.now a.area.now a.totals.now in
    let kept : Kept (write_rules keepingAt shape_at lent_at) = c.in_ok-test_write.ensures in
    let a = c.args in
    ready_of a.t a.fwd.now a.bwd.now a.couplings.now a.rows.now a.members.now a.area.now a.totals.now kept

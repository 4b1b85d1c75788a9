-- `test_tasks` meets its contract. The invariant: the tasks below k keep their rules.
use Prim.Native.Nat.{◌<◌}
use Rattle.std.specs.Prelude.{◌≡◌, refl, [], Err}
use Rattle.std.proofs.Common.{sym, subst}
use Rattle.std.proofs.lemmas.Grind.{common_steps}
use Rattle.paper.specs.declared.Refusal.{Refusal}
use Rattle.paper.specs.Refusal.Verdict.{Verdict}
use Rattle.paper.specs.Refusal.Numbers.{number_of, refused}
use native.Mathlib.Omega.{arith}
use Rattle.tasks.specs.Plan.{tasks_of}
use Rattle.sweep_tests.specs.Tasks.{told_more, told_broken}
use Rattle.sweep_tests.proofs.test_tasks.Goals as goal

-- a refusal has a number
not_zero : (e : Refusal) → number_of e ≡ 0 → ⊥
not_zero e h = refused [] e (subst (Verdict []) (sym h) tt)

pub returns-in_err-test_task : goal.returns-in_err-test_task
returns-in_err-test_task c =
    let e : Refusal = c.in_err-test_task.field-0.0 in
    let back : c.from_residual.result ≡ Err e = grind (arith, common_steps) in
    let below : c.loop-k.k < tasks_of c.args.plan = rw c.task_count-count.ensures at c.loop-k-test.true in
    rw back (told_broken below c.loop-k.invariant (not_zero e) c.in_err-test_task.ensures)

pub loop-k-preserved : goal.loop-k-preserved
loop-k-preserved c = told_more c.loop-k.invariant refl c.in_ok-test_task.ensures

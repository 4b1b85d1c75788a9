-- `overlap_update` meets its contract: the tests, then the tasks.
use Rattle.std.specs.Prelude.{◌≡◌, [], Err}
use Rattle.std.proofs.Common.{sym, subst}
use Rattle.std.proofs.lemmas.Grind.{common_steps}
use native.Mathlib.Omega.{arith}
use mathlib.Core.Bool.{Bool}
use Rattle.paper.specs.Panel.Input.{Buffers}
use Rattle.paper.specs.Answer.Task.{Sweep}
use Rattle.paper.specs.Answer.Totals.{swept_rules}
use Rattle.paper.specs.Panel.Takes.{keeps_by}
use Rattle.paper.specs.Panel.Made.{buffers_of}
use Rattle.paper.specs.Refusal.Rule.{Kept}
use Rattle.paper.specs.Answer.Made.{sweep_of}
use Rattle.paper.specs.declared.Refusal.{Refusal}
use Rattle.paper.specs.Refusal.Verdict.{Verdict}
use Rattle.paper.specs.Refusal.Numbers.{number_of, refused}
use Rattle.paper.specs.Answer.Cases.{sweep_answer_by}
use Rattle.sweep_tasks.specs.Updating.{refused_sweep, swept_kept, swept_asked, swept_answers}
use Rattle.sweep.proofs.overlap_update.Goals as goal

-- a refusal has a number
not_zero : (e : Refusal) → number_of e ≡ 0 → ⊥
not_zero e h = refused [] e (subst (Verdict []) (sym h) tt)

pub returns-in_err-test_sweep : goal.returns-in_err-test_sweep
returns-in_err-test_sweep c =
    let e : Refusal = c.in_err-test_sweep.field-0.0 in
    let back : c.from_residual.result ≡ Err e = grind (arith, common_steps) in
    let a = c.args in
    let W : Sweep =
    sweep_of a.plan a.fwd.now a.bwd.now a.pins.now a.couplings.now a.order.now a.masks.now a.temperatures.now a.cuts.now
    a.references.now a.seeds.now a.choices.now a.greys.now in
    let B : Buffers =
    buffers_of a.spins.now a.labels.now a.grey_labels.now a.counts.now a.sizes.now a.members.now a.found.now a.grey_found.now in
    let keeping : Bool = keeps_by a.plan.keeps a.plan.form in
    rw back (refused_sweep keeping W B a.totals.now (number_of e) (not_zero e) c.in_err-test_sweep.ensures)

pub run_tasks-counts-requires-clause-kept : goal.run_tasks-counts-requires-clause-kept
run_tasks-counts-requires-clause-kept c =
    let a = c.args in
    let W : Sweep =
    sweep_of a.plan a.fwd.now a.bwd.now a.pins.now a.couplings.now a.order.now a.masks.now a.temperatures.now a.cuts.now
    a.references.now a.seeds.now a.choices.now a.greys.now in
    let B : Buffers =
    buffers_of a.spins.now a.labels.now a.grey_labels.now a.counts.now a.sizes.now a.members.now a.found.now a.grey_found.now in
    let keeping : Bool = keeps_by a.plan.keeps a.plan.form in
    let kept : Kept (swept_rules keeping W B a.totals.now) =
    c.in_ok-test_sweep.ensures in
    swept_kept keeping W B a.totals.now kept

pub run_tasks-counts-requires-clause-totals_asked : goal.run_tasks-counts-requires-clause-totals_asked
run_tasks-counts-requires-clause-totals_asked c =
    let a = c.args in
    let W : Sweep =
    sweep_of a.plan a.fwd.now a.bwd.now a.pins.now a.couplings.now a.order.now a.masks.now a.temperatures.now a.cuts.now
    a.references.now a.seeds.now a.choices.now a.greys.now in
    let B : Buffers =
    buffers_of a.spins.now a.labels.now a.grey_labels.now a.counts.now a.sizes.now a.members.now a.found.now a.grey_found.now in
    let keeping : Bool = keeps_by a.plan.keeps a.plan.form in
    let kept : Kept (swept_rules keeping W B a.totals.now) =
    c.in_ok-test_sweep.ensures in
    swept_asked keeping W B a.totals.now kept

pub returns : goal.returns
returns c =
    let a = c.args in
    let W : Sweep =
    sweep_of a.plan a.fwd.now a.bwd.now a.pins.now a.couplings.now a.order.now a.masks.now a.temperatures.now a.cuts.now
    a.references.now a.seeds.now a.choices.now a.greys.now in
    let B : Buffers =
    buffers_of a.spins.now a.labels.now a.grey_labels.now a.counts.now a.sizes.now a.members.now a.found.now a.grey_found.now in
    let keeping : Bool = keeps_by a.plan.keeps a.plan.form in
    let n = c.run_tasks-counts.new in
    let B' : Buffers = buffers_of n.spins n.labels n.grey_labels n.counts n.sizes n.members n.found n.grey_found in
    let kept : Kept (swept_rules keeping W B a.totals.now) =
    c.in_ok-test_sweep.ensures in
    swept_answers keeping W B a.totals.now kept (sweep_answer_by c.run_tasks-counts.result) B' n.totals c.run_tasks-counts.ensures.sweep_answers
    c.run_tasks-counts.ensures.totals_after

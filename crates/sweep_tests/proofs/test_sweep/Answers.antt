-- `test_sweep` meets its contract: the lengths, then the values.
use Rattle.std.specs.Prelude.{◌≡◌, [], Err}
use Rattle.std.proofs.Common.{sym, subst}
use Rattle.std.proofs.lemmas.Grind.{common_steps}
use native.Mathlib.Omega.{arith}
use Rattle.paper.specs.Panel.Input.{Buffers}
use Rattle.paper.specs.Panel.Made.{buffers_of}
use Rattle.paper.specs.Refusal.Rule.{Kept}
use Rattle.paper.specs.declared.Refusal.{Refusal}
use Rattle.paper.specs.Refusal.Verdict.{Verdict}
use Rattle.paper.specs.Refusal.Numbers.{number_of, verdict_of, refused}
use Rattle.paper.specs.Answer.Task.{Sweep}
use Rattle.paper.specs.Answer.Made.{sweep_of}
use Rattle.sweep_tests.specs.Whole.{lengths_rules, broken_lengths, past_lengths}
use Rattle.sweep_tests.proofs.test_sweep.Goals as goal

-- a refusal has a number
not_zero : (e : Refusal) → number_of e ≡ 0 → ⊥
not_zero e h = refused [] e (subst (Verdict []) (sym h) tt)

pub returns-in_err-test_lengths : goal.returns-in_err-test_lengths
returns-in_err-test_lengths c =
    let e : Refusal = c.in_err-test_lengths.field-0.0 in
    let back : c.from_residual.result ≡ Err e = grind (arith, common_steps) in
    let W : Sweep = let a = c.args in
    sweep_of a.plan a.fwd.now a.bwd.now a.pins.now a.couplings.now a.order.now a.masks.now a.temperatures.now
    a.cuts.now a.references.now a.seeds.now a.choices.now a.greys.now in
    let B : Buffers = let a = c.args in
    buffers_of a.spins.now a.labels.now a.grey_labels.now a.counts.now a.sizes.now a.members.now a.found.now
    a.grey_found.now in
    rw back (broken_lengths c.args.plan.keeps W B c.args.totals.now (number_of e) (not_zero e) c.in_err-test_lengths.ensures)

pub returns : goal.returns
returns c =
    let W : Sweep = let a = c.args in
    sweep_of a.plan a.fwd.now a.bwd.now a.pins.now a.couplings.now a.order.now a.masks.now a.temperatures.now
    a.cuts.now a.references.now a.seeds.now a.choices.now a.greys.now in
    let B : Buffers = let a = c.args in
    buffers_of a.spins.now a.labels.now a.grey_labels.now a.counts.now a.sizes.now a.members.now a.found.now
    a.grey_found.now in
    let long : Kept (lengths_rules c.args.plan.keeps W B c.args.totals.now) = c.in_ok-test_lengths.ensures in
    let a = c.args in
    past_lengths a.plan.keeps W B a.totals.now long (verdict_of c.test_values.result)
    (c.test_values.ensures.is a.labels.now a.grey_labels.now a.counts.now a.sizes.now a.members.now
    a.found.now a.grey_found.now)

-- `overlap_step` meets its contract: the tests, then the task.
use Rattle.std.specs.Prelude.{◌≡◌, Err}
use Rattle.std.proofs.lemmas.Grind.{common_steps}
use native.Mathlib.Omega.{arith}
use mathlib.Core.Bool.{Bool}
use mathlib.Core.List.{List}
use Rattle.paper.specs.Panel.Input.{Call, Choices, Buffers}
use Rattle.paper.specs.Panel.Made.{call_of, choices_of, buffers_of}
use Rattle.paper.specs.Panel.Takes.{keeps_by}
use Rattle.paper.specs.Refusal.Rule.{Rule, Kept}
use Rattle.paper.specs.declared.Refusal.{Refusal}
use Rattle.paper.specs.Refusal.Numbers.{number_of, refused}
use Rattle.paper.specs.Answer.Cases.{answer_by}
use Rattle.paper.specs.Answer.Totals.{kept_rules}
use Rattle.perform.specs.Verdicts.{refused_by, accepted_by}
use Rattle.overlap.proofs.overlap_step.Goals as goal

pub returns-in_err-test_call : goal.returns-in_err-test_call
returns-in_err-test_call c =
    let keepingAt : Bool = keeps_by c.args.t.keeps c.args.t.form in
    let call_at : Call = let a = c.args in
    call_of a.t a.fwd.now a.bwd.now a.pins.now a.couplings.now a.cuts.now in
    let choicesAt : Choices = choices_of c.args.choices.now c.args.greys.now in
    let lent_at : Buffers = let a = c.args in
    buffers_of a.spins.now a.labels.now a.grey_labels.now a.counts.now a.sizes.now a.members.now a.found.now
    a.grey_found.now in
    let rulesAt : List Rule = kept_rules keepingAt call_at choicesAt lent_at c.args.totals.now in
    let e : Refusal = c.in_err-test_call.field-0.0 in
    let back : c.from_residual.result ≡ Err e = grind (arith, common_steps) in
    rw back (refused_by keepingAt call_at choicesAt lent_at c.args.totals.now (number_of e) (refused rulesAt e c.in_err-test_call.ensures))

pub returns : goal.returns
returns c =
    let keepingAt : Bool = keeps_by c.args.t.keeps c.args.t.form in
    let call_at : Call = let a = c.args in
    call_of a.t a.fwd.now a.bwd.now a.pins.now a.couplings.now a.cuts.now in
    let choicesAt : Choices = choices_of c.args.choices.now c.args.greys.now in
    let lent_at : Buffers = let a = c.args in
    buffers_of a.spins.now a.labels.now a.grey_labels.now a.counts.now a.sizes.now a.members.now a.found.now
    a.grey_found.now in
    let rulesAt : List Rule = kept_rules keepingAt call_at choicesAt lent_at c.args.totals.now in
    let kept : Kept rulesAt = c.in_ok-test_call.ensures in
    accepted_by keepingAt call_at choicesAt lent_at c.args.totals.now (answer_by c.run_form.result) _ _ kept
    c.run_form.ensures.answers c.run_form.ensures.totals_after

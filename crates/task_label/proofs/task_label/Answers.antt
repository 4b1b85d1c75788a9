-- `task_label` meets its contract: the tests, then what the form finds.
use Rattle.std.specs.Prelude.{Err}
use Rattle.std.proofs.lemmas.Grind.{common_steps}
use native.Mathlib.Omega.{arith}
use Rattle.paper.specs.declared.Refusal.{Refusal}
use mathlib.Core.Path.{◌≡◌, refl, sym, ◌∙◌}
use mathlib.Core.Bool.{true}
use mathlib.Core.List.{List}
use Rattle.paper.specs.Panel.Input.{Call, Choices, Buffers}
use Rattle.paper.specs.Panel.Made.{call_of, choices_of, buffers_of}
use Rattle.paper.specs.Panel.Takes.{grows_by, labels_by}
use Rattle.paper.specs.Refusal.Rule.{Rule, Kept}
use Rattle.paper.specs.Refusal.Numbers.{number_of, refused}
use Rattle.paper.specs.Answer.Cases.{answer_by}
use Rattle.laws.specs.Forms.{labels_else}
use Rattle.grow.specs.Task.{Outputs}
use Rattle.packing.specs.Bytes.{own_task}
use Rattle.task_steps.specs.Label.{label_rules}
use Rattle.task_label.specs.Answered.{refused_by, grown_answers, labelled_answers}
use Rattle.task_label.proofs.task_label.Goals as goal

pub returns-in_err-test_label : goal.returns-in_err-test_label
returns-in_err-test_label c =
    let e : Refusal = c.in_err-test_label.field-0.0 in
    let back : c.from_residual.result ≡ Err e = grind (arith, common_steps) in
    let a = c.args in
    let call_at : Call = call_of (own_task a.t) a.fwd.now a.bwd.now a.pins.now a.couplings.now a.cuts.now in
    let choicesAt : Choices = choices_of a.choices.now a.greys.now in
    let lent_at : Buffers =
    buffers_of a.rows.now a.labels.now a.grey_labels.now a.counts.now a.sizes.now a.members.now a.found.now
    a.grey_found.now in
    let rulesAt : List Rule = label_rules call_at choicesAt lent_at a.blue.now in
    rw back (refused_by call_at choicesAt lent_at a.blue.now (number_of e) (refused rulesAt e c.in_err-test_label.ensures))

pub returns-then-grows : goal.returns-then-grows
returns-then-grows c =
    let a = c.args in
    let call_at : Call = call_of (own_task a.t) a.fwd.now a.bwd.now a.pins.now a.couplings.now a.cuts.now in
    let choicesAt : Choices = choices_of a.choices.now a.greys.now in
    let lent_at : Buffers =
    buffers_of a.rows.now a.labels.now a.grey_labels.now a.counts.now a.sizes.now a.members.now a.found.now
    a.grey_found.now in
    let rulesAt : List Rule = label_rules call_at choicesAt lent_at a.blue.now in
    let kept : Kept rulesAt = c.in_ok-test_label.ensures in
    let others : Outputs =
    record {
      labels = a.labels.now;
      grey_labels = a.grey_labels.now;
      counts = a.counts.now;
      sizes = a.sizes.now;
      found = a.found.now;
      grey_found = a.grey_found.now;
    } in
    let grows : grows_by c.args.t.form ≡ true = sym c.grows.ensures ∙ c.if-grows.true in
    grown_answers call_at choicesAt others a.rows.now a.members.now a.blue.now _ _ (answer_by c.label_grown.result) grows kept
    c.label_grown.ensures

pub returns : goal.returns
returns c =
    let a = c.args in
    let call_at : Call = call_of (own_task a.t) a.fwd.now a.bwd.now a.pins.now a.couplings.now a.cuts.now in
    let choicesAt : Choices = choices_of a.choices.now a.greys.now in
    let lent_at : Buffers =
    buffers_of a.rows.now a.labels.now a.grey_labels.now a.counts.now a.sizes.now a.members.now a.found.now
    a.grey_found.now in
    let rulesAt : List Rule = label_rules call_at choicesAt lent_at a.blue.now in
    let kept : Kept rulesAt = c.in_ok-test_label.ensures in
    let labels : labels_by c.args.t.form ≡ true = labels_else c.args.t.form (sym c.grows.ensures ∙ c.if-grows.false) in
    let w = c.label_rows.ensures a.bwd.now in
    let n = c.label_rows.new in
    let after : Buffers =
    buffers_of a.rows.now n.labels n.grey_labels n.counts n.sizes a.members.now n.found n.grey_found in
    labelled_answers call_at choicesAt lent_at after a.blue.now (answer_by c.label_rows.result) labels kept refl w.says
    (w.seen a.members.now)

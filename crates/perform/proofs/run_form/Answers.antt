-- `run_form` meets its contract: what the form does not take is not lent, and stays.
use mathlib.Core.Path.{◌≡◌, sym, ◌∙◌}
use mathlib.Core.Bool.{true}
use mathlib.Core.List.{[]}
use Rattle.paper.specs.Panel.Takes.{grows_by, labels_by}
use Rattle.laws.specs.Forms.{labels_else}
use Rattle.grow.specs.Task.{Outputs, no_outputs, grown_with}
use Rattle.moves.specs.Answered.{valid_with}
use Rattle.perform.proofs.run_form.Goals as goal

pub run_grow-requires : goal.run_grow-requires
run_grow-requires c =
    let a = c.args in
    -- the form that grows does not take these
    let others : Outputs = record {
      labels = a.labels.now;
      grey_labels = a.grey_labels.now;
      counts = a.counts.now;
      sizes = a.sizes.now;
      found = a.found.now;
      grey_found = a.grey_found.now;
    } in
    let grows : grows_by a.t.form ≡ true = sym c.grows.ensures ∙ c.if-grows.true in
    record {
      grow_asks = record { grows = grows; valid = grown_with others no_outputs grows c.requires.valid };
      totals_ready = c.requires.totals_ready;
    }

pub returns-then-grows : goal.returns-then-grows
returns-then-grows c =
    let a = c.args in
    let others : Outputs = record {
      labels = a.labels.now;
      grey_labels = a.grey_labels.now;
      counts = a.counts.now;
      sizes = a.sizes.now;
      found = a.found.now;
      grey_found = a.grey_found.now;
    } in
    record { answers = c.run_grow.ensures.answers others; totals_after = c.run_grow.ensures.totals_after }

pub run_rows-requires : goal.run_rows-requires
run_rows-requires c =
    let labels : labels_by c.args.t.form ≡ true = labels_else c.args.t.form (sym c.grows.ensures ∙ c.if-grows.false) in
    record { rows_ask = record { labelled = labels; valid = valid_with labels c.requires.valid [] }; totals_ready = c.requires.totals_ready }

pub returns : goal.returns
returns c = record { answers = c.run_rows.ensures.by_index c.args.members.now; totals_after = c.run_rows.ensures.totals_after }

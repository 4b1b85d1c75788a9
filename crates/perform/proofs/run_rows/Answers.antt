-- `run_rows` meets its contract: the rows have the columns that are packed, and those after are written from the new columns.
use mathlib.Core.Path.{sym, ◌∙◌}
use mathlib.Core.List.{[]}
use lib.Seq.{length-take-le}
use Rattle.paper.specs.Panel.Made.{call_of, choices_of, buffers_of}
use Rattle.moves.specs.Tested.{TestedFor, ready}
use Rattle.moves.specs.Answered.{valid_with}
use Rattle.perform.specs.Kept.{still_written, between}
use Rattle.perform.proofs.run_rows.Goals as goal

pub pack-requires : goal.pack-requires
pack-requires c =
    let a = c.args in
    let w : TestedFor (call_of a.t a.fwd.now a.bwd.now a.pins.now a.couplings.now a.cuts.now) a.spins.now =
    ready (call_of a.t a.fwd.now a.bwd.now a.pins.now a.couplings.now a.cuts.now) (choices_of a.choices.now a.greys.now)
    (buffers_of a.spins.now a.labels.now a.grey_labels.now a.counts.now a.sizes.now [] a.found.now a.grey_found.now)
    c.requires.rows_ask.valid.sound in
    record { sites = w.n_high; few = w.size_high; inside = w.inside; long = length-take-le a.t.n _ w.n_high }

pub run_labelled-answer-requires-clause-run_asks : goal.run_labelled-answer-requires-clause-run_asks
run_labelled-answer-requires-clause-run_asks c =
    let a = c.args in
    let w : TestedFor (call_of a.t a.fwd.now a.bwd.now a.pins.now a.couplings.now a.cuts.now) a.spins.now =
    ready (call_of a.t a.fwd.now a.bwd.now a.pins.now a.couplings.now a.cuts.now) (choices_of a.choices.now a.greys.now)
    (buffers_of a.spins.now a.labels.now a.grey_labels.now a.counts.now a.sizes.now [] a.found.now a.grey_found.now)
    c.requires.rows_ask.valid.sound in
    record {
      rows = a.spins.now;
      columns = c.pack.ensures;
      labelled = c.requires.rows_ask.labelled;
      valid = c.requires.rows_ask.valid;
      news_long = length-take-le a.t.n _ w.n_high;
    }

pub write_rows-requires : goal.write_rows-requires
write_rows-requires c =
    let a = c.args in
    let w : TestedFor (call_of a.t a.fwd.now a.bwd.now a.pins.now a.couplings.now a.cuts.now) a.spins.now =
    ready (call_of a.t a.fwd.now a.bwd.now a.pins.now a.couplings.now a.cuts.now) (choices_of a.choices.now a.greys.now)
    (buffers_of a.spins.now a.labels.now a.grey_labels.now a.counts.now a.sizes.now [] a.found.now a.grey_found.now)
    c.requires.rows_ask.valid.sound in
    record { sites = w.n_high; few = w.size_high; inside = w.inside; distinct = w.distinct; long = c.run_labelled-answer.ensures.run_leaves.long }

pub returns-then-changed : goal.returns-then-changed
returns-then-changed c =
    let a = c.args in
    let v = c.requires.rows_ask in
    let o = c.run_labelled-answer.ensures in
    record {
      by_index = λ members. o.run_leaves.answers _ _ members (valid_with v.labelled v.valid members) c.pack.ensures c.write_rows.ensures;
      totals_after =
          o.keeps_for.each _ _
          (between (call_of a.t a.fwd.now a.bwd.now a.pins.now a.couplings.now a.cuts.now) (choices_of a.choices.now a.greys.now)
          (buffers_of a.spins.now a.labels.now a.grey_labels.now a.counts.now a.sizes.now [] a.found.now a.grey_found.now)
          v.valid c.pack.ensures c.write_rows.ensures);
    }

pub returns-else-changed : goal.returns-else-changed
returns-else-changed c =
    let a = c.args in
    let v = c.requires.rows_ask in
    let o = c.run_labelled-answer.ensures in
    let w : TestedFor (call_of a.t a.fwd.now a.bwd.now a.pins.now a.couplings.now a.cuts.now) a.spins.now =
    ready (call_of a.t a.fwd.now a.bwd.now a.pins.now a.couplings.now a.cuts.now) (choices_of a.choices.now a.greys.now)
    (buffers_of a.spins.now a.labels.now a.grey_labels.now a.counts.now a.sizes.now [] a.found.now a.grey_found.now)
    v.valid.sound in
    let same = o.run_leaves.still (sym c.changed.ensures ∙ c.if-changed.false) in
    let own = still_written {g = a.t.group} {xs = a.spins.now} c.pack.ensures w.spins same in
    record {
      by_index = λ members. o.run_leaves.answers _ _ members (valid_with v.labelled v.valid members) c.pack.ensures own;
      totals_after =
          o.keeps_for.each _ _
          (between (call_of a.t a.fwd.now a.bwd.now a.pins.now a.couplings.now a.cuts.now) (choices_of a.choices.now a.greys.now)
          (buffers_of a.spins.now a.labels.now a.grey_labels.now a.counts.now a.sizes.now [] a.found.now a.grey_found.now)
          v.valid c.pack.ensures own);
    }

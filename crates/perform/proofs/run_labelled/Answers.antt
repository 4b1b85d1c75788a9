-- `run_labelled` meets its contract: the columns before and after the task are those that the totals' change is told by.
use mathlib.Core.Path.{◌≡◌, refl, sym, ◌∙◌}
use mathlib.Core.Bool.{true, false}
use mathlib.Core.List.{[]}
use native.Mathlib.Omega.{arith}
use Rattle.lemmas.specs.Bools.{never}
use Rattle.paper.specs.Panel.Made.{call_of, choices_of, buffers_of}
use Rattle.paper.specs.Panel.Takes.{keeps_by}
use Rattle.perform.specs.Kept.{asks}
use Rattle.perform.proofs.run_labelled.Goals as goal

pub bring_all-requires : goal.bring_all-requires
bring_all-requires c =
    let a = c.args in
    let r = c.requires.run_asks in
    let keeps : keeps_by a.t.keeps a.t.form ≡ true = sym c.totals.ensures ∙ c.if-totals.true in
    record {
      bringable =
          asks (call_of a.t a.fwd.now a.bwd.now a.pins.now a.couplings.now a.cuts.now) (choices_of a.choices.now a.greys.now)
          (buffers_of r.rows a.labels.now a.grey_labels.now a.counts.now a.sizes.now [] a.found.now a.grey_found.now)
          r.valid _ (rw keeps at c.requires.totals_ready);
      columned = record { olds_long = omega (arith, r.columns.long); news_long = omega (arith, c.run_columns-answer.ensures.long) };
    }

pub returns-then-totals : goal.returns-then-totals
returns-then-totals c =
    let keeps : keeps_by c.args.t.keeps c.args.t.form ≡ true = sym c.totals.ensures ∙ c.if-totals.true in
    record {
      run_leaves = c.run_columns-answer.ensures;
      keeps_for = record { each = λ xs ys w. record { brought = λ _. c.bring_all.ensures.each xs ys w; left = λ e. never (sym e ∙ keeps) } };
    }

pub returns-else-totals : goal.returns-else-totals
returns-else-totals c =
    let none : keeps_by c.args.t.keeps c.args.t.form ≡ false = sym c.totals.ensures ∙ c.if-totals.false in
    record {
      run_leaves = c.run_columns-answer.ensures;
      keeps_for = record { each = λ xs ys w. record { brought = λ h. never (sym none ∙ h); left = λ _. refl } };
    }

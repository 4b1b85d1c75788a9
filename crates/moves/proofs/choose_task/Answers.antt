-- `choose_task` meets its contract: the choice of each component, and in CMR the grey numbers after it.
use mathlib.Core.Path.{◌≡◌, sym, ◌∙◌}
use mathlib.Core.Bool.{true, false}
use native.Mathlib.Omega.{arith}
use Rattle.paper.specs.Panel.Takes.{is_cmr}
use Rattle.moves.specs.Choosing.{mid_two, plain_final, grey_final}
use Rattle.moves.proofs.choose_task.Goals as goal

pub grey_columns-requires : goal.grey_columns-requires
grey_columns-requires c =
    let cmr-yes : is_cmr c.args.t.mode ≡ true = sym c.is_cmr.ensures ∙ c.if-is_cmr.true in
    let a = c.args in
    let q = c.requires.choosable in
    let w = c.requires.greyable cmr-yes in
    let mid = c.choose_columns.ensures c.requires.pins c.requires.tallied in
    record {
      sites = record {
        marked = omega (arith, (c.reach.ensures c.requires.pins w.tallied).long, q.flags_long, mid.long);
        labelled = w.labels_long ∙ sym mid.long;
        below = λ i h. rw mid.long (w.below i (rw mid.long at h));
      };
      moving = q.moving;
      lent = rw mid.long w.greys_long;
      small = w.small;
      two = λ i h.
          let l = rw mid.long at h in
          mid_two a.t c.requires.pins a.acts.now a.labels.now a.choices.now mid cmr-yes w.two i l (q.narrow i l);
    }

pub returns-then-is_cmr : goal.returns-then-is_cmr
returns-then-is_cmr c =
    let cmr-yes : is_cmr c.args.t.mode ≡ true = sym c.is_cmr.ensures ∙ c.if-is_cmr.true in
    λ pins free others.
    let a = c.args in
    grey_final a.t pins a.acts.now a.labels.now a.choices.now (c.choose_columns.ensures pins free) _ a.greys.now cmr-yes
    (rw c.requires.choosable.flags_long at (c.reach.ensures pins (others cmr-yes))) c.grey_columns.ensures

pub returns-else-is_cmr : goal.returns-else-is_cmr
returns-else-is_cmr c =
    let cmr-no : is_cmr c.args.t.mode ≡ false = sym c.is_cmr.ensures ∙ c.if-is_cmr.false in
    λ pins free others.
    let a = c.args in
    plain_final a.t pins a.acts.now a.labels.now a.choices.now (c.choose_columns.ensures pins free) _ a.greys.now cmr-no

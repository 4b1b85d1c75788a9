-- `packed_step` meets its contract: the tests, then the task on the bytes.
use Prim.Native.Nat.{◌≤◌}
use Rattle.std.specs.Prelude.{Err}
use Rattle.std.proofs.lemmas.Grind.{common_steps}
use mathlib.Core.Path.{◌≡◌, refl, sym, ◌∙◌}
use mathlib.Core.Bool.{Bool, true}
use mathlib.Core.List.{List, []}
use native.Mathlib.Omega.{arith}
use lib.ListN.{length}
use lib.Seq.{length-take-le}
use Rattle.laws.specs.Forms.{labels_else}
use Rattle.moves.specs.Answered.{valid_with}
use lib.IntN.{ℤ}
use Rattle.paper.specs.Panel.Input.{Call, Choices, Buffers, pattern_of}
use Rattle.paper.specs.Panel.Made.{call_of, choices_of}
use Rattle.paper.specs.Panel.Takes.{grows_by, labels_by, keeps_by}
use Rattle.paper.specs.Refusal.Rule.{Rule, Kept}
use Rattle.paper.specs.Refusal.Kept.{Valid}
use Rattle.paper.specs.declared.Refusal.{Refusal}
use Rattle.paper.specs.Refusal.Numbers.{number_of, refused}
use Rattle.paper.specs.Answer.Cases.{answer_by}
use Rattle.paper.specs.Answer.Totals.{kept_rules, kept_valid}
use Rattle.columns.specs.Column.{Columns}
use Rattle.grow.specs.Task.{Outputs, no_outputs, grown_with}
use Rattle.perform.specs.Kept.{between}
use Rattle.perform.specs.Verdicts.{refused_by, ready_of, accepted_by}
use Rattle.packing.specs.Bytes.{rows_of, Narrow, own_group, own_task}
use Rattle.packing.proofs.Laws.{rows_long, spins_narrow, rows_columns, rows_written}
use Rattle.packed.specs.Packed.{lent_of}
use Rattle.packed.specs.Tested.{bytes_long, spins_own}
use Rattle.packed.specs.Stepped.{answered_bytes, through_copy, low_of}
use Rattle.packed.proofs.packed_step.Goals as goal

pub returns-in_err-test_packed : goal.returns-in_err-test_packed
returns-in_err-test_packed c =
    let keepingAt : Bool = keeps_by c.args.t.keeps c.args.t.form in
    let call_at : Call = let a = c.args in call_of (own_task a.t) a.fwd.now a.bwd.now a.pins.now a.couplings.now a.cuts.now in
    let choicesAt : Choices = choices_of c.args.choices.now c.args.greys.now in
    let lent_at : List ℤ → Buffers = let a = c.args in
    lent_of a.labels.now a.grey_labels.now a.counts.now a.sizes.now a.members.now a.found.now a.grey_found.now in
    let rows_at : List ℤ = rows_of c.args.t.group.len c.args.columns.now in
    let rulesAt : List Rule = kept_rules keepingAt call_at choicesAt (lent_at rows_at) c.args.totals.now in
    let e : Refusal = c.in_err-test_packed.field-0.0 in
    let back : c.from_residual.result ≡ Err e = grind (arith, common_steps) in
    rw back
    (record {
      rows =
          refused_by keepingAt call_at choicesAt (lent_at rows_at) c.args.totals.now (number_of e)
          (refused rulesAt e c.in_err-test_packed.ensures);
      bytes = refl;
    })

pub run_grown-requires-clause-grown_asks : goal.run_grown-requires-clause-grown_asks
run_grown-requires-clause-grown_asks c =
    let keepingAt : Bool = keeps_by c.args.t.keeps c.args.t.form in
    let call_at : Call = let a = c.args in call_of (own_task a.t) a.fwd.now a.bwd.now a.pins.now a.couplings.now a.cuts.now in
    let choicesAt : Choices = choices_of c.args.choices.now c.args.greys.now in
    let lent_at : List ℤ → Buffers = let a = c.args in
    lent_of a.labels.now a.grey_labels.now a.counts.now a.sizes.now a.members.now a.found.now a.grey_found.now in
    let rows_at : List ℤ = rows_of c.args.t.group.len c.args.columns.now in
    let rulesAt : List Rule = kept_rules keepingAt call_at choicesAt (lent_at rows_at) c.args.totals.now in
    let kept : Kept rulesAt = c.in_ok-test_packed.ensures in
    let valid : Valid call_at choicesAt (lent_at rows_at) = kept_valid keepingAt call_at choicesAt (lent_at rows_at) c.args.totals.now kept in
    let few : c.args.t.group.len ≤ 8 = valid.sound.ranged.size_high in
    let some : 1 ≤ c.args.t.group.len = omega (arith, valid.sound.ranged.size_low) in
    let long : length c.args.columns.now ≡ c.args.t.n = bytes_long c.args.t.group.len c.args.t.n c.args.columns.now some valid.sound.exact.spins in
    let narrow : Narrow c.args.t.group.len c.args.columns.now = spins_narrow c.args.t.group.len c.args.t.n c.args.columns.now long some
    (spins_own (own_task c.args.t) refl refl few rows_at valid.sound.spins) in
    let others : Outputs = let a = c.args in
    record {
      labels = a.labels.now;
      grey_labels = a.grey_labels.now;
      counts = a.counts.now;
      sizes = a.sizes.now;
      found = a.found.now;
      grey_found = a.grey_found.now;
    } in
    let grows : grows_by c.args.t.form ≡ true = sym c.grows.ensures ∙ c.if-grows.true in
    record {
      own = refl;
      systems = refl;
      long = long;
      narrow = narrow;
      rows = record { grows = grows; valid = grown_with others no_outputs grows valid };
    }

pub run_grown-requires-clause-totals_ready : goal.run_grown-requires-clause-totals_ready
run_grown-requires-clause-totals_ready c =
    let keepingAt : Bool = keeps_by c.args.t.keeps c.args.t.form in
    let call_at : Call = let a = c.args in call_of (own_task a.t) a.fwd.now a.bwd.now a.pins.now a.couplings.now a.cuts.now in
    let choicesAt : Choices = choices_of c.args.choices.now c.args.greys.now in
    let lent_at : List ℤ → Buffers = let a = c.args in
    lent_of a.labels.now a.grey_labels.now a.counts.now a.sizes.now a.members.now a.found.now a.grey_found.now in
    let rows_at : List ℤ = rows_of c.args.t.group.len c.args.columns.now in
    let rulesAt : List Rule = kept_rules keepingAt call_at choicesAt (lent_at rows_at) c.args.totals.now in
    let kept : Kept rulesAt = c.in_ok-test_packed.ensures in
    ready_of keepingAt call_at choicesAt (lent_at rows_at) c.args.totals.now kept

pub returns-then-grows : goal.returns-then-grows
returns-then-grows c =
    let keepingAt : Bool = keeps_by c.args.t.keeps c.args.t.form in
    let call_at : Call = let a = c.args in call_of (own_task a.t) a.fwd.now a.bwd.now a.pins.now a.couplings.now a.cuts.now in
    let choicesAt : Choices = choices_of c.args.choices.now c.args.greys.now in
    let lent_at : List ℤ → Buffers = let a = c.args in
    lent_of a.labels.now a.grey_labels.now a.counts.now a.sizes.now a.members.now a.found.now a.grey_found.now in
    let rows_at : List ℤ = rows_of c.args.t.group.len c.args.columns.now in
    let rulesAt : List Rule = kept_rules keepingAt call_at choicesAt (lent_at rows_at) c.args.totals.now in
    let kept : Kept rulesAt = c.in_ok-test_packed.ensures in
    let valid : Valid call_at choicesAt (lent_at rows_at) = kept_valid keepingAt call_at choicesAt (lent_at rows_at) c.args.totals.now kept in
    let others : Outputs = let a = c.args in
    record {
      labels = a.labels.now;
      grey_labels = a.grey_labels.now;
      counts = a.counts.now;
      sizes = a.sizes.now;
      found = a.found.now;
      grey_found = a.grey_found.now;
    } in
    record {
      rows =
          accepted_by keepingAt call_at choicesAt (lent_at rows_at) c.args.totals.now (answer_by c.run_grown.result) _ _ kept
          (c.run_grown.ensures.answers others) c.run_grown.ensures.totals;
      bytes = answered_bytes call_at choicesAt _ _ _ _ _ valid c.run_grown.ensures.narrow (answer_by c.run_grown.result) (c.run_grown.ensures.answers others);
    }

pub run_labelled-outcome-requires-clause-run_asks : goal.run_labelled-outcome-requires-clause-run_asks
run_labelled-outcome-requires-clause-run_asks c =
    let keepingAt : Bool = keeps_by c.args.t.keeps c.args.t.form in
    let call_at : Call = let a = c.args in call_of (own_task a.t) a.fwd.now a.bwd.now a.pins.now a.couplings.now a.cuts.now in
    let choicesAt : Choices = choices_of c.args.choices.now c.args.greys.now in
    let lent_at : List ℤ → Buffers = let a = c.args in
    lent_of a.labels.now a.grey_labels.now a.counts.now a.sizes.now a.members.now a.found.now a.grey_found.now in
    let rows_at : List ℤ = rows_of c.args.t.group.len c.args.columns.now in
    let rulesAt : List Rule = kept_rules keepingAt call_at choicesAt (lent_at rows_at) c.args.totals.now in
    let kept : Kept rulesAt = c.in_ok-test_packed.ensures in
    let valid : Valid call_at choicesAt (lent_at rows_at) = kept_valid keepingAt call_at choicesAt (lent_at rows_at) c.args.totals.now kept in
    let few : c.args.t.group.len ≤ 8 = valid.sound.ranged.size_high in
    let some : 1 ≤ c.args.t.group.len = omega (arith, valid.sound.ranged.size_low) in
    let long : length c.args.columns.now ≡ c.args.t.n = bytes_long c.args.t.group.len c.args.t.n c.args.columns.now some valid.sound.exact.spins in
    let narrow : Narrow c.args.t.group.len c.args.columns.now = spins_narrow c.args.t.group.len c.args.t.n c.args.columns.now long some
    (spins_own (own_task c.args.t) refl refl few rows_at valid.sound.spins) in
    let columned : let a = c.args.t in Columns a.n a.group.len (pattern_of a.n (own_group a.group.len) rows_at) c.args.columns.now = rows_columns c.args.t.group.len few c.args.t.n c.args.columns.now long narrow in
    let labels : labels_by c.args.t.form ≡ true = labels_else c.args.t.form (sym c.grows.ensures ∙ c.if-grows.false) in
    record {
      rows = rows_at;
      columns = columned;
      labelled = labels;
      valid = valid_with labels valid [];
      news_long = length-take-le c.args.t.n _ valid.sound.ranged.lattice.n_high;
    }

pub run_labelled-outcome-requires-clause-totals_ready : goal.run_labelled-outcome-requires-clause-totals_ready
run_labelled-outcome-requires-clause-totals_ready c =
    let keepingAt : Bool = keeps_by c.args.t.keeps c.args.t.form in
    let call_at : Call = let a = c.args in call_of (own_task a.t) a.fwd.now a.bwd.now a.pins.now a.couplings.now a.cuts.now in
    let choicesAt : Choices = choices_of c.args.choices.now c.args.greys.now in
    let lent_at : List ℤ → Buffers = let a = c.args in
    lent_of a.labels.now a.grey_labels.now a.counts.now a.sizes.now a.members.now a.found.now a.grey_found.now in
    let rows_at : List ℤ = rows_of c.args.t.group.len c.args.columns.now in
    let rulesAt : List Rule = kept_rules keepingAt call_at choicesAt (lent_at rows_at) c.args.totals.now in
    let kept : Kept rulesAt = c.in_ok-test_packed.ensures in
    ready_of keepingAt call_at choicesAt (lent_at rows_at) c.args.totals.now kept

pub copy-requires : goal.copy-requires
copy-requires c =
    let keepingAt : Bool = keeps_by c.args.t.keeps c.args.t.form in
    let call_at : Call = let a = c.args in call_of (own_task a.t) a.fwd.now a.bwd.now a.pins.now a.couplings.now a.cuts.now in
    let choicesAt : Choices = choices_of c.args.choices.now c.args.greys.now in
    let lent_at : List ℤ → Buffers = let a = c.args in
    lent_of a.labels.now a.grey_labels.now a.counts.now a.sizes.now a.members.now a.found.now a.grey_found.now in
    let rows_at : List ℤ = rows_of c.args.t.group.len c.args.columns.now in
    let rulesAt : List Rule = kept_rules keepingAt call_at choicesAt (lent_at rows_at) c.args.totals.now in
    let kept : Kept rulesAt = c.in_ok-test_packed.ensures in
    let valid : Valid call_at choicesAt (lent_at rows_at) = kept_valid keepingAt call_at choicesAt (lent_at rows_at) c.args.totals.now kept in
    let some : 1 ≤ c.args.t.group.len = omega (arith, valid.sound.ranged.size_low) in
    let long : length c.args.columns.now ≡ c.args.t.n = bytes_long c.args.t.group.len c.args.t.n c.args.columns.now some valid.sound.exact.spins in
    c.run_labelled-outcome.ensures.run_leaves.long ∙ sym long

pub returns : goal.returns
returns c =
    let keepingAt : Bool = keeps_by c.args.t.keeps c.args.t.form in
    let call_at : Call = let a = c.args in call_of (own_task a.t) a.fwd.now a.bwd.now a.pins.now a.couplings.now a.cuts.now in
    let choicesAt : Choices = choices_of c.args.choices.now c.args.greys.now in
    let lent_at : List ℤ → Buffers = let a = c.args in
    lent_of a.labels.now a.grey_labels.now a.counts.now a.sizes.now a.members.now a.found.now a.grey_found.now in
    let rows_at : List ℤ = rows_of c.args.t.group.len c.args.columns.now in
    let rulesAt : List Rule = kept_rules keepingAt call_at choicesAt (lent_at rows_at) c.args.totals.now in
    let kept : Kept rulesAt = c.in_ok-test_packed.ensures in
    let valid : Valid call_at choicesAt (lent_at rows_at) = kept_valid keepingAt call_at choicesAt (lent_at rows_at) c.args.totals.now kept in
    let few : c.args.t.group.len ≤ 8 = valid.sound.ranged.size_high in
    let some : 1 ≤ c.args.t.group.len = omega (arith, valid.sound.ranged.size_low) in
    let long : length c.args.columns.now ≡ c.args.t.n = bytes_long c.args.t.group.len c.args.t.n c.args.columns.now some valid.sound.exact.spins in
    let narrow : Narrow c.args.t.group.len c.args.columns.now = spins_narrow c.args.t.group.len c.args.t.n c.args.columns.now long some
    (spins_own (own_task c.args.t) refl refl few rows_at valid.sound.spins) in
    let columned : let a = c.args.t in Columns a.n a.group.len (pattern_of a.n (own_group a.group.len) rows_at) c.args.columns.now = rows_columns c.args.t.group.len few c.args.t.n c.args.columns.now long narrow in
    let m = c.args.t.group.len in
    let n = c.args.t.n in
    let u = c.run_labelled-outcome.ensures.run_leaves in
    let low = low_of u in
    let wrote = rows_written m few n _ u.long low rows_at (rows_long m n c.args.columns.now long) in
    let told = u.answers rows_at _ c.args.members.now valid columned wrote in
    through_copy c.copy.ensures
    (record {
      rows =
          accepted_by keepingAt call_at choicesAt (lent_at rows_at) c.args.totals.now (answer_by c.run_labelled-outcome.result) _ _ kept told
          (c.run_labelled-outcome.ensures.keeps_for.each rows_at _ (between call_at choicesAt (lent_at rows_at) valid columned wrote));
      bytes = answered_bytes call_at choicesAt _ _ _ _ _ valid low (answer_by c.run_labelled-outcome.result) told;
    })

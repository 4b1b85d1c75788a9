-- `seed_column_ok` meets its contract: a case for each way that it ends.
use mathlib.Core.Path.{◌≡◌, sym, ◌∙◌}
use mathlib.Core.Bool.{true}
use Rattle.paper.specs.Panel.Takes.{one_cluster}
use Rattle.column_rules.specs.Sight.{acts_at}
use Rattle.tests.specs.Choices.{EveryRows}
use Rattle.tests.proofs.Seed.{seed_acts, seed_rests, seed_seen}
use Rattle.tests.proofs.choices.seed_column_ok.Goals as goal

pub returns-then-acts_column : goal.returns-then-acts_column
returns-then-acts_column c =
    let told : let a = c.args in EveryRows a.t a.cols.now (λ xs. acts_at a.t.mode a.t.n a.t.group a.t.reference xs a.t.seed ≡ c.acts_column.result) = let a = c.args in
    seed_seen a.t a.cols.now c.gauge-gauge.result c.acts_column.result c.if-n-seed.false c.gauge-gauge.ensures
    c.acts_column.ensures in
    λ cuts d s temperature fwd bwd pins couplings xs p w.
    seed_acts c.args.t xs c.if-n-seed.false (told xs p w ∙ c.if-acts_column.true) cuts d s temperature fwd bwd pins couplings

pub returns : goal.returns
returns c =
    let one : one_cluster c.args.t.form ≡ true = sym c.one_cluster.ensures ∙ c.if-not-one_cluster.false in
    let told : let a = c.args in EveryRows a.t a.cols.now (λ xs. acts_at a.t.mode a.t.n a.t.group a.t.reference xs a.t.seed ≡ c.acts_column.result) = let a = c.args in
    seed_seen a.t a.cols.now c.gauge-gauge.result c.acts_column.result c.if-n-seed.false c.gauge-gauge.ensures
    c.acts_column.ensures in
    λ cuts d s temperature fwd bwd pins couplings xs p w.
    seed_rests c.args.t xs c.any_column_acts.result one c.if-n-seed.false (told xs p w ∙ c.if-acts_column.false)
    (c.any_column_acts.ensures xs p w) cuts d s temperature fwd bwd pins couplings

-- `seed_ok` meets its contract: a case for each way that it ends.
use mathlib.Core.Path.{◌≡◌, sym, ◌∙◌}
use mathlib.Core.Bool.{true}
use Rattle.paper.specs.Panel.Takes.{one_cluster}
use Rattle.tests.proofs.Seed.{seed_acts, seed_rests}
use Rattle.tests.proofs.choices.seed_ok.Goals as goal

pub returns-then-acts_at : goal.returns-then-acts_at
returns-then-acts_at c = let a = c.args in
    seed_acts a.t a.spins.now c.if-n-seed.false (sym c.acts_at.ensures ∙ c.if-acts_at.true)

pub returns : goal.returns
returns c =
    let one : one_cluster c.args.t.form ≡ true = sym c.one_cluster.ensures ∙ c.if-not-one_cluster.false in
    let a = c.args in
    seed_rests a.t a.spins.now c.any_acts.result one c.if-n-seed.false
    (sym c.acts_at.ensures ∙ c.if-acts_at.false) c.any_acts.ensures

-- `test_panel` meets its contract: each test is reached past those before it.
use mathlib.Core.Path.{refl}
use mathlib.Core.Logic.{inl, inr}
use mathlib.Core.List.{[], ◌∷◌}
use lib.ListN.{length}
use Rattle.lemmas.specs.Tells.{passed, refused}
use Rattle.paper.specs.Panel.Takes.{keeps_by}
use Rattle.paper.specs.Panel.Made.{lattice_of}
use Rattle.paper.specs.Refusal.Rule.{rule, Kept}
use Rattle.paper.specs.Refusal.Rules.{When, group_names, Named, Spins}
use Rattle.paper.specs.Refusal.Verdict.{verdict_later}
use Rattle.paper.specs.Refusal.Numbers.{verdict_of}
use Rattle.paper.specs.Answer.Totals.{TotalLengths}
use Rattle.tests.specs.Panel.{shape_rules, length_rules, table_rules}
use Rattle.tests.proofs.Shape.{shape_lengths}
use mathlib.Core.Bool.{not}
use mathlib.Core.Path.{ap}
use Rattle.tests.proofs.panel.test_panel.Goals as goal

pub returns-then-not-group_rows_ok : goal.returns-then-not-group_rows_ok
returns-then-not-group_rows_ok c =
    let k1 : let a = c.args in Kept (shape_rules a.t (length a.totals.now) a.l) = c.in_ok-test_shape.ensures in
    let k2 : let a = c.args in When (keeps_by a.t.keeps a.t.form) (TotalLengths (lattice_of a.t.n a.t.d a.t.s a.fwd.now a.bwd.now a.couplings.now) a.totals.now) = let a = c.args in
    shape_lengths a.t a.spins.now a.totals.now a.fwd.now a.bwd.now a.pins.now a.couplings.now a.l c.requires k1 in
    inr (k1.0, inr (k1.1.0, inr (k1.1.1.0, inr (k2, inl (refused c.group_rows_ok.result (ap not c.if-not-group_rows_ok.true) c.group_rows_ok.ensures, refl)))))

pub returns : goal.returns
returns c =
    let k1 : let a = c.args in Kept (shape_rules a.t (length a.totals.now) a.l) = c.in_ok-test_shape.ensures in
    let k2 : let a = c.args in When (keeps_by a.t.keeps a.t.form) (TotalLengths (lattice_of a.t.n a.t.d a.t.s a.fwd.now a.bwd.now a.couplings.now) a.totals.now) = let a = c.args in
    shape_lengths a.t a.spins.now a.totals.now a.fwd.now a.bwd.now a.pins.now a.couplings.now a.l c.requires k1 in
    let k3 : let a = c.args in Spins a.t.n (Named a.t.s (group_names a.t.group)) a.spins.now = passed c.group_rows_ok.result (ap not c.if-not-group_rows_ok.false) c.group_rows_ok.ensures in
    let a = c.args in
    let t = a.t in
    let fwd = a.fwd.now in
    let bwd = a.bwd.now in
    let js = a.couplings.now in
    let r = verdict_of c.test_tables.result in
    let tables = table_rules t fwd bwd a.pins.now js in
    let spins = rule 3 (Spins t.n (Named t.s (group_names t.group)) a.spins.now) in
    verdict_later (length_rules t a.totals.now fwd bwd js a.l) (spins ∷ tables) r (k1.0, (k1.1.0, (k1.1.1.0, (k2, tt))))
    (verdict_later (spins ∷ []) tables r (k3, tt) c.test_tables.ensures)

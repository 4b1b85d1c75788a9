-- `test_values` meets its contract: each test is reached past those before it.
use mathlib.Core.Path.{◌≡◌, refl, sym, subst}
use mathlib.Core.Logic.{inl}
use mathlib.Core.List.{List, [], ◌++◌}
use Prim.Native.Nat.{ℕ}
use Rattle.std.specs.Prelude.{ℤ, Err}
use Rattle.std.proofs.lemmas.Grind.{common_steps}
use native.Mathlib.Omega.{arith}
use Rattle.lemmas.specs.Tells.{Tells, passed, refused}
use Rattle.paper.specs.declared.Keeps.{Keeps}
use Rattle.paper.specs.Panel.Input.{Buffers}
use Rattle.paper.specs.Panel.Made.{buffers_of}
use Rattle.paper.specs.Panel.Takes.{keeps_by}
use Rattle.paper.specs.Refusal.Rule.{Rule, Kept}
use Rattle.paper.specs.Refusal.Rules.{When, order_names, Named}
use Rattle.paper.specs.declared.Refusal.{Refusal}
use Rattle.paper.specs.Refusal.Verdict.{Verdict, verdict_later}
use Rattle.paper.specs.Refusal.Numbers.{number_of}
use Rattle.paper.specs.Refusal.Numbers as numbers
use Rattle.paper.specs.Answer.Task.{Sweep}
use Rattle.paper.specs.Answer.Totals.{SmallTotals}
use Rattle.paper.specs.Answer.Made.{sweep_of}
use Rattle.systems.specs.Rows.{small_named}
use Rattle.sweep_tests.specs.First.{panel_rules, heat_rules, first_broken}
use Rattle.sweep_tests.specs.Whole.{panel_of, heat_of, tasks_rules, last_rule, value_rules}
use mathlib.Core.Bool.{not}
use mathlib.Core.Path.{ap}
use Rattle.sweep_tests.proofs.test_values.Goals as goal

-- a refusal has a number
not_zero : (e : Refusal) → number_of e ≡ 0 → ⊥
not_zero e h = numbers.refused [] e (subst (Verdict []) (sym h) tt)

-- the rules, whatever the outputs hold
module _
    (keeps : Keeps) (w : Sweep) (spins totals : List ℤ) (labels grey_labels counts sizes members found grey_found : List ℕ)
  where
    abbrev B : Buffers
    B = buffers_of spins labels grey_labels counts sizes members found grey_found

    abbrev P : List Rule
    P = panel_of keeps w B totals

    abbrev H : List Rule
    H = heat_of keeps w B totals

    abbrev K : List Rule
    K = tasks_rules keeps w B totals

    abbrev L : List Rule
    L = last_rule keeps w B totals

    -- each test is reached past those before it
    at_heat : (r : ℕ) → (r ≡ 0 → ⊥) → Kept P → Verdict H r → Verdict (value_rules keeps w B totals) r
    at_heat r ne p v = verdict_later P (H ++ (K ++ L)) r p (first_broken H (K ++ L) r ne v)

    past : Kept P → Kept H → (r : ℕ) → Verdict (K ++ L) r → Verdict (value_rules keeps w B totals) r
    past p h r v = verdict_later P (H ++ (K ++ L)) r p (verdict_later H (K ++ L) r h v)

    at_tasks : Kept P → Kept H → (r : ℕ) → (r ≡ 0 → ⊥) → Verdict K r → Verdict (value_rules keeps w B totals) r
    at_tasks p h r ne v = past p h r (first_broken K L r ne v)

    at_last : Kept P → Kept H → Kept K → (r : ℕ) → Verdict L r → Verdict (value_rules keeps w B totals) r
    at_last p h k r v = past p h r (verdict_later K L r k v)

pub returns-in_err-test_heat : goal.returns-in_err-test_heat
returns-in_err-test_heat c =
    let e : Refusal = c.in_err-test_heat.field-0.0 in
    let back : c.from_residual-in_err-test_heat.result ≡ Err e = grind (arith, common_steps) in
    let a = c.args in
    let W : Sweep =
    sweep_of a.plan a.fwd.now a.bwd.now a.pins.now a.couplings.now
    a.inputs.now.order.now a.inputs.now.masks.now a.inputs.now.temperatures.now a.inputs.now.cuts.now
    a.inputs.now.references.now a.inputs.now.seeds.now a.inputs.now.choices.now a.inputs.now.greys.now in
    let panel : Kept (panel_rules a.plan a.spins.now a.fwd.now a.bwd.now a.pins.now a.inputs.now.order.now) =
    c.in_ok-test_panel.ensures in
    rw back
    (record {
      is = λ l g n z m f y. at_heat a.plan.keeps W a.spins.now a.totals.now l g n z m f y (number_of e) (not_zero e) panel c.in_err-test_heat.ensures;
    })

pub returns-in_err-test_tasks : goal.returns-in_err-test_tasks
returns-in_err-test_tasks c =
    let e : Refusal = c.in_err-test_tasks.field-0.0 in
    let back : c.from_residual-in_err-test_tasks.result ≡ Err e = grind (arith, common_steps) in
    let a = c.args in
    let W : Sweep =
    sweep_of a.plan a.fwd.now a.bwd.now a.pins.now a.couplings.now
    a.inputs.now.order.now a.inputs.now.masks.now a.inputs.now.temperatures.now a.inputs.now.cuts.now
    a.inputs.now.references.now a.inputs.now.seeds.now a.inputs.now.choices.now a.inputs.now.greys.now in
    let panel : Kept (panel_rules a.plan a.spins.now a.fwd.now a.bwd.now a.pins.now a.inputs.now.order.now) =
    c.in_ok-test_panel.ensures in
    let heat : Kept (heat_rules a.plan a.couplings.now a.inputs.now.temperatures.now a.inputs.now.masks.now) =
    c.in_ok-test_heat.ensures in
    let told : (labels grey_labels counts sizes members found grey_found : List ℕ) → Verdict (K a.plan.keeps W a.spins.now a.totals.now labels grey_labels counts sizes members found grey_found) (number_of e) =
    c.in_err-test_tasks.ensures.is a.fwd.now a.bwd.now a.pins.now a.couplings.now in
    rw back
    (record {
      is = λ l g n z m f y. at_tasks a.plan.keeps W a.spins.now a.totals.now l g n z m f y panel heat (number_of e) (not_zero e) (told l g n z m f y);
    })

pub returns-then-not-order_totals_fit : goal.returns-then-not-order_totals_fit
returns-then-not-order_totals_fit c =
    let a = c.args in
    let W : Sweep =
    sweep_of a.plan a.fwd.now a.bwd.now a.pins.now a.couplings.now
    a.inputs.now.order.now a.inputs.now.masks.now a.inputs.now.temperatures.now a.inputs.now.cuts.now
    a.inputs.now.references.now a.inputs.now.seeds.now a.inputs.now.choices.now a.inputs.now.greys.now in
    let panel : Kept (panel_rules a.plan a.spins.now a.fwd.now a.bwd.now a.pins.now a.inputs.now.order.now) =
    c.in_ok-test_panel.ensures in
    let heat : Kept (heat_rules a.plan a.couplings.now a.inputs.now.temperatures.now a.inputs.now.masks.now) =
    c.in_ok-test_heat.ensures in
    let kept : (labels grey_labels counts sizes members found grey_found : List ℕ) → Kept (K a.plan.keeps W a.spins.now a.totals.now labels grey_labels counts sizes members found grey_found) =
    c.in_ok-test_tasks.ensures.is a.fwd.now a.bwd.now a.pins.now a.couplings.now in
    let tell : Tells c.order_totals_fit.result (When (keeps_by a.plan.keeps a.plan.form) (SmallTotals (Named a.plan.s (order_names a.inputs.now.order.now)) a.totals.now)) =
    small_named (keeps_by a.plan.keeps a.plan.form) a.plan.s (order_names a.inputs.now.order.now) a.totals.now c.requires.totals_long
    c.order_totals_fit.result (rw c.totals.ensures at c.order_totals_fit.ensures) in
    record {
      is = λ l g n z m f y. at_last a.plan.keeps W a.spins.now a.totals.now l g n z m f y panel heat (kept l g n z m f y) 14 (inl (refused c.order_totals_fit.result (ap not c.if-not-order_totals_fit.true) tell, refl));
    }

pub returns : goal.returns
returns c =
    let a = c.args in
    let W : Sweep =
    sweep_of a.plan a.fwd.now a.bwd.now a.pins.now a.couplings.now
    a.inputs.now.order.now a.inputs.now.masks.now a.inputs.now.temperatures.now a.inputs.now.cuts.now
    a.inputs.now.references.now a.inputs.now.seeds.now a.inputs.now.choices.now a.inputs.now.greys.now in
    let panel : Kept (panel_rules a.plan a.spins.now a.fwd.now a.bwd.now a.pins.now a.inputs.now.order.now) =
    c.in_ok-test_panel.ensures in
    let heat : Kept (heat_rules a.plan a.couplings.now a.inputs.now.temperatures.now a.inputs.now.masks.now) =
    c.in_ok-test_heat.ensures in
    let kept : (labels grey_labels counts sizes members found grey_found : List ℕ) → Kept (K a.plan.keeps W a.spins.now a.totals.now labels grey_labels counts sizes members found grey_found) =
    c.in_ok-test_tasks.ensures.is a.fwd.now a.bwd.now a.pins.now a.couplings.now in
    let tell : Tells c.order_totals_fit.result (When (keeps_by a.plan.keeps a.plan.form) (SmallTotals (Named a.plan.s (order_names a.inputs.now.order.now)) a.totals.now)) =
    small_named (keeps_by a.plan.keeps a.plan.form) a.plan.s (order_names a.inputs.now.order.now) a.totals.now c.requires.totals_long
    c.order_totals_fit.result (rw c.totals.ensures at c.order_totals_fit.ensures) in
    record {
      is = λ l g n z m f y. at_last a.plan.keeps W a.spins.now a.totals.now l g n z m f y panel heat (kept l g n z m f y) 0 (passed c.order_totals_fit.result (ap not c.if-not-order_totals_fit.false) tell, tt);
    }

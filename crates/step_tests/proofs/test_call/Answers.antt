-- `test_call` meets its contract: each test is reached past those before it.
use Prim.Native.Nat.{ℕ}
use Rattle.std.specs.Prelude.{◌≡◌, Err}
use Rattle.std.proofs.lemmas.Grind.{common_steps}
use native.Mathlib.Omega.{arith}
use mathlib.Core.Path.{refl}
use mathlib.Core.Logic.{inl}
use mathlib.Core.List.{List, ◌++◌}
use Rattle.lemmas.specs.Tells.{Tells, passed, refused}
use Rattle.paper.specs.Panel.Input.{Call, Choices}
use Rattle.paper.specs.Panel.Made.{call_of, choices_of}
use Rattle.paper.specs.Panel.Takes.{keeps_by}
use Rattle.paper.specs.Refusal.Rule.{Rule, Kept}
use Rattle.paper.specs.Refusal.Rules.{When, group_names, Named, choice_rules}
use Rattle.paper.specs.declared.Refusal.{Refusal}
use Rattle.paper.specs.Refusal.Verdict.{Verdict, verdict_later}
use Rattle.paper.specs.Refusal.Numbers.{number_of, refused_first}
use Rattle.paper.specs.Answer.Totals.{SmallTotals}
use Rattle.systems.specs.Rows.{small_named}
use Rattle.step_tests.specs.Call.{sound_rules, total_rules}
use mathlib.Core.Bool.{not}
use mathlib.Core.Path.{ap}
use Rattle.step_tests.proofs.test_call.Goals as goal

pub returns-in_err-test_panel : goal.returns-in_err-test_panel
returns-in_err-test_panel c =
    let call_at : Call = let a = c.args in
    call_of a.t a.fwd.now a.bwd.now a.pins.now a.couplings.now a.cuts.now in
    let soundAt : List Rule = let a = c.args in sound_rules a.t call_at a.spins.now a.totals.now a.l in
    let choicesAt : Choices = choices_of c.args.choices.now c.args.greys.now in
    let own_at : List Rule = choice_rules call_at choicesAt c.args.spins.now in
    let last_at : List Rule = total_rules c.args.t c.args.totals.now in
    let back : c.from_residual.result ≡ Err c.in_err-test_panel.field-0.0 = grind (arith, common_steps) in
    rw back (refused_first soundAt (own_at ++ last_at) c.in_err-test_panel.field-0.0 c.in_err-test_panel.ensures)

pub returns-in_err-test_choices : goal.returns-in_err-test_choices
returns-in_err-test_choices c =
    let call_at : Call = let a = c.args in
    call_of a.t a.fwd.now a.bwd.now a.pins.now a.couplings.now a.cuts.now in
    let soundAt : List Rule = let a = c.args in sound_rules a.t call_at a.spins.now a.totals.now a.l in
    let choicesAt : Choices = choices_of c.args.choices.now c.args.greys.now in
    let own_at : List Rule = choice_rules call_at choicesAt c.args.spins.now in
    let last_at : List Rule = total_rules c.args.t c.args.totals.now in
    let sound : Kept soundAt = c.in_ok-test_panel.ensures in
    let e : Refusal = c.in_err-test_choices.field-0.0 in
    let own : Verdict own_at (number_of e) = let a = c.args in
    c.in_err-test_choices.ensures a.t.d a.t.s a.t.temperature a.fwd.now a.bwd.now a.pins.now a.couplings.now in
    let back : c.from_residual-in_err-test_choices.result ≡ Err e = grind (arith, common_steps) in
    rw back (verdict_later soundAt (own_at ++ last_at) (number_of e) sound (refused_first own_at last_at e own))

pub returns-then-not-group_totals_fit : goal.returns-then-not-group_totals_fit
returns-then-not-group_totals_fit c =
    let call_at : Call = let a = c.args in
    call_of a.t a.fwd.now a.bwd.now a.pins.now a.couplings.now a.cuts.now in
    let soundAt : List Rule = let a = c.args in sound_rules a.t call_at a.spins.now a.totals.now a.l in
    let sound : Kept soundAt = c.in_ok-test_panel.ensures in
    let small : let a = c.args in Tells c.group_totals_fit.result (When (keeps_by a.t.keeps a.t.form) (SmallTotals (Named a.t.s (group_names a.t.group)) a.totals.now)) = let a = c.args in
    small_named (keeps_by a.t.keeps a.t.form) a.t.s (group_names a.t.group) a.totals.now
    (λ q. (sound.1.1.1.0 q).totals)
    c.group_totals_fit.result (rw c.totals.ensures at c.group_totals_fit.ensures) in
    let choicesAt : Choices = choices_of c.args.choices.now c.args.greys.now in
    let own_at : List Rule = choice_rules call_at choicesAt c.args.spins.now in
    let last_at : List Rule = total_rules c.args.t c.args.totals.now in
    let chosen : Kept own_at = let a = c.args in
    c.in_ok-test_choices.ensures a.t.d a.t.s a.t.temperature a.fwd.now a.bwd.now a.pins.now a.couplings.now in
    let later : (r : ℕ) → Verdict last_at r → Verdict (soundAt ++ (own_at ++ last_at)) r = λ r v. verdict_later soundAt (own_at ++ last_at) r sound (verdict_later own_at last_at r chosen v) in
    later 14 (inl (refused c.group_totals_fit.result (ap not c.if-not-group_totals_fit.true) small, refl))

pub returns : goal.returns
returns c =
    let call_at : Call = let a = c.args in
    call_of a.t a.fwd.now a.bwd.now a.pins.now a.couplings.now a.cuts.now in
    let soundAt : List Rule = let a = c.args in sound_rules a.t call_at a.spins.now a.totals.now a.l in
    let sound : Kept soundAt = c.in_ok-test_panel.ensures in
    let small : let a = c.args in Tells c.group_totals_fit.result (When (keeps_by a.t.keeps a.t.form) (SmallTotals (Named a.t.s (group_names a.t.group)) a.totals.now)) = let a = c.args in
    small_named (keeps_by a.t.keeps a.t.form) a.t.s (group_names a.t.group) a.totals.now
    (λ q. (sound.1.1.1.0 q).totals)
    c.group_totals_fit.result (rw c.totals.ensures at c.group_totals_fit.ensures) in
    let choicesAt : Choices = choices_of c.args.choices.now c.args.greys.now in
    let own_at : List Rule = choice_rules call_at choicesAt c.args.spins.now in
    let last_at : List Rule = total_rules c.args.t c.args.totals.now in
    let chosen : Kept own_at = let a = c.args in
    c.in_ok-test_choices.ensures a.t.d a.t.s a.t.temperature a.fwd.now a.bwd.now a.pins.now a.couplings.now in
    let later : (r : ℕ) → Verdict last_at r → Verdict (soundAt ++ (own_at ++ last_at)) r = λ r v. verdict_later soundAt (own_at ++ last_at) r sound (verdict_later own_at last_at r chosen v) in
    later 0 (passed c.group_totals_fit.result (ap not c.if-not-group_totals_fit.false) small, tt)

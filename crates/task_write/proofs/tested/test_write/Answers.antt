-- `test_write` meets its contract: each test is reached past those before it.
use Prim.Native.Nat.{ℕ, ◌≤◌, ◌<◌}
use mathlib.Core.Path.{◌≡◌, refl}
use mathlib.Core.Logic.{inl, inr}
use mathlib.Core.Bool.{Bool}
use mathlib.Core.List.{[]}
use lib.ListN.{get_or}
use Rattle.lemmas.specs.Tells.{Tells, passed, refused}
use Rattle.paper.specs.Panel.Made.{call_of}
use Rattle.paper.specs.Panel.Takes.{grows_by, keeps_by}
use Rattle.paper.specs.Refusal.Rule.{Kept}
use Rattle.paper.specs.Refusal.Rules.{When, group_names, Named, Spins, Inverse, SmallCouplings}
use Rattle.paper.specs.Refusal.Verdict.{Verdict, verdict_later}
use Rattle.paper.specs.Answer.Totals.{SmallTotals}
use Rattle.systems.specs.Rows.{small_named}
use Rattle.task_steps.specs.Write.{Shape, shape_of, Writing, writing_of, Columned, write_rules}
use Rattle.task_write.specs.Tested.{head_rules, tail_rules, head_of, marks_tell}
use mathlib.Core.Bool.{not}
use mathlib.Core.Path.{ap}
use Rattle.task_write.proofs.tested.test_write.Goals as goal

pub returns-then-not-group_totals_fit : goal.returns-then-not-group_totals_fit
returns-then-not-group_totals_fit c =
    let keepingAt : Bool = keeps_by c.args.t.keeps c.args.t.form in
    let shape_at : Shape = let a = c.args in shape_of (call_of a.t a.fwd.now a.bwd.now [] a.couplings.now []) in
    let lent_at : Writing = let a = c.args in writing_of a.rows.now a.members.now a.area.now a.totals.now in
    let head : Verdict (head_rules keepingAt shape_at lent_at) 0 = head_of keepingAt shape_at lent_at 0 c.in_ok-test_lengths.ensures in
    let k1 : Kept (head_rules keepingAt shape_at lent_at) = head in
    let past : (r : ℕ) → Verdict (tail_rules keepingAt shape_at lent_at) r → Verdict (write_rules keepingAt shape_at lent_at) r = λ r v. verdict_later (head_rules keepingAt shape_at lent_at) (tail_rules keepingAt shape_at lent_at) r k1 v in
    let k3 : Spins c.args.t.n (Named c.args.t.s (group_names c.args.t.group)) c.args.rows.now = passed c.group_rows_ok.result (ap not c.if-not-group_rows_ok.false) c.group_rows_ok.ensures in
    let k3-area : Columned shape_at lent_at = passed c.area_ok.result (ap not c.if-not-area_ok.false) c.area_ok.ensures in
    let keeping : c.totals-keeping.result ≡ keepingAt = c.totals-keeping.ensures in
    let tell4 : Tells c.tables_fit.result (When keepingAt (Inverse c.args.t.n c.args.t.d c.args.fwd.now c.args.bwd.now)) = rw keeping at c.tables_fit.ensures in
    let k4 : When keepingAt (Inverse c.args.t.n c.args.t.d c.args.fwd.now c.args.bwd.now) = passed c.tables_fit.result (ap not c.if-not-tables_fit.false) tell4 in
    let tell6 : Tells c.couplings_fit.result (When keepingAt (SmallCouplings c.args.couplings.now)) = rw keeping at c.couplings_fit.ensures in
    let k6 : When keepingAt (SmallCouplings c.args.couplings.now) = passed c.couplings_fit.result (ap not c.if-not-couplings_fit.false) tell6 in
    let tell9 : Tells c.marks_fit.result (When (grows_by c.args.t.form) ((i : ℕ) → i < c.args.t.n → get_or c.args.members.now i 0 ≤ 1)) = marks_tell (grows_by c.args.t.form) c.args.t.n c.args.members.now k1.1.1.0.members c.marks_fit.result
    (rw c.grows.ensures at c.marks_fit.ensures) in
    let k9 : When (grows_by c.args.t.form) ((i : ℕ) → i < c.args.t.n → get_or c.args.members.now i 0 ≤ 1) = passed c.marks_fit.result (ap not c.if-not-marks_fit.false) tell9 in
    let tell14 : Tells c.group_totals_fit.result (When keepingAt (SmallTotals (Named c.args.t.s (group_names c.args.t.group)) c.args.totals.now)) = small_named keepingAt c.args.t.s (group_names c.args.t.group) c.args.totals.now (λ q. (k1.1.1.0.totals q).totals)
    c.group_totals_fit.result (rw keeping at c.group_totals_fit.ensures) in
    past 14
    (inr (k3, inr (k3-area, inr (k4, inr (k6, inr (k9, inl (refused c.group_totals_fit.result (ap not c.if-not-group_totals_fit.true) tell14, refl)))))))

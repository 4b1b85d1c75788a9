-- `group_totals_fit` meets its contract: after k turns the flag tells of the systems before k.
use borrow.Author.Tests.{not-false}
use native.Mathlib.Omega.{arith}
use Rattle.std.proofs.Common.{◌<◌, ◌≡◌, length, take}
use Rattle.std.proofs.lemmas.List.{length-take-le, get_or-take}
use Rattle.lemmas.specs.Tells.{same, said, flag_more, flag_end, when_taken}
use Rattle.paper.specs.Refusal.Rules.{group_names, Named}
use Rattle.paper.specs.Answer.Totals.{SmallTotals}
use Rattle.systems.specs.Rows.{small_of, small_each}
use mathlib.Core.Bool.{not}
use mathlib.Core.Path.{ap}
use Rattle.systems.proofs.group_totals_fit.Goals as goal

pub loop-t-preserved : goal.loop-t-preserved
loop-t-preserved c = let g = c.args.group in
    let long : length (take g.len g.systems) ≡ g.len = length-take-le g.len g.systems (omega arith) in
    let here : c.loop-t.t-index < g.len = omega arith in
    flag_more c.loop-t.invariant here (said c.total_ok-ok.result _ (rw (get_or-take g.len g.systems c.loop-t.t-index 0 here) at c.total_ok-ok.ensures))

pub returns : goal.returns
returns c = let a = c.args in
    let names = group_names a.group in
    let long : length (take a.group.len a.group.systems) ≡ a.group.len = length-take-le a.group.len a.group.systems (omega arith) in
    let ts = a.totals.now in
    let each = said c.loop-t.ok _ (flag_end c.loop-t.invariant (omega arith)) in
    let small = SmallTotals (Named (length ts) names) ts in
    when_taken c.loop-t.ok small (not-false a.keeping (ap not c.if-not-keeping.false)) (same small (small_of names ts) (small_each names ts) each).says

-- `order_totals_fit` meets its contract: after k turns the flag tells of the systems before k.
use borrow.Author.Tests.{not-false}
use lib.ListN.{length}
use Rattle.lemmas.specs.Tells.{same, said, flag_end, when_taken}
use Rattle.paper.specs.Refusal.Rules.{order_names, Named}
use Rattle.paper.specs.Answer.Totals.{SmallTotals}
use Rattle.systems.specs.Rows.{small_of, small_each}
use mathlib.Core.Bool.{not}
use mathlib.Core.Path.{ap}
use Rattle.systems.proofs.order_totals_fit.Goals as goal

pub returns : goal.returns
returns c = let a = c.args in
    let names = order_names a.order.now in
    let ts = a.totals.now in
    let each = said c.loop-t.ok _ (flag_end c.loop-t.invariant c.loop-t-test.false) in
    let small = SmallTotals (Named (length ts) names) ts in
    when_taken c.loop-t.ok small (not-false a.keeping (ap not c.if-not-keeping.false)) (same small (small_of names ts) (small_each names ts) each).says

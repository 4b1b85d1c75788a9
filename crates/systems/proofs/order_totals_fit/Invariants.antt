-- `order_totals_fit` meets its contract: after k turns the flag tells of the systems before k.
use lib.ListN.{length, get_or}
use Rattle.lemmas.specs.Tells.{Flagged}
use Rattle.systems.specs.Rows.{SmallTotal}
use Rattle.systems.proofs.order_totals_fit.Given as goal

abbrev pub invariant-loop-t : goal.invariant-loop-t
invariant-loop-t l = Flagged (length l.order) (λ j. SmallTotal l.totals (get_or l.order j 0)) l.t-index l.ok

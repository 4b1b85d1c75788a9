-- `order_rows_ok` meets its contract: after k turns the flag tells of the entries before k.
use Rattle.lemmas.specs.Tells.{same, said, flag_end}
use Rattle.paper.specs.Refusal.Rules.{order_names, Named, Spins}
use Rattle.systems.specs.Rows.{spins_of, spins_each}
use Rattle.systems.proofs.order_rows_ok.Goals as goal

pub returns : goal.returns
returns c = let a = c.args in
    let names = order_names a.order.now in
    let each = said c.loop-t.ok _ (flag_end c.loop-t.invariant c.loop-t-test.false) in
    (same (Spins a.n (Named a.s names) a.spins.now) (spins_of a.n a.s names a.spins.now)
    (spins_each a.n a.s names a.spins.now) each).says

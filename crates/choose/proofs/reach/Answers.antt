-- `choose::reach` meets its contract. The invariant: the marks below i are made.
use native.Mathlib.Omega.{arith}
use Rattle.choose.proofs.Passed.{pass_all}
use Rattle.choose.proofs.Tested.{all_reached}
use Rattle.choose.proofs.reach.Goals as goal

pub returns : goal.returns
returns c = let l = c.loop-i in
    let a = c.args in
    all_reached a.form a.mode a.seed a.acts.now a.labels.now a.tally.now a.reached.now l.reached _ _
    c.requires
    c.least_size-least.ensures
    c.home-own.ensures
    (pass_all _ _ l.i l.reached l.invariant (omega (arith, c.requires.lent, c.loop-i-test.false)))

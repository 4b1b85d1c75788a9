-- `write` meets its contract. The invariant: the first places have taken what is drawn for them.
use Rattle.draws.specs.Writing.{DrawnTo}
use Rattle.draws.proofs.passes.write.Given as goal

abbrev pub invariant-loop-place : goal.invariant-loop-place
invariant-loop-place g l = goal.F-IsAlwaysCallable g l.draw × DrawnTo (goal.F-post g l.draw) l.place-index l.initial.source l.initial.places l.source l.places

-- `choose::reach` meets its contract. The invariant: the marks below i are made.
use mathlib.Core.Bool.{cond}
use Rattle.lemmas.specs.Stores.{Filled}
use Rattle.choose.proofs.Tested.{tested}
use Rattle.choose.proofs.reach.Given as goal

abbrev pub invariant-loop-i : goal.invariant-loop-i
invariant-loop-i l = Filled 0 (λ k. cond (tested l.form l.least l.own l.acts l.labels l.tally k) 1 0) l.i l.initial.reached l.reached

-- `group_ok` meets its contract: after k turns the flag tells of the systems before k.
use Rattle.lemmas.specs.Tells.{Flagged}
use Rattle.paper.specs.Panel.Input.{member}
use Rattle.lattice.specs.Groups.{Alone}
use Rattle.lattice.proofs.group_ok.Given as goal

abbrev pub invariant-loop-k : goal.invariant-loop-k
invariant-loop-k l = Flagged l.len (Alone l.s (member l.group)) l.k l.ok

-- `narrow_all` meets its contract. The invariant: the first i sites are done.
use Rattle.matching.specs.Sources.{NarrowedBy}
use Rattle.matching.proofs.narrow_all.Given as goal

abbrev pub invariant-loop-i : goal.invariant-loop-i
invariant-loop-i l = NarrowedBy l.i l.gauge l.olds l.news l.labels l.pins l.initial.sets l.sets

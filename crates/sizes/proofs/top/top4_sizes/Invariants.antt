-- `top4_sizes` meets its contract.
use Rattle.sizes.specs.Steps.{all_or_more, Top4}
use Rattle.sizes.proofs.top.top4_sizes.Given as goal

abbrev pub invariant-loop-size : goal.invariant-loop-size
invariant-loop-size l = Top4 (all_or_more l.ones l.sizes l.size-index) l.t.0 l.t.1 l.t.2 l.t.3

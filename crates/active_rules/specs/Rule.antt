-- The published names of the rules, as modes.
use Rattle.paper.specs.declared.Mode.{Mode}
use Rattle.paper.specs.declared.Mode.TheVariants.{Houd, Pair, Perm, Gperm}
use Rattle.active_rules.specs.declared.ActiveRule.{ActiveRule}
use Rattle.active_rules.specs.declared.ActiveRule.TheVariants.{Balanced, Pairwise, Permutation, GaugedPermutation}

abbrev pub mode_of : ActiveRule → Mode
mode_of Balanced = Houd
mode_of Pairwise = Pair
mode_of Permutation = Perm
mode_of GaugedPermutation = Gperm

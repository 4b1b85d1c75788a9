-- `column_rules::any_differs` meets its contract: the bits of equal spins are none or all.
use mathlib.Core.Path.{◌∙◌}
use mathlib.Core.Bool.{not, ◌&&◌}
use lib.Dec.{eqb}
use Rattle.column_rules.proofs.Bits.{differs_low}
use Rattle.column_rules.proofs.any_differs.Goals as goal

pub returns : goal.returns
returns c = (λ i. not (eqb (c.low-x.ensures i) 0) && not (eqb (c.low-x.ensures i) (c.low.ensures i))) ∙ differs_low c.args.len c.args.column c.requires

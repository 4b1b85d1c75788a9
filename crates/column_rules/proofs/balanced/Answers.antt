-- `column_rules::balanced` meets its contract: the spins sum to 0 where half of the bits are set.
use Prim.Native.Nat.{◌*◌}
use mathlib.Core.Path.{◌∙◌}
use lib.Count.{ones}
use lib.Dec.{eqb}
use Rattle.column_rules.proofs.Bits.{houd_low}
use Rattle.column_rules.proofs.balanced.Goals as goal

pub returns : goal.returns
returns c = (λ i. eqb (2 * ones (c.low.ensures i)) c.args.len) ∙ houd_low c.args.len c.args.column

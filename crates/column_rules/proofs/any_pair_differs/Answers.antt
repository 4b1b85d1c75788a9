-- `column_rules::any_pair_differs` meets its contract: a pair that disagrees is changed by the exchange.
use mathlib.Core.Path.{◌∙◌}
use mathlib.Core.Bool.{not}
use lib.Dec.{eqb}
use Rattle.column_rules.proofs.Bits.{pair_low}
use Rattle.column_rules.proofs.any_pair_differs.Goals as goal

pub returns : goal.returns
returns c = (λ i. not (eqb (c.low.ensures i) (c.low-2.ensures i)))
    ∙ pair_low c.args.group.len c.args.column c.exchanged.result c.requires c.exchanged.ensures

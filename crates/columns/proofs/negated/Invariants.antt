-- `negated` meets its contract. The invariant: `out` is the column of the first k places.
use mathlib.Core.Path.{◌≡◌}
use lib.IntN.{neg_ℤ}
use Rattle.columns.specs.Column.{shown, column_of}
use Rattle.columns.proofs.negated.Given as goal

abbrev pub invariant-loop-k : goal.invariant-loop-k
invariant-loop-k l = l.out ≡ column_of l.k (λ j. neg_ℤ (shown l.column j))

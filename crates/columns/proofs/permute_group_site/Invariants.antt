-- `permute_group_site` meets its contract. The invariant: `out` is the column of the first k places.
use mathlib.Core.Path.{◌≡◌}
use lib.ListN.{get_or}
use Rattle.columns.specs.Column.{shown, column_of}
use Rattle.columns.proofs.permute_group_site.Given as goal

abbrev pub invariant-loop-k : goal.invariant-loop-k
invariant-loop-k l = l.out ≡ column_of l.k (λ j. shown l.column (get_or l.perm j 0))

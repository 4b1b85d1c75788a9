-- `identity` meets its contract. The invariant: the first k places are tested.
use Rattle.std.proofs.Common.{◌≡◌}
use Rattle.draws.specs.Rows.{is_identity}
use Rattle.draws.proofs.rows.identity.Given as goal

abbrev pub invariant-loop-k : goal.invariant-loop-k
invariant-loop-k l = l.same ≡ is_identity l.k l.row

-- `write_rows` meets its contract. The invariant: the first i rows are drawn and written.
use Rattle.std.proofs.Common.{◌*◌, length}
use Rattle.draws.specs.Fill.{go_down, entry_at}
use Rattle.draws.proofs.Filling.{Stopped, Filled}
use Rattle.draws.proofs.passes.write_rows.Given as goal

abbrev pub invariant-loop-i : goal.invariant-loop-i
invariant-loop-i l = Stopped (go_down l.moving l.members) l.i l.initial.source l.source
    × Filled (entry_at l.moving l.members l.initial.source) (l.i * l.members) (length l.initial.rows) l.rows

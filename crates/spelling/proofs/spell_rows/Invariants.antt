-- `spell_rows` meets its contract: so many cells are written.
use Rattle.std.proofs.Common.{◌+◌, ◌*◌}
use Rattle.lemmas.specs.Stores.{Filled}
use Rattle.spelling.proofs.Cells.{cells}
use Rattle.spelling.proofs.spell_rows.Given as goal

abbrev pub invariant-loop-k : goal.invariant-loop-k
invariant-loop-k l = Filled 0 (cells l.numbers) (l.i * 5 + l.k) l.fn.rows l.rows

abbrev pub invariant-loop-i : goal.invariant-loop-i
invariant-loop-i l = Filled 0 (cells l.numbers) (l.i * 5) l.fn.rows l.rows

-- `frame_lines::fill::fill_spins` meets its contract: what was passed is filled.
use mathlib.Core.List.{map}
use lib.ListN.{drop}
use Rattle.paper.specs.Answer.Frame.{bytes, signed}
use Rattle.frame_lines.specs.Fill.{Filling}
use Rattle.frame_lines.proofs.fill.fill_spins.Given as goal

abbrev pub invariant-loop-k : goal.invariant-loop-k
invariant-loop-k l = Filling (map signed (bytes (drop l.at l.text))) l.initial.spins l.count l.k l.spins

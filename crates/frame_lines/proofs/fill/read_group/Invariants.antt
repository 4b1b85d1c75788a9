-- `frame_lines::fill::read_group` meets its contract: what was passed is filled, and the rest stays nought.
use lib.ListN.{drop, replicate}
use Rattle.paper.specs.Answer.Frame.{bytes}
use Rattle.frame_lines.specs.Fill.{Filling}
use Rattle.frame_lines.proofs.fill.read_group.Given as goal

abbrev pub invariant-loop-k : goal.invariant-loop-k
invariant-loop-k l = Filling (bytes (drop l.at l.text)) (replicate 8 0) l.len l.k l.systems

-- `frame_lines::fill::fill_bytes` meets its contract: what was passed is filled.
use lib.ListN.{drop}
use Rattle.paper.specs.Answer.Frame.{bytes}
use Rattle.frame_lines.specs.Fill.{Filling}
use Rattle.frame_lines.proofs.fill.fill_bytes.Given as goal

abbrev pub invariant-loop-k : goal.invariant-loop-k
invariant-loop-k l = Filling (bytes (drop l.at l.text)) l.initial.perms l.count l.k l.perms

-- `frame_lines::fill::fill_words` meets its contract: what was passed is filled.
use lib.ListN.{drop}
use Rattle.paper.specs.Answer.Frame.{bytes, words}
use Rattle.frame_lines.specs.Fill.{Filling}
use Rattle.frame_lines.proofs.fill.fill_words.Given as goal

abbrev pub invariant-loop-k : goal.invariant-loop-k
invariant-loop-k l = Filling (words (bytes (drop l.at l.text))) l.initial.fwd l.count l.k l.fwd

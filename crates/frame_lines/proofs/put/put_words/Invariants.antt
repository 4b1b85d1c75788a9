-- `frame_lines::put::put_words` meets its contract: two bytes a turn.
use Prim.Native.Nat.{◌+◌, ◌*◌}
use Rattle.paper.specs.Answer.Frame.{two_bytes}
use Rattle.frame_lines.specs.Writing.{Hexing}
use Rattle.frame_lines.proofs.put.put_words.Given as goal

abbrev pub invariant-loop-k : goal.invariant-loop-k
invariant-loop-k l = Hexing (two_bytes l.xs) l.initial.out (l.at + 2) (2 * l.k) l.out

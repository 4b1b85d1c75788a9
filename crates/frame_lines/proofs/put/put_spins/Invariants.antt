-- `frame_lines::put::put_spins` meets its contract: a byte a turn.
use Prim.Native.Nat.{◌+◌}
use mathlib.Core.List.{map}
use Rattle.paper.specs.Answer.Frame.{spin_byte}
use Rattle.frame_lines.specs.Writing.{Hexing}
use Rattle.frame_lines.proofs.put.put_spins.Given as goal

abbrev pub invariant-loop-k : goal.invariant-loop-k
invariant-loop-k l = Hexing (map spin_byte l.xs) l.initial.out (l.at + 2) l.k l.out

-- `choose_sites` meets its contract. The invariant: the members below i have their columns.
use Prim.Native.Nat.{ℕ}
use mathlib.Core.Bool.{Bool, ◌&&◌}
use mathlib.Core.List.{List}
use lib.Dec.{eqb}
use lib.ListN.{get_or}
use lib.IntN.{ℤ}
use Rattle.paper.specs.declared.Task.{Task}
use Rattle.task_choose.specs.Blocks.{Upto}
use Rattle.task_choose.specs.Grown.{member_column}
use Rattle.task_choose.proofs.grown.choose_sites.Given as goal

abbrev pub new : Task → ℕ → List ℤ → List ℕ → List ℕ → List ℕ → Bool → ℕ → ℕ
new t gauge rows choices greys takers free i = member_column t gauge rows choices greys (free && eqb (get_or takers i 0) 1) i

abbrev pub invariant-loop-i : goal.invariant-loop-i
invariant-loop-i l = Upto l.members (new l.t l.gauge l.rows l.choices l.greys l.takers l.free) l.from l.to l.i l.initial.area l.area

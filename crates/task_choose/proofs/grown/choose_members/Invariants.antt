-- `choose_members` meets its contract. The invariant: the members below `from`, or below the end, have their columns.
use Rattle.std.specs.Prelude.{ℕ, min}
use mathlib.Core.Bool.{Bool, ◌&&◌}
use mathlib.Core.List.{List}
use lib.Dec.{eqb}
use lib.ListN.{get_or}
use lib.IntN.{ℤ}
use Rattle.paper.specs.declared.Task.{Task}
use Rattle.task_choose.specs.Blocks.{Upto}
use Rattle.task_choose.specs.Grown.{member_column}
use Rattle.task_choose.proofs.grown.choose_members.Given as goal

abbrev pub new : Task → ℕ → List ℤ → List ℕ → List ℕ → List ℕ → Bool → ℕ → ℕ
new t gauge rows choices greys takers free i = member_column t gauge rows choices greys (free && eqb (get_or takers i 0) 1) i

abbrev pub invariant-loop-from : goal.invariant-loop-from
invariant-loop-from l = Upto l.members (new l.t l.gauge l.rows l.choices l.greys l.takers l.free) 0 l.t.n (min l.from l.t.n) l.initial.area l.area

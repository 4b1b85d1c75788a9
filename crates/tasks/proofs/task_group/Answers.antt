-- `task_group` meets its contract. The invariant: the systems of the first x places are read.
use borrow.Author.Rules.{rules}
use Prim.Native.Nat.{ℕ, ◌+◌, ◌*◌, ◌/◌, ◌%◌, ◌<◌}
use mathlib.Core.Path.{◌≡◌, ap}
use mathlib.Core.List.{List}
use native.Mathlib.Omega.{arith}
use native.Mathlib.Nat.{le_antisymm}
use Rattle.lemmas.specs.Cells.{table, length_table}
use Rattle.lemmas.specs.Stores.{filled_none, filled_more}
use Rattle.paper.specs.declared.Group.{Group}
use Rattle.tasks.specs.Plan.{some_members, entry_lt}
use Rattle.tasks.proofs.Filling.{fill_done}
use Rattle.tasks.proofs.task_group.Goals as goal

abbrev group : ℕ → List ℕ → Group
group m z = record { len = m; systems = z }

pub overflow_add-base : goal.overflow_add-base
overflow_add-base c =
    let p = c.requires.task.planned in
    omega (arith, entry_lt c.args.plan p c.args.k c.requires.task.below 0 (some_members c.args.plan p), p.few, p.ranged.lattice.s_high)

pub loop-x-init : goal.loop-x-init
unfolding table
loop-x-init c = filled_none _ _ _

pub overflow_add-base-in-loop-x : goal.overflow_add-base-in-loop-x
overflow_add-base-in-loop-x c =
    let p = c.requires.task.planned in
    omega (arith, entry_lt c.args.plan p c.args.k c.requires.task.below c.loop-x.x c.loop-x-test.true, p.few, p.ranged.lattice.s_high)

pub offset_bounds-order-base : goal.offset_bounds-order-base
offset_bounds-order-base c =
    let p = c.requires.task.planned in
    omega (arith, entry_lt c.args.plan p c.args.k c.requires.task.below c.loop-x.x c.loop-x-test.true, p.few, p.ranged.lattice.s_high)

pub bounds-order-base : goal.bounds-order-base
bounds-order-base c =
    omega (arith, entry_lt c.args.plan c.requires.task.planned c.args.k c.requires.task.below c.loop-x.x c.loop-x-test.true, c.requires.long)

pub loop-x-preserved : goal.loop-x-preserved
loop-x-preserved c =
    let below : c.loop-x.x < 8 = omega (arith, c.requires.task.planned.ranged.size_high) in
    filled_more c.loop-x.invariant (omega (arith, below, length_table 8 (λ k. 0))) c.wide.ensures

pub returns : goal.returns
returns c = let m = c.args.plan.members in
    let e : c.loop-x.x ≡ m = omega arith in
    ap (λ (z : List ℕ). group m z) (rw e at (fill_done c.loop-x.invariant))

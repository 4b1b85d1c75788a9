-- `quick_column_at` meets its contract, by whether the group has two members.
use Prim.Native.Nat.{ℕ, ◌+◌}
use mathlib.Core.Path.{◌∙◌}
use mathlib.Core.Bool.{Bool}
use Rattle.paper.specs.Panel.Input.{pattern_of}
use Rattle.columns.specs.Column.{is_up}
use Rattle.columns.proofs.Eight.{two_bits}
use Rattle.columns.proofs.quick_column_at.Goals as goal

pub returns-then-group-eq2 : goal.returns-then-group-eq2
returns-then-group-eq2 c =
    let up : ℕ → Bool = λ k. is_up (pattern_of c.args.n c.args.group c.args.spins.now c.args.i k) in
    rw c.if-group-eq2.true ((λ i. c.member_bit.ensures i + c.member_bit-then-group-eq2.ensures i) ∙ two_bits up)

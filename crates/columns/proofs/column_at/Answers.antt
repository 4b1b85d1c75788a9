-- `column_at` meets its contract: each member's bit is added, and past the group none.
use Prim.Native.Nat.{ℕ, ◌+◌}
use mathlib.Core.Path.{◌∙◌}
use mathlib.Core.Bool.{Bool}
use Rattle.paper.specs.Panel.Input.{pattern_of}
use Rattle.columns.specs.Column.{is_up}
use Rattle.columns.proofs.Eight.{eight_bits}
use Rattle.columns.proofs.column_at.Goals as goal

pub returns : goal.returns
returns c =
    let up : ℕ → Bool = λ k. is_up (pattern_of c.args.n c.args.group c.args.spins.now c.args.i k) in
    (λ i. c.member_bit.ensures i + c.member_bit-2.ensures i
    + (c.member_bit-3.ensures i + c.member_bit-4.ensures i)
    + (c.member_bit-5.ensures i + c.member_bit-6.ensures i
    + (c.member_bit-7.ensures i + c.member_bit-8.ensures i)))
    ∙ eight_bits c.args.group.len up c.requires.few

-- `member_column` meets its contract.
use Prim.Native.Nat.{ℕ}
use mathlib.Core.Path.{◌≡◌, ◌∙◌, ap}
use mathlib.Core.Bool.{Bool, ◌&&◌}
use lib.Bits.{bit_xor}
use Rattle.paper.specs.Panel.Input.{pattern_of}
use Rattle.paper.specs.Site.Acting.{test_by}
use Rattle.columns.specs.Column.{shown, column_lt}
use Rattle.turn.specs.Turned.{turned_column}
use Rattle.task_choose.specs.Grown.{column_in}
use Rattle.task_choose.proofs.grown.member_column.Goals as goal

pub turned_column-requires : goal.turned_column-requires
turned_column-requires c =
    let column : let a = c.args in c.quick_column_at-column.result ≡ column_in a.t a.rows.now a.i = c.quick_column_at-column.ensures in
    let a = c.args in
    let p = c.requires.turning in
    record {
      chooses = p.chooses;
      two = p.two;
      lent = p.lent;
      small = p.small;
      narrow = rw column (column_lt a.t.group.len (pattern_of a.t.n a.t.group a.rows.now a.i));
    }

pub returns : goal.returns
returns c =
    let column : let a = c.args in c.quick_column_at-column.result ≡ column_in a.t a.rows.now a.i = c.quick_column_at-column.ensures in
    let a = c.args in
    let t = a.t in
    let new : Bool → ℕ → ℕ = λ b x. turned_column t a.gauge a.choices.now a.greys.now (b && a.takes) x in
    c.turned_column.ensures
    ∙ (ap (λ (b : Bool). new b c.quick_column_at-column.result) c.acts_column-acts.ensures
    ∙ ap (λ (x : ℕ). new (test_by t.mode t.group.len (shown (bit_xor x a.gauge))) x) column)

-- `column_rules::joined` meets its contract.
use Prim.Native.Nat.{ℕ, ◌+◌, ◌-◌, ◌%◌, ◌^◌, ◌≤◌}
use mathlib.Core.Path.{◌≡◌, ◌∙◌}
use mathlib.Core.Bool.{cond}
use native.Mathlib.Omega.{arith}
use lib.Dec.{ltb}
use Rattle.columns.specs.Column.{shown, column_of}
use Rattle.columns.specs.Bits.{code_byte}
use Rattle.column_rules.proofs.Flips.{low_le, joined_low}
use Rattle.column_rules.proofs.joined.Goals as goal

-- the low bits of each column, as the code adds them
added : (first column count len : ℕ) {x y z : ℕ} → count ≤ len → x ≡ first % 2 ^ count → y ≡ column % 2 ^ len → z ≡ column % 2 ^ count
    → x + (y - z) ≡ column_of len (λ k. cond (ltb k count) (shown first k) (shown column k))
added first column count len h e f g = (λ i. e i + (f i - g i)) ∙ joined_low first column count len h

pub overflow_sub-result : goal.overflow_sub-result
overflow_sub-result c = let a = c.args in
    omega (arith, low_le a.first a.column a.count a.len c.requires.count_le_len, c.low-2.ensures, c.low-3.ensures)

pub overflow_add-result : goal.overflow_add-result
overflow_add-result c = let a = c.args in
    let is = added a.first a.column a.count a.len c.requires.count_le_len c.low.ensures c.low-2.ensures c.low-3.ensures in
    record { fits = rw is (code_byte _ _ c.requires.len_bound) }

pub returns : goal.returns
returns c = let a = c.args in
    added a.first a.column a.count a.len c.requires.count_le_len c.low.ensures c.low-2.ensures c.low-3.ensures

-- `negated` meets its contract. The invariant: `out` is the column of the first k places.
use mathlib.Core.Path.{◌≡◌, sym}
use Prim.Native.Nat.{ℕ, ◌+◌, ◌-◌, ◌*◌, ◌/◌, ◌%◌, ◌^◌, ◌<◌}
use native.Mathlib.Omega.{arith}
use lib.IntN.{neg_ℤ}
use Rattle.columns.specs.Column.{shown, column_of}
use Rattle.columns.specs.Bits.{code_none, code_byte, code_step, negated_value}
use Rattle.columns.proofs.negated.Goals as goal

-- one more place
step : (column k out : ℕ) → k < 8 → out ≡ column_of k (λ j. neg_ℤ (shown column j))
    → out + (1 - column / 2 ^ k % 2) * 2 ^ k % 256 ≡ column_of (k + 1) (λ j. neg_ℤ (shown column j))
step column k out few was = code_step k _ out _ few was (sym (negated_value column k))

pub loop-k-init : goal.loop-k-init
loop-k-init c = sym (code_none _)

pub overflow_add-out : goal.overflow_add-out
overflow_add-out c = let l = c.loop-k in
    record { fits = rw (step c.args.column l.k l.out (omega arith) l.invariant) (code_byte _ _ (omega arith)) }

pub loop-k-preserved : goal.loop-k-preserved
loop-k-preserved c = let l = c.loop-k in
    step c.args.column l.k l.out (omega arith) l.invariant

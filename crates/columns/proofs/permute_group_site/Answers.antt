-- `permute_group_site` meets its contract. The invariant: `out` is the column of the first k places.
use mathlib.Core.Path.{◌≡◌, sym}
use Prim.Native.Nat.{ℕ, ◌+◌, ◌*◌, ◌/◌, ◌%◌, ◌^◌, ◌<◌}
use native.Mathlib.Omega.{arith}
use lib.ListN.{get_or}
use Rattle.columns.specs.Column.{shown, column_of}
use Rattle.columns.specs.Bits.{code_none, code_byte, code_step, shown_value}
use Rattle.columns.proofs.permute_group_site.Goals as goal

-- one more place, where p names the place that each replica reads
step : (column k out : ℕ) (p : ℕ → ℕ) → k < 8 → out ≡ column_of k (λ j. shown column (p j))
    → out + column / 2 ^ p k % 2 * 2 ^ k % 256 ≡ column_of (k + 1) (λ j. shown column (p j))
step column k out p few was = code_step k _ out _ few was (sym (shown_value column (p k)))

pub loop-k-init : goal.loop-k-init
loop-k-init c = sym (code_none _)

pub overflow_add-out : goal.overflow_add-out
overflow_add-out c = let l = c.loop-k in
    record {
      fits = rw (step c.args.column l.k l.out (λ j. get_or c.args.perm.now j 0) (omega arith) l.invariant)
          (code_byte _ _ (omega arith));
    }

pub loop-k-preserved : goal.loop-k-preserved
loop-k-preserved c = let l = c.loop-k in
    step c.args.column l.k l.out (λ j. get_or c.args.perm.now j 0) (omega arith) l.invariant

-- What the tests of `components` leave to `label_and_count`.
use Prim.Native.Nat.{ℕ, ◌+◌, ◌*◌}
use mathlib.Core.Path.{◌≡◌}
use mathlib.Core.List.{List}
use lib.ListN.{length}
use Rattle.lemmas.specs.Cells.{cell_lt}
use Rattle.paper.specs.Refusal.Rules.{Sizes}
use Rattle.label.specs.Contract.{Given}
use Rattle.label.specs.Entry.{ExactLengths, Below}

pub given_by : {n d : ℕ} {fwd holds : List ℕ} {counted labels counts sizes found tally : ℕ} → Sizes n d 1
    → ExactLengths n d (length fwd) (length holds) counted labels counts sizes found → Below n fwd → tally ≡ n
    → Given n d fwd holds labels tally
given_by {n} {d} {fwd} z x h e = record {
  n_high = z.n_high;
  d_high = z.d_high;
  fwd_long = x.fwd_long;
  holds_long = x.holds_long;
  ahead_lt = λ i k il kl. h (i * d + k) (rw x.fwd_long (cell_lt n d i k il kl));
  labels_long = x.labels_long;
  tally_long = e;
}

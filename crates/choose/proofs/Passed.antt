-- A loop over all sites that stores the value f i at each place i, at its end.
use Prim.Native.Nat.{ℕ, ◌≤◌}
use mathlib.Core.List.{List}
use native.Mathlib.Omega.{arith}
use lib.ListN.{length}
use Rattle.lemmas.specs.Stores.{Filled}
use Rattle.choose.specs.Chosen.{Becomes}

pub pass_all : (f : ℕ → ℕ) (xs : List ℕ) (i : ℕ) (ys : List ℕ) → Filled 0 f i xs ys → length xs ≤ i → Becomes f xs ys
pass_all f xs i ys p h = record { long = p.long; at = λ k l. p.done k (omega arith) }

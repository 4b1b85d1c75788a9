-- The first m entries of a list, where it has so many.
use Prim.Native.Nat.{ℕ, ◌≤◌, ◌<◌}
use mathlib.Core.Path.{◌≡◌}
use mathlib.Core.List.{List}
use native.Mathlib.Omega.{arith}
use lib.ListN.{length, get_or, take}
use Rattle.std.proofs.lemmas.List.{get_or-take, length-take-le}

module _ (list : List ℕ) {m : ℕ} (long : m ≤ length list) {a : ℕ} (l : a < length (take m list)) where
  pub front_lt : a < m
  front_lt = omega (arith, length-take-le m list long)

  pub front_at : get_or (take m list) a 0 ≡ get_or list a 0
  front_at = get_or-take m list a 0 front_lt

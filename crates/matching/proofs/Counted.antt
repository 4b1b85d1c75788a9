-- Rows that are counted up: the turn, and the place in it.
use Prim.Native.Nat.{ℕ, suc, ◌+◌, ◌*◌, ◌%◌, ◌≤◌, ◌<◌}
use mathlib.Core.Path.{◌≡◌, sym, ◌∙◌, ap}
use mathlib.Core.Logic.{inl, inr}
use mathlib.Core.List.{List}
use native.Mathlib.Omega.{arith}
use native.Mathlib.Nat.{suc-mul}
use lib.ListN.{length, set}
use Rattle.lemmas.specs.Cells.{column_of_lem}
use Rattle.lemmas.specs.Stores.{Filled, Whole, filled_none, filled_more}
use Rattle.matching.specs.Least.{Follows}

pub record Counting (m k i : ℕ) (xs ys : List ℕ) : Type 0 where
  pub reached : i ≤ length xs
  pub place : k < m
  pub turn : ℕ
  pub is : i ≡ turn * m + k
  pub filled : Filled 0 (λ a. a % m) i xs ys

pub counting_none : (m : ℕ) (xs : List ℕ) → 0 < m → Counting m 0 0 xs xs
counting_none m xs h = record { reached = omega arith; place = h; turn = 0; is = omega arith; filled = filled_none _ _ _ }

pub counting_more :
    {m k i r : ℕ} {xs ys : List ℕ} → Counting m k i xs ys → i < length xs → Follows m k r → Counting m r (i + 1) xs (set ys i k)
counting_more {m} {k} {i} {r} {xs} {ys} w h = go
  where
    is_k : k ≡ i % m
    is_k = sym (ap (λ (a : ℕ). a % m) w.is ∙ column_of_lem m w.turn k w.place)

    more : Filled 0 (λ a. a % m) (i + 1) xs (set ys i k)
    more = filled_more w.filled h is_k

    go : Follows m k r → Counting m r (i + 1) xs (set ys i k)
    go (inl e) = record { reached = omega arith; place = e.1; turn = w.turn; is = omega (arith, w.is, e.0); filled = more }
    go (inr e) = record {
      reached = omega arith;
      place = omega (arith, e.0, w.place);
      turn = suc w.turn;
      is = omega (arith, w.is, e.0, e.1, suc-mul w.turn m);
      filled = more;
    }

pub counting_end : {m k i : ℕ} {xs ys : List ℕ} → Counting m k i xs ys → length xs ≤ i → Whole 0 (λ a. a % m) xs ys
counting_end {m} {k} {i} {xs} {ys} w h = let e : i ≡ length xs = omega (arith, w.reached) in rw e at w.filled

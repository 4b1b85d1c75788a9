-- A look for a pin among marked sites: the flag tells of the sites below i.
use Prim.Native.Nat.{ℕ, ◌+◌, ◌≤◌, ◌<◌, zero-le}
use mathlib.Core.Path.{◌≡◌, refl, sym, ◌∙◌, ap}
use mathlib.Core.Bool.{Bool, true, false, ◌&&◌, ◌||◌}
use mathlib.Core.List.{List}
use native.Mathlib.Nat.{le_antisymm}
use native.Mathlib.Omega.{arith}
use borrow.Author.Tests.{lt-ltb}
use lib.Dec.{eqb, ltb}
use lib.ListN.{length, get_or}
use Rattle.lemmas.specs.Counts.{count_where, count_none, count_yes, count_no}
use Rattle.paper.specs.Move.Moving.{has_one}

abbrev hit : List ℕ → List ℕ → ℕ → Bool
hit pins marks j = eqb (get_or marks j 0) 1 && eqb (get_or pins j 0) 1

pub record Finding (pins marks : List ℕ) (i : ℕ) (found : Bool) : Type 0 where
  pub within : i ≤ length marks
  pub is : found ≡ ltb 0 (count_where (hit pins marks) i)

pub find_start : (pins marks : List ℕ) → Finding pins marks 0 false
find_start pins marks = record { within = zero-le; is = sym (ap (ltb 0) (count_none (hit pins marks))) }

pub find_more : {pins marks : List ℕ} {i : ℕ} {found : Bool} → Finding pins marks i found → i < length marks
    → Finding pins marks (i + 1) (found || hit pins marks i)
find_more {pins} {marks} {i} {found} w l = record { within = omega arith; is = go (hit pins marks i) refl }
  where
    or_yes : (b : Bool) → (b || true) ≡ true
    or_yes true = refl
    or_yes false = refl

    or_none : (b : Bool) → (b || false) ≡ b
    or_none true = refl
    or_none false = refl

    go : (b : Bool) → hit pins marks i ≡ b → (found || b) ≡ ltb 0 (count_where (hit pins marks) (i + 1))
    go true e = or_yes found ∙ sym (ap (ltb 0) (count_yes (hit pins marks) i e) ∙ lt-ltb 0 (count_where (hit pins marks) i + 1) (omega arith))
    go false e = or_none found ∙ (w.is ∙ sym (ap (ltb 0) (count_no (hit pins marks) i e)))

pub find_end : {pins marks : List ℕ} {i : ℕ} {found : Bool} → Finding pins marks i found → length marks ≤ i
    → found ≡ has_one (λ j. eqb (get_or pins j 0) 1) marks 1
unfolding has_one
find_end {pins} {marks} {i} w h = w.is ∙ ap (λ (x : ℕ). ltb 0 (count_where (hit pins marks) x)) (le_antisymm w.within h)

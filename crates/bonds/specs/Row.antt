-- A table in the making: the bytes of one site written, and those of the sites so far.
use Rattle.std.specs.Prelude.{ℕ, ◌+◌, ◌≤◌, ◌<◌, ◌≡◌, Bool, List, length, get_or}
use Rattle.lemmas.specs.Counts.{bit}

-- ys is xs with m bytes written from base on: 1 where f, and else 0
pub record Row (base m : ℕ) (f : ℕ → Bool) (xs ys : List ℕ) : Type 0 where
  pub long : length ys ≡ length xs
  pub at : (e : ℕ) → e < m → get_or ys (base + e) 0 ≡ bit (f e)
  pub below : (k : ℕ) → k < base → get_or ys k 0 ≡ get_or xs k 0
  pub above : (k : ℕ) → base + m ≤ k → get_or ys k 0 ≡ get_or xs k 0

-- from `from` on each byte is 0
abbrev pub Blank : ℕ → List ℕ → Type 0
Blank from xs = (k : ℕ) → from ≤ k → get_or xs k 0 ≡ 0

-- both tables of CMR, after m bonds of one site
pub record BothRows (base m : ℕ) (f g : ℕ → Bool) (bs gs bs' gs' : List ℕ) : Type 0 where
  pub blue : Row base m f bs bs'
  pub grey : Row base m g gs gs'

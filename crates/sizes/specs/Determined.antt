-- How tight the promise is: what it allows for one input is one content of each lent buffer.
use Rattle.std.specs.Prelude.{ℕ, ◌≡◌, Bool, List}
use Rattle.laws.specs.Unique.{counts_unique, sizes_unique}
use Rattle.sizes.specs.Contract.{Reported}

pub record SameSizes (c c' s s' : List ℕ) : Type 0 where
  pub counts : c ≡ c'
  pub sizes : s ≡ s'

pub count_determined : {mark : ℕ → Bool} (l c c' s s' : List ℕ) → Reported mark l c s → Reported mark l c' s' → SameSizes c c' s s'
count_determined l c c' s s' h h' = record {
  counts = counts_unique l c c' h.counted h'.counted;
  sizes = sizes_unique l s s' h.largest h'.largest;
}

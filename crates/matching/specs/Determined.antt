-- Words by their entries, and when two answers of `explain` are one.
use Rattle.std.specs.Prelude.{ℕ, ◌*◌, ◌/◌, ◌%◌, ◌<◌, ◌≡◌, List, length, get_or}
use Rattle.std.proofs.Common.{sym, ◌∙◌, div-add-mod', mod-lt, div-lt_iff_lt-mul, ext_get_or}
use Rattle.lemmas.specs.Cells.{some_group}
use Rattle.orders.specs.Words.{word_at}

-- n words of m are known by their entries
pub words_ext :
    (n m : ℕ) (us vs : List ℕ) → length us ≡ n * m → length vs ≡ n * m
    → ((r k : ℕ) → r < n → k < m → word_at m us r k ≡ word_at m vs r k)
    → us ≡ vs
words_ext n m us vs e f same = ext_get_or 0 us vs (e ∙ sym f) (λ a h. at a (rw e at h))
  where
    at : (a : ℕ) → a < n * m → get_or us a 0 ≡ get_or vs a 0
    at a h =
        let some : 0 < m = some_group n m a h in
        rw (← div-add-mod' a m) (same (a / m) (a % m) ((div-lt_iff_lt-mul some).1 h) (mod-lt a some))

pub record SameRows (r : ℕ) (us : List ℕ) (s : ℕ) (vs : List ℕ) : Type 0 where
  pub number : r ≡ s
  pub rows : us ≡ vs

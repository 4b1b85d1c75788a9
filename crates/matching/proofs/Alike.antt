-- Permutations that fit one test of places fit another that is the same below m.
use Prim.Native.Nat.{ℕ, ◌≤◌, ◌<◌}
use mathlib.Core.Path.{◌≡◌, sym, ◌∙◌}
use native.Mathlib.Omega.{arith}
use Rattle.orders.specs.Words.{Agree}
use Rattle.matching.specs.Fitting.{Test, Fits, Fitted, Least}
use Rattle.matching.specs.Least.{Sound}

abbrev pub Alike : ℕ → Test → Test → Type 0
Alike m f g = (k j : ℕ) → k < m → j < m → f k j ≡ g k j

pub fits_alike : {m : ℕ} {f g : Test} {q : ℕ → ℕ} → Alike m f g → Fits m g q → Fits m f q
fits_alike e w = record { permutes = w.permutes; each = λ k h. e k _ h (w.permutes.within k h) ∙ w.each k h }

pub fitted_alike : {m : ℕ} {f g : Test} → Alike m f g → Fitted m g → Fitted m f
fitted_alike e w = record { by = w.by; fits = fits_alike e w.fits }

pub least_alike : {m : ℕ} {f g : Test} {p q : ℕ → ℕ} → Alike m f g → Agree m q p → Least m g p → Least m f q
least_alike {m} {f} {g} {p} {q} e a w = record {
  fits = fits_alike e (record {
    permutes = record {
      within = λ k h. rw (a k h) (w.fits.permutes.within k h);
      distinct = λ i j hi hj s. w.fits.permutes.distinct i j hi hj (sym (a i hi) ∙ (s ∙ a j hj));
    };
    each = λ k h. rw (a k h) (w.fits.each k h);
  });
  none_before = λ o f b. w.none_before o (fits_alike (λ k j hk hj. sym (e k j hk hj)) f) (record {
    place = b.place;
    inside = b.inside;
    agree = λ k h. b.agree k h ∙ a k (omega (arith, h, b.inside));
    less = rw (a b.place b.inside) at b.less;
  });
}

pub sound_alike : {m : ℕ} {f g : Test} → ((k j : ℕ) → k < m → j < 8 → f k j ≡ g k j) → m ≤ 8 → Sound m g → Sound m f
sound_alike {m} {f} {g} e few s = record {
  within = λ k j hk hj t. s.within k j hk hj (sym (e k j hk hj) ∙ t);
  square = λ k l i j hk hl hi hj a b c. at l j hl hj ∙ s.square k l i j hk hl hi hj (sym (at k i hk hi) ∙ a) (sym (at k j hk hj) ∙ b) (sym (at l i hl hi) ∙ c);
}
  where
    at : (k j : ℕ) → k < m → j < m → f k j ≡ g k j
    at k j hk hj = e k j hk (omega (arith, hj, few))

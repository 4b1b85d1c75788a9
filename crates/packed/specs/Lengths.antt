-- The lengths that the tests are handed: as many spins as the bytes stand for.
use Rattle.std.specs.Prelude.{ℕ, suc, ◌+◌, ◌*◌, ◌≤◌, ◌<◌, ◌≡◌, refl, cond, ltb}
use Rattle.std.proofs.Common.{ap, arith, mul-le-mul_left, mul-suc, lt-ltb, le-ltb}
use Rattle.std.proofs.Math.Decide.{dec_lt}
use Rattle.paper.specs.declared.Lengths.{Lengths}

-- past what is in range any number is as wrong as another: so the product is never too large
abbrev pub clip : ℕ → ℕ → ℕ
clip top x = cond (ltb top x) (top + 1) x

abbrev pub spins_for : ℕ → ℕ → ℕ
spins_for m bytes = clip 8 m * clip 4096 bytes

-- l with another number of spins
abbrev pub with_spins : Lengths → ℕ → Lengths
with_spins l x = record {
  spins = x;
  fwd = l.fwd;
  bwd = l.bwd;
  pins = l.pins;
  couplings = l.couplings;
  cuts = l.cuts;
  choices = l.choices;
  greys = l.greys;
  labels = l.labels;
  grey_labels = l.grey_labels;
  counts = l.counts;
  sizes = l.sizes;
  members = l.members;
  found = l.found;
  grey_found = l.grey_found;
}

-- ---- a product with the same number of members is of the same number of sites
pub cancel : (m x n : ℕ) → 1 ≤ m → m * x ≡ m * n → x ≡ n
cancel m x n some e = go (dec_lt x n) (dec_lt n x)
  where
    more : (a b : ℕ) → a < b → m * a + 1 ≤ m * b
    more a b h = let w : suc a ≤ b = h in omega (arith, mul-le-mul_left m w, mul-suc m a)

    go : Dec (x < n) → Dec (n < x) → x ≡ n
    go (yes h) d = absurd (omega (arith, more x n h, e))
    go (no h) (yes k) = absurd (omega (arith, more n x k, e))
    go (no h) (no k) = omega arith

-- ---- the tests 1, 15 and 2 of lengths with the clipped number are those of the rows' own
module _ (m n x : ℕ) (size_low : 2 ≤ m) (size_high : m ≤ 8) (n_high : n ≤ 4096) where
  same_size : clip 8 m ≡ m
  same_size = rw (le-ltb 8 m size_high) refl

  pub clipped_fits : m * x ≡ m * n → spins_for m x ≡ m * n
  clipped_fits e =
      let q : x ≡ n = cancel m x n (omega arith) e in
      rw (same_size, q, le-ltb 4096 n n_high) refl

  pub fits_clipped : spins_for m x ≡ m * n → m * x ≡ m * n
  fits_clipped e = ap (λ (y : ℕ). m * y) (back (cancel m (clip 4096 x) n (omega arith) (rw same_size at e)))
    where
      back : clip 4096 x ≡ n → x ≡ n
      back q = go (dec_lt 4096 x)
        where
          go : Dec (4096 < x) → x ≡ n
          go (yes h) = absurd (omega (arith, rw (lt-ltb 4096 x h) at q))
          go (no h) = rw (le-ltb 4096 x (omega arith)) at q

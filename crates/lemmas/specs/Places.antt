-- Whether a number is among the first m values of a function.
use Rattle.std.specs.Prelude.{ℕ, zero, suc, ◌<◌, ◌≡◌, ◌⊎◌, ◌≢◌}
use Rattle.std.proofs.Common.{◌∙◌, ap, inl, inr, arith}
use Rattle.std.proofs.Math.Decide.{ℕ_discrete}

abbrev pub Placed : ℕ → (ℕ → ℕ) → ℕ → Type 0
Placed m f t = (k : ℕ) × (k < m) × (t ≡ f k)

abbrev pub Unplaced : ℕ → (ℕ → ℕ) → ℕ → Type 0
Unplaced m f t = (k : ℕ) → k < m → t ≢ f k

pub place : (m : ℕ) (f : ℕ → ℕ) (t : ℕ) → Placed m f t ⊎ Unplaced m f t
place zero f t = inr (λ k h e. omega arith)
place (suc m) f t = go (ℕ_discrete t (f m)) (place m f t)
  where
    go : Dec (t ≡ f m) → Placed m f t ⊎ Unplaced m f t → Placed (suc m) f t ⊎ Unplaced (suc m) f t
    go (yes q) r = inl (m, omega arith, q)
    go (no q) (inl r) = inl (r.0, omega (arith, r.1), r.2)
    go (no q) (inr r) = inr (λ k h. last k h (ℕ_discrete k m))
      where
        last : (k : ℕ) → k < suc m → Dec (k ≡ m) → t ≢ f k
        last k h (yes e) = λ x. q (x ∙ ap f e)
        last k h (no e) = r k (omega arith)

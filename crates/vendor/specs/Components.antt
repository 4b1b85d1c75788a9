-- One component of the spins before: whether it acts, and its row. The smallest permutation is one, and each row is a permutation.
use Rattle.std.specs.Prelude.{ℕ, ◌≡◌, refl, ◌⊎◌, Bool, true, false, List, length, ℤ}
use Rattle.std.proofs.Common.{sym, ◌∙◌, inl, inr, arith}
use Rattle.lemmas.specs.Bools.{never}
use Rattle.paper.specs.Panel.Input.{Call, size}
use Rattle.paper.specs.Site.Acting.{acts}
use Rattle.paper.specs.Move.Moving.{has_one}
use Rattle.paper.specs.Refusal.Rules.{Permutes}
use Rattle.laws.specs.Holding.{one_is, one_has}
use Rattle.orders.specs.Words.{word_at, Agree, Compared, Compared.equal, Compared.before, Compared.after, compare}
use Rattle.vendor.specs.Vendor.{ActsIn, Smallest, RowOf}

module _ (c : Call) (xs : List ℤ) (l : List ℕ) (r : ℕ) (long : length l ≡ c.lattice.n) where
  -- the component acts, or it does not
  pub acts_or_not : ActsIn c xs l r ⊎ (ActsIn c xs l r → ⊥)
  acts_or_not = go (has_one (acts c xs) l r) refl
    where
      go : (t : Bool) → has_one (acts c xs) l r ≡ t → ActsIn c xs l r ⊎ (ActsIn c xs l r → ⊥)
      go true e =
          let o = one_is (acts c xs) l r e in
          inl (record { site = o.site; below = rw long at o.below; label = o.label; does = o.marked })
      go false e = inr (λ a.
          never (sym e ∙ one_has (acts c xs) l r (record { site = a.site; below = rw long a.below; label = a.label; marked = a.does })))

  module _ (ys : List ℤ) where
    -- of two smallest words neither comes before the other
    pub smallest_agree : (p q : ℕ → ℕ) → Smallest c xs ys l r p → Smallest c xs ys l r q → Agree (size c) p q
    smallest_agree p q s t = go (compare (size c) (size c) p q (omega arith))
      where
        go : Compared (size c) (size c) p q → Agree (size c) p q
        go (equal a) = a
        go (before b) = absurd (t.none_before p s.explains b)
        go (after b) = absurd (s.none_before q t.explains b)

    pub row_same : (us vs : List ℕ) → RowOf c xs ys l us r → RowOf c xs ys l vs r → Agree (size c) (word_at (size c) us r) (word_at (size c) vs r)
    row_same us vs a b = go acts_or_not
      where
        go : ActsIn c xs l r ⊎ (ActsIn c xs l r → ⊥) → Agree (size c) (word_at (size c) us r) (word_at (size c) vs r)
        go (inl w) = smallest_agree (word_at (size c) us r) (word_at (size c) vs r) (a.acting w) (b.acting w)
        go (inr w) = λ k h. a.other w k h ∙ sym (b.other w k h)

    pub row_permutes : (us : List ℕ) → RowOf c xs ys l us r → Permutes (size c) (word_at (size c) us r)
    row_permutes us a = go acts_or_not
      where
        go : ActsIn c xs l r ⊎ (ActsIn c xs l r → ⊥) → Permutes (size c) (word_at (size c) us r)
        go (inl w) = (a.acting w).explains.permutes
        go (inr w) = record {
          within = λ k h. rw (a.other w k h) h;
          distinct = λ i j hi hj e. sym (a.other w i hi) ∙ (e ∙ a.other w j hj);
        }

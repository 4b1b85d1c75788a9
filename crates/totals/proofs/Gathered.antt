-- Columns that are gathered: nothing yet, one site, and one step after another.
use Prim.Native.Nat.{ℕ, ◌+◌, ◌*◌, ◌<◌}
use mathlib.Core.Path.{◌≡◌, refl, sym, ◌∙◌, ap, subst}
use mathlib.Core.Logic.{◌⊎◌, inl, inr, ◌≢◌}
use mathlib.Core.List.{List}
use native.Mathlib.Omega.{arith}
use native.Mathlib.Decide.{ℕ_discrete}
use lib.ListN.{length, get_or, set, length-set}
use lib.Seq.{get_or-set_same, get_or-set_other}
use Rattle.totals.specs.Listed.{Right, Source, Gathered, Near, to, from, NearSome}

module _ {n : ℕ} {members : List ℕ} {rows : ℕ → ℕ} where
  pub gathered_none : {Done : ℕ → Type 0} {olds news : List ℕ} → ((x : ℕ) → Done x → ⊥) → Gathered n members rows Done olds news olds news
  gathered_none none = record {
    olds_long = refl;
    news_long = refl;
    kept = λ old new s x r. r;
    done = λ old new s x d. absurd (none x d);
  }

  pub gathered_as :
      {Done Some : ℕ → Type 0} {olds news olds' news' : List ℕ}
      → Gathered n members rows Done olds news olds' news' → ((x : ℕ) → Some x → Done x) → Gathered n members rows Some olds news olds' news'
  gathered_as g f = record {
    olds_long = g.olds_long;
    news_long = g.news_long;
    kept = g.kept;
    done = λ old new s x d. g.done old new s x (f x d);
  }

  pub gathered_both :
      {Done More : ℕ → Type 0} {o w o₁ w₁ o₂ w₂ : List ℕ}
      → Gathered n members rows Done o w o₁ w₁ → Gathered n members rows More o₁ w₁ o₂ w₂
      → Gathered n members rows (λ x. Done x ⊎ More x) o w o₂ w₂
  gathered_both {Done} {More} {o} {w} {o₁} {w₁} {o₂} {w₂} a b =
      record {
        olds_long = b.olds_long ∙ a.olds_long;
        news_long = b.news_long ∙ a.news_long;
        kept = λ old new s x r. b.kept old new (still old new s) x (a.kept old new s x r);
        done = λ old new s x d. at old new s x d;
      }
    where
      still : (old new : ℕ → ℕ) → Source n members rows old new o w → Source n members rows old new o₁ w₁
      still old new s = record { outside = s.outside; within = λ x l m. a.kept old new s x (s.within x l m) }

      at : (old new : ℕ → ℕ) → Source n members rows old new o w → (x : ℕ) → Done x ⊎ More x → Right old new o₂ w₂ x
      at old new s x (inl d) = b.kept old new (still old new s) x (a.done old new s x d)
      at old new s x (inr d) = b.done old new (still old new s) x d

  -- a member's columns stand there already
  pub gathered_member : {olds news : List ℕ} (j : ℕ) → j < n → get_or members j 0 ≡ 1 → Gathered n members rows (λ x. x ≡ j) olds news olds news
  gathered_member {olds} {news} j l m = record {
    olds_long = refl;
    news_long = refl;
    kept = λ old new s x r. r;
    done = λ old new s x e. rw e (s.within j l m);
  }

  pub gathered_row :
      {olds news : List ℕ} (j c : ℕ) → j < n → j < length olds → j < length news → get_or members j 0 ≢ 1 → c ≡ rows j
      → Gathered n members rows (λ x. x ≡ j) olds news (set olds j c) (set news j c)
  gathered_row {olds} {news} j c l lo lw m e =
      record {
        olds_long = length-set olds j c;
        news_long = length-set news j c;
        kept = λ old new s x r. at old new s x r (ℕ_discrete x j);
        done = λ old new s x q. rw q (here old new s);
      }
    where
      here : (old new : ℕ → ℕ) → Source n members rows old new olds news → Right old new (set olds j c) (set news j c) j
      here old new s = record {
        before = get_or-set_same olds j c 0 lo ∙ (e ∙ (s.outside j l m).0);
        after = get_or-set_same news j c 0 lw ∙ (e ∙ (s.outside j l m).1);
      }

      at :
          (old new : ℕ → ℕ) → Source n members rows old new olds news → (x : ℕ) → Right old new olds news x → Dec (x ≡ j)
          → Right old new (set olds j c) (set news j c) x
      at old new s x r (yes q) = rw q (here old new s)
      at old new s x r (no q) = record {
        before = get_or-set_other olds j x c 0 q ∙ r.before;
        after = get_or-set_other news j x c 0 q ∙ r.after;
      }

-- ---- the sites next to one

module _ {d : ℕ} {fwd bwd : List ℕ} {i : ℕ} where
  pub near_none : (x : ℕ) → Near d fwd bwd i 0 x → ⊥
  near_none x (to e l q) = omega arith
  near_none x (from e l q) = omega arith

  -- one direction more
  pub near_more :
      {m a b : ℕ} → a ≡ get_or fwd (i * d + m) 0 → b ≡ get_or bwd (i * d + m) 0
      → (x : ℕ) → Near d fwd bwd i (m + 1) x → (Near d fwd bwd i m x ⊎ (x ≡ a)) ⊎ (x ≡ b)
  near_more {m} {a} {b} p q x (to e l r) = at (ℕ_discrete e m)
    where
      at : Dec (e ≡ m) → (Near d fwd bwd i m x ⊎ (x ≡ a)) ⊎ (x ≡ b)
      at (yes h) = inl (inr (r ∙ (ap (λ (y : ℕ). get_or fwd (i * d + y) 0) h ∙ sym p)))
      at (no h) = inl (inl (to e (omega arith) r))
  near_more {m} {a} {b} p q x (from e l r) = at (ℕ_discrete e m)
    where
      at : Dec (e ≡ m) → (Near d fwd bwd i m x ⊎ (x ≡ a)) ⊎ (x ≡ b)
      at (yes h) = inr (r ∙ (ap (λ (y : ℕ). get_or bwd (i * d + y) 0) h ∙ sym q))
      at (no h) = inl (inl (from e (omega arith) r))

-- ---- the sites next to those of a list

module _ {d : ℕ} {fwd bwd : List ℕ} (list : List ℕ) where
  pub some_none : (x : ℕ) → NearSome d fwd bwd list 0 x → ⊥
  some_none x r = omega (arith, r.1)

  pub some_more : {m i : ℕ} → i ≡ get_or list m 0 → (x : ℕ) → NearSome d fwd bwd list (m + 1) x → NearSome d fwd bwd list m x ⊎ Near d fwd bwd i d x
  some_more {m} {i} p x r = at (ℕ_discrete r.0 m)
    where
      at : Dec (r.0 ≡ m) → NearSome d fwd bwd list m x ⊎ Near d fwd bwd i d x
      at (yes h) = inr (subst (λ (y : ℕ). Near d fwd bwd y d x) (ap (λ (y : ℕ). get_or list y 0) h ∙ sym p) r.2)
      at (no h) = inl (r.0, omega (arith, r.1), r.2)

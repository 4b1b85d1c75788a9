-- The systems that are named, one at a time.
use Rattle.std.specs.Prelude.{ℕ, ◌<◌, ◌≡◌, Bool}
use Rattle.std.proofs.Common.{sym, subst, arith}
use Rattle.std.proofs.Math.Decide.{dec_lt}
use Rattle.lemmas.specs.Tells.{Test, Each, Flagged, same}
use Rattle.paper.specs.Refusal.Rules.{Distinct, Names, Listed}
use Rattle.lattice.specs.Marking.{Bit, Marked}

-- none before k is the same
abbrev pub Fresh : (ℕ → ℕ) → ℕ → Type 0
Fresh f k = Each k (λ j. f j ≡ f k → ⊥)

-- the system at k is one of s, and none before it is the same
pub record Alone (s : ℕ) (f : ℕ → ℕ) (k : ℕ) : Type 0 where
  pub below : f k < s
  pub fresh : Fresh f k

distinct_of : (m : ℕ) (f : ℕ → ℕ) → Each m (Fresh f) → Distinct m f
distinct_of m f h a b la lb e = go (dec_lt a b) (dec_lt b a)
  where
    go : Dec (a < b) → Dec (b < a) → a ≡ b
    go (yes l) q = absurd (h b lb a l e)
    go (no n) (yes l) = absurd (h a la b l (sym e))
    go (no n) (no k) = omega arith

pub listed_of : (s : ℕ) (names : Names) → Each names.count (Alone s names.at) → Listed s names
listed_of s names h = record { below = λ k l. (h k l).below; distinct = distinct_of names.count names.at (λ k l. (h k l).fresh) }

pub listed_each : (s : ℕ) (names : Names) → Listed s names → Each names.count (Alone s names.at)
listed_each s names h k l = record { below = h.below k l; fresh = λ j lj e. let q = h.distinct j k (omega arith) l e in omega arith }

-- ---- by marks: x is below s, and its bit is not set
pub record Free (s x marks : ℕ) : Type 0 where
  pub below : x < s
  pub free : Bit marks x → ⊥

-- after k turns over m systems the flag tells of the first k, and these are marked
pub record Listing (s m : ℕ) (f : ℕ → ℕ) (k : ℕ) (ok : Bool) (marks : ℕ) : Type 0 where
  pub flag : Flagged m (Alone s f) k ok
  pub marked : Marked s f k marks

pub alone_free : {s k marks : ℕ} {f : ℕ → ℕ} {r : Bool} → Marked s f k marks → Test r (Free s (f k) marks) → Test r (Alone s f k)
alone_free {s} {k} {marks} {f} h t =
    same (Alone s f k)
    (λ q. record { below = q.below; fresh = λ j l e. q.free (subst (Bit marks) e (h.marks j l (subst (λ (v : ℕ). v < s) (sym e) q.below))) })
    (λ q. record { below = q.below; free = λ b. let m = h.met (f k) b in q.fresh m.place m.below m.is })
    t

-- What a test of rules answers: 0 where all are kept, else the number of the first that is broken.
use Rattle.std.specs.Prelude.{ℕ, zero, suc, ◌≡◌, refl, List, [], ◌∷◌, ◌++◌}
use Rattle.std.proofs.Common.{inl, inr, arith}
use Rattle.paper.specs.Refusal.Rule.{Rule, Kept, Broken, broken_unique, broken_not_kept}

abbrev pub Verdict : List Rule → ℕ → Type 0
Verdict rs zero = Kept rs
Verdict rs (suc r) = Broken rs (suc r)

pub verdict_unique : (rs : List Rule) (a b : ℕ) → Verdict rs a → Verdict rs b → a ≡ b
verdict_unique rs zero zero p q = refl
verdict_unique rs zero (suc b) p q = absurd (broken_not_kept rs (suc b) q p)
verdict_unique rs (suc a) zero p q = absurd (broken_not_kept rs (suc a) p q)
verdict_unique rs (suc a) (suc b) p q = broken_unique rs (suc a) (suc b) p q

-- rules after others
pub kept_both : (rs qs : List Rule) → Kept rs → Kept qs → Kept (rs ++ qs)
kept_both [] qs k h = h
kept_both (r ∷ rs) qs k h = (k.0, kept_both rs qs k.1 h)

pub broken_first : (rs qs : List Rule) (c : ℕ) → Broken rs c → Broken (rs ++ qs) c
broken_first [] qs c w = absurd w
broken_first (r ∷ rs) qs c (inl w) = inl w
broken_first (r ∷ rs) qs c (inr w) = inr (w.0, broken_first rs qs c w.1)

pub broken_later : (rs qs : List Rule) (c : ℕ) → Kept rs → Broken qs c → Broken (rs ++ qs) c
broken_later [] qs c k w = w
broken_later (r ∷ rs) qs c k w = inr (k.0, broken_later rs qs c k.1 w)

pub verdict_later : (rs qs : List Rule) (c : ℕ) → Kept rs → Verdict qs c → Verdict (rs ++ qs) c
verdict_later rs qs zero k w = kept_both rs qs k w
verdict_later rs qs (suc c) k w = broken_later rs qs (suc c) k w

pub verdict_kept : (rs : List Rule) (r : ℕ) → r ≡ 0 → Verdict rs r → Kept rs
verdict_kept rs zero e v = v
verdict_kept rs (suc r) e v = absurd (omega arith)

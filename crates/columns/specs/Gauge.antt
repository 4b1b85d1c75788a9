-- gperm's gauge as one byte: its exclusive or with a column is the column of the gauged pattern.
use Rattle.std.specs.Prelude.{ℕ, zero, suc, ◌+◌, ◌*◌, ◌^◌, ◌≤◌, ◌<◌, ◌≡◌, refl, Bool, true, false, not, cond, List, length, get_or, ℤ, neg_ℤ, ◌*ℤ◌}
use Rattle.std.proofs.Common.{◌∙◌, ap, inl, inr, add_comm}
use Rattle.std.specs.Int.Bits.{bit_xor, xor_zero_r}
use Rattle.std.proofs.lemmas.Nat.{xor_block}
use Rattle.lemmas.specs.Counts.{bit}
use Rattle.paper.specs.declared.Group.{Group}
use Rattle.paper.specs.declared.Mode.{Mode}
use Rattle.paper.specs.declared.Mode.TheVariants.{Houd, Pair, Perm, Gperm, Jorg, Cmr}
use Rattle.paper.specs.Panel.Input.{Pattern}
use Rattle.paper.specs.Panel.Takes.{is_gperm}
use Rattle.paper.specs.Site.Acting.{gauge}
use Rattle.paper.specs.Refusal.Rules.{Spin}
use Rattle.columns.specs.Column.{code, code_lt, code_ext, is_up, shown, column_of, shown_column, Columns}

-- the byte, from the column of the reference site
abbrev pub gauge_of : Mode → ℕ → ℕ → ℕ
gauge_of mode m x = cond (is_gperm mode) (column_of m (λ k. neg_ℤ (shown x k))) 0

-- the permutation p of a column, seen and written through a gauge
abbrev pub permuted_by : ℕ → ℕ → (ℕ → ℕ) → ℕ → ℕ
permuted_by m gauge p x = bit_xor (column_of m (λ k. shown (bit_xor x gauge) (p k))) gauge

-- what `gauge` asks
pub record Gaugeable (mode : Mode) (g : Group) (reference : ℕ) (cols : List ℕ) : Type 0 where
  pub few : g.len ≤ 8
  pub site : is_gperm mode ≡ true → reference < length cols

-- ---- laws
abbrev flip : Bool → Bool → Bool
flip b t = cond b (not t) t

bits : (a b : Bool) → bit_xor (bit a) (bit b) ≡ bit (flip b a)
bits true true = refl
bits true false = refl
bits false true = refl
bits false false = refl

xor_code : (m : ℕ) (f g : ℕ → Bool) → bit_xor (code m f) (code m g) ≡ code m (λ k. flip (g k) (f k))
unfolding code
xor_code zero f g = refl
xor_code (suc m) f g =
    rw (add_comm (code m f) (bit (f m) * 2 ^ m), add_comm (code m g) (bit (g m) * 2 ^ m))
    (xor_block m (bit (f m)) (bit (g m)) (code m f) (code m g) (code_lt m f) (code_lt m g)
    ∙ (ap (λ (x : ℕ). x * 2 ^ m + bit_xor (code m f) (code m g)) (bits (f m) (g m))
    ∙ (ap (λ (x : ℕ). bit (flip (g m) (f m)) * 2 ^ m + x) (xor_code m f g) ∙ add_comm _ (code m (λ k. flip (g k) (f k))))))

product : (z x : ℤ) → Spin z → Spin x → flip (is_up (neg_ℤ z)) (is_up x) ≡ is_up (z *ℤ x)
product z x (inl p) (inl q) = rw (p, q)
product z x (inl p) (inr q) = rw (p, q)
product z x (inr p) (inl q) = rw (p, q)
product z x (inr p) (inr q) = rw (p, q)

-- with the pattern P at the reference site
pub gauge_column :
    (mode : Mode) (m : ℕ) (P f : Pattern)
    → (is_gperm mode ≡ true → (k : ℕ) → k < m → Spin (P k)) → ((k : ℕ) → k < m → Spin (f k))
    → bit_xor (column_of m f) (gauge_of mode m (column_of m P)) ≡ column_of m (gauge mode P f)
gauge_column Houd m P f sp sf = xor_zero_r (column_of m f)
gauge_column Pair m P f sp sf = xor_zero_r (column_of m f)
gauge_column Perm m P f sp sf = xor_zero_r (column_of m f)
gauge_column Gperm m P f sp sf =
    xor_code m (λ k. is_up (f k)) (λ k. is_up (neg_ℤ (shown (column_of m P) k)))
    ∙ code_ext m _ _
    (λ k h. ap (λ (z : ℤ). flip (is_up (neg_ℤ z)) (is_up (f k))) (shown_column m P k h (sp refl k h)) ∙ product (P k) (f k) (sp refl k h) (sf k h))
gauge_column Jorg m P f sp sf = xor_zero_r (column_of m f)
gauge_column Cmr m P f sp sf = xor_zero_r (column_of m f)

-- the byte made of the columns of a panel is that of the reference site's pattern
pub gauge_is :
    (mode : Mode) (m n q : ℕ) (f : ℕ → Pattern) {cols : List ℕ} → Columns n m f cols → (is_gperm mode ≡ true → q < n)
    → gauge_of mode m (get_or cols q 0) ≡ gauge_of mode m (column_of m (f q))
gauge_is mode m n q f {cols} c below = go (is_gperm mode) below
  where
    go :
        (b : Bool) → (b ≡ true → q < n)
        → cond b (column_of m (λ k. neg_ℤ (shown (get_or cols q 0) k))) 0 ≡ cond b (column_of m (λ k. neg_ℤ (shown (column_of m (f q)) k))) 0
    go true h = rw (c.at q (h refl)) refl
    go false h = refl

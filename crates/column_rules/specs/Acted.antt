-- What a component's choice makes of a column is the column of what it makes of the pattern.
use Rattle.std.specs.Prelude.{ℕ, ◌*◌, ◌/◌, ◌^◌, ◌<◌, ◌≡◌, refl, Bool, true, false, cond, ◌&&◌, List, ltb, ℤ, neg_ℤ, ◌*ℤ◌}
use Rattle.std.proofs.Common.{sym, ◌∙◌, ap, inl, inr}
use Rattle.std.specs.Int.Bits.{bit_xor}
use Rattle.lemmas.specs.Bools.{never}
use Rattle.paper.specs.declared.Mode.{Mode}
use Rattle.paper.specs.declared.Mode.TheVariants.{Houd, Pair, Perm, Gperm, Jorg, Cmr}
use Rattle.paper.specs.declared.Form.{Form}
use Rattle.paper.specs.Panel.Input.{Call, Choices, Pattern, size}
use Rattle.paper.specs.Panel.Takes.{is_perm, is_gperm, is_cmr}
use Rattle.paper.specs.Site.Acting.{gauge}
use Rattle.paper.specs.Move.Moving.{partner, flip_by, perm_at, flip_some, act_by}
use Rattle.paper.specs.Refusal.Rules.{Spin, Permutes}
use Rattle.laws.specs.Patterns.{flip_spin, times_spin}
use Rattle.laws.specs.Partners.{partner_lt}
use Rattle.columns.specs.Column.{shown, column_of, shown_column, column_lt, column_ext, flipped}
use Rattle.columns.specs.Gauge.{gauge_of, permuted_by, gauge_column}
use Rattle.column_rules.specs.Laws.{gauge_spin}

-- what the choice of the component with the label r makes of a column of m members; g is the gauge
abbrev pub choice_column : Mode → Form → ℕ → ℕ → List ℕ → ℕ → ℕ → ℕ
choice_column Houd form m g choices r x = cond (flip_by form choices r) (column_of m (flipped Houd m (shown x))) x
choice_column Pair form m g choices r x = cond (flip_by form choices r) (column_of m (flipped Pair m (shown x))) x
choice_column Perm form m g choices r x = permuted_by m g (perm_at form m choices r) x
choice_column Gperm form m g choices r x = permuted_by m g (perm_at form m choices r) x
choice_column Jorg form m g choices r x = cond (flip_by form choices r) (column_of m (flipped Jorg m (shown x))) x
choice_column Cmr form m g choices r x = cond (flip_by form choices r) (column_of m (flipped Cmr m (shown x))) x

module _ (m : ℕ) (f : Pattern) (spin-f : (k : ℕ) → k < m → Spin (f k)) where
  shows : (k : ℕ) → k < m → shown (column_of m f) k ≡ f k
  shows k h = shown_column m f k h (spin-f k h)

  negated : (t : Bool) (k : ℕ) → k < m → cond t (neg_ℤ (shown (column_of m f) k)) (shown (column_of m f) k) ≡ cond t (neg_ℤ (f k)) (f k)
  negated t k h = ap (λ (z : ℤ). cond t (neg_ℤ z) z) (shows k h)

  swapped : (k : ℕ) → k < m → shown (column_of m f) (partner m k) ≡ f (partner m k)
  swapped k h = shows (partner m k) (partner_lt m k h)

  houd_column :
      (t : Bool)
      → cond t (column_of m (flipped Houd m (shown (column_of m f)))) (column_of m f) ≡ column_of m (flip_some (λ k. t && ltb k (2 * (m / 2))) f)
  houd_column true = column_ext m _ _ (λ k h. negated (ltb k (2 * (m / 2))) k h)
  houd_column false = refl

  pair_column :
      (t : Bool)
      → cond t (column_of m (λ k. shown (column_of m f) (partner m k))) (column_of m f) ≡ column_of m (λ k. f (cond t (partner m k) k))
  pair_column true = column_ext m _ _ swapped
  pair_column false = refl

  blue_column : (t : Bool) → cond t (column_of m (λ k. neg_ℤ (shown (column_of m f) k))) (column_of m f) ≡ column_of m (flip_some (λ k. t) f)
  blue_column true = column_ext m _ _ (λ k h. negated true k h)
  blue_column false = refl

  -- a permutation that is seen and written through the gauge
  perm_column :
      (mode : Mode) (P : Pattern) (p : ℕ → ℕ) → (is_gperm mode ≡ true → (k : ℕ) → k < m → Spin (P k)) → Permutes m p
      → permuted_by m (gauge_of mode m (column_of m P)) p (column_of m f) ≡ column_of m (gauge mode P (λ k. gauge mode P f (p k)))
  perm_column mode P p sp q =
      ap (λ (x : ℕ). bit_xor (column_of m (λ k. shown x (p k))) (gauge_of mode m (column_of m P))) (gauge_column mode m P f sp spin-f)
      ∙ (ap (λ (x : ℕ). bit_xor x (gauge_of mode m (column_of m P))) inner
      ∙ gauge_column mode m P (λ k. gauge mode P f (p k)) sp (λ k h. seen_spin (p k) (q.within k h)))
    where
      seen_spin : (k : ℕ) → k < m → Spin (gauge mode P f k)
      seen_spin k h = gauge_spin mode P f k (λ e. sp e k h) (spin-f k h)

      inner : column_of m (λ k. shown (column_of m (gauge mode P f)) (p k)) ≡ column_of m (λ k. gauge mode P f (p k))
      inner = column_ext m _ _ (λ k h. shown_column m (gauge mode P f) (p k) (q.within k h) (seen_spin (p k) (q.within k h)))

-- three signs in a row
regroup : (a b x : ℤ) → Spin a → Spin b → Spin x → a *ℤ (b *ℤ x) ≡ a *ℤ b *ℤ x
regroup a b x (inl p) (inl q) (inl r) = rw (p, q, r)
regroup a b x (inl p) (inl q) (inr r) = rw (p, q, r)
regroup a b x (inl p) (inr q) (inl r) = rw (p, q, r)
regroup a b x (inl p) (inr q) (inr r) = rw (p, q, r)
regroup a b x (inr p) (inl q) (inl r) = rw (p, q, r)
regroup a b x (inr p) (inl q) (inr r) = rw (p, q, r)
regroup a b x (inr p) (inr q) (inl r) = rw (p, q, r)
regroup a b x (inr p) (inr q) (inr r) = rw (p, q, r)

-- a choice's column is that of the moved pattern
pub acted :
    (m : Mode) (c : Call) (p : Choices) (r : ℕ) (P f : Pattern)
    → (is_gperm m ≡ true → (k : ℕ) → k < size c → Spin (P k))
    → ((k : ℕ) → k < size c → Spin (f k))
    → (is_perm m ≡ true → Permutes (size c) (perm_at c.form (size c) p.choices r))
    → choice_column m c.form (size c) (gauge_of m (size c) (column_of (size c) P)) p.choices r (column_of (size c) f)
    ≡ column_of (size c) (act_by m c p P r f)
acted Houd c p r P f sp sf q = houd_column (size c) f sf (flip_by c.form p.choices r)
acted Pair c p r P f sp sf q = pair_column (size c) f sf (flip_by c.form p.choices r)
acted Jorg c p r P f sp sf q = pair_column (size c) f sf (flip_by c.form p.choices r)
acted Cmr c p r P f sp sf q = blue_column (size c) f sf (flip_by c.form p.choices r)
acted Perm c p r P f sp sf q = perm_column (size c) f sf Perm P (perm_at c.form (size c) p.choices r) sp (q refl)
acted Gperm c p r P f sp sf q =
    perm_column (size c) f sf Gperm P (perm_at c.form (size c) p.choices r) sp (q refl)
    ∙ column_ext (size c) _ _ (λ k h. let z = (q refl).within k h in regroup (P k) _ _ (sp refl k h) (sp refl _ z) (sf _ z))

swapped_spin : (m : ℕ) (t : Bool) (f : Pattern) → ((k : ℕ) → k < m → Spin (f k)) → (k : ℕ) → k < m → Spin (f (cond t (partner m k) k))
swapped_spin m true f sf k h = sf (partner m k) (partner_lt m k h)
swapped_spin m false f sf k h = sf k h

-- a moved pattern of spins is one of spins, in every mode
pub acted_spin :
    (m : Mode) (c : Call) (p : Choices) (r : ℕ) (P f : Pattern)
    → (is_gperm m ≡ true → (k : ℕ) → k < size c → Spin (P k))
    → ((k : ℕ) → k < size c → Spin (f k))
    → (is_perm m ≡ true → Permutes (size c) (perm_at c.form (size c) p.choices r))
    → (k : ℕ) → k < size c → Spin (act_by m c p P r f k)
acted_spin Houd c p r P f sp sf q k h = flip_spin (flip_by c.form p.choices r && ltb k (2 * (size c / 2))) (f k) (sf k h)
acted_spin Pair c p r P f sp sf q k h = swapped_spin (size c) (flip_by c.form p.choices r) f sf k h
acted_spin Jorg c p r P f sp sf q k h = swapped_spin (size c) (flip_by c.form p.choices r) f sf k h
acted_spin Perm c p r P f sp sf q k h = sf _ ((q refl).within k h)
acted_spin Gperm c p r P f sp sf q k h = times_spin _ _ (times_spin _ _ (sp refl k h) (sp refl _ ((q refl).within k h))) (sf _ ((q refl).within k h))
acted_spin Cmr c p r P f sp sf q k h = flip_spin (flip_by c.form p.choices r) (f k) (sf k h)

-- ---- a flip, or a permutation, is the choice of the modes that take it
pub flip_choice :
    (mode : Mode) (form : Form) (m g : ℕ) (choices : List ℕ) (r x : ℕ) → is_perm mode ≡ false
    → cond (flip_by form choices r) (column_of m (flipped mode m (shown x))) x ≡ choice_column mode form m g choices r x
flip_choice Houd form m g choices r x e = refl
flip_choice Pair form m g choices r x e = refl
flip_choice Perm form m g choices r x e = never (sym e)
flip_choice Gperm form m g choices r x e = never (sym e)
flip_choice Jorg form m g choices r x e = refl
flip_choice Cmr form m g choices r x e = refl

pub perm_choice :
    (mode : Mode) (form : Form) (m g : ℕ) (choices : List ℕ) (r x : ℕ) → is_perm mode ≡ true
    → permuted_by m g (perm_at form m choices r) x ≡ choice_column mode form m g choices r x
perm_choice Houd form m g choices r x e = never e
perm_choice Pair form m g choices r x e = never e
perm_choice Perm form m g choices r x e = refl
perm_choice Gperm form m g choices r x e = refl
perm_choice Jorg form m g choices r x e = never e
perm_choice Cmr form m g choices r x e = never e

-- in CMR the first choice is a flip
pub cmr_narrow :
    (mode : Mode) (form : Form) (m g : ℕ) (choices : List ℕ) (r x : ℕ) → is_cmr mode ≡ true → x < 2 ^ m
    → choice_column mode form m g choices r x < 2 ^ m
cmr_narrow Houd form m g choices r x e h = never e
cmr_narrow Pair form m g choices r x e h = never e
cmr_narrow Perm form m g choices r x e h = never e
cmr_narrow Gperm form m g choices r x e h = never e
cmr_narrow Jorg form m g choices r x e h = never e
cmr_narrow Cmr form m g choices r x e h = go (flip_by form choices r)
  where
    go : (f : Bool) → cond f (column_of m (flipped Cmr m (shown x))) x < 2 ^ m
    go true = column_lt m (flipped Cmr m (shown x))
    go false = h

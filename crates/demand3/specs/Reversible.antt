-- What the modes of demand 3 share: each permutes the group's gauged patterns, and leaves those that do not act.
use Rattle.std.specs.Prelude.{ℕ, zero, suc, ◌*◌, ◌/◌, ◌<◌, ◌≡◌, refl, Bool, true, false, cond, ◌&&◌, List, ltb, ℤ, pos, neg_ℤ, ◌*ℤ◌}
use Rattle.std.proofs.Common.{sym, ◌∙◌, ap, arith}
use Rattle.lemmas.specs.Ints.{eq_z}
use Rattle.lemmas.specs.Sums.{sum}
use Rattle.paper.specs.declared.Mode.{Mode}
use Rattle.paper.specs.declared.Mode.TheVariants.{Houd, Pair, Perm, Gperm, Jorg, Cmr}
use Rattle.paper.specs.Panel.Input.{Call, Choices, Pattern, size}
use Rattle.paper.specs.Panel.Takes.{is_perm, is_gperm, is_cmr}
use Rattle.paper.specs.Site.Acting.{differs, pair_differs, gauge, acts_by}
use Rattle.paper.specs.Site.Bonds.{both_act, holds_by}
use Rattle.paper.specs.Move.Moving.{other, partner, chosen_by, act_by}
use Rattle.paper.specs.Refusal.Rules.{Spin, Permutes}
use Rattle.laws.specs.Patterns.{square, ungauge, gauge_cancel, flip_spin, times_spin, opposite, agree, differs_no, Spinning}
use Rattle.laws.specs.Partners.{partner_permutes, partner_same}
use Rattle.laws.specs.Entries.{flip_of, perm_of}
use Rattle.demand3.specs.Statement.{Reversible}

pub not_cmr : (m : Mode) (s : ℕ) → Reversible m s → is_cmr m ≡ false
not_cmr Houd s v = refl
not_cmr Pair s v = refl
not_cmr Perm s v = refl
not_cmr Gperm s v = refl
not_cmr Jorg s v = absurd v
not_cmr Cmr s v = absurd v

pub holds_both : (m : Mode) (s : ℕ) → Reversible m s → (c : Call) (xs : List ℤ) (i e : ℕ) → holds_by m c xs i e ≡ both_act c xs i e
holds_both Houd s v c xs i e = refl
holds_both Pair s v c xs i e = refl
holds_both Perm s v c xs i e = refl
holds_both Gperm s v c xs i e = refl
holds_both Jorg s v c xs i e = absurd v
holds_both Cmr s v c xs i e = absurd v

-- ---- the gauge is undone, and changes no product of end spins
pub gauge_back :
    (m : Mode) (P f g : Pattern) (k : ℕ)
    → (is_gperm m ≡ true → Spin (P k))
    → Spin (f k)
    → Spin (g k)
    → gauge m P f k ≡ gauge m P g k
    → f k ≡ g k
gauge_back Houd P f g k sp sf sg e = e
gauge_back Pair P f g k sp sf sg e = e
gauge_back Perm P f g k sp sf sg e = e
gauge_back Gperm P f g k sp sf sg e = sym (ungauge (P k) (f k) (sp refl) sf) ∙ (ap (λ (x : ℤ). P k *ℤ x) e ∙ ungauge (P k) (g k) (sp refl) sg)
gauge_back Jorg P f g k sp sf sg e = e
gauge_back Cmr P f g k sp sf sg e = e

pub gauge_product :
    (m : Mode) (P f g : Pattern) (k : ℕ)
    → (is_gperm m ≡ true → Spin (P k))
    → Spin (f k)
    → Spin (g k)
    → gauge m P f k *ℤ gauge m P g k ≡ f k *ℤ g k
gauge_product Houd P f g k sp sf sg = refl
gauge_product Pair P f g k sp sf sg = refl
gauge_product Perm P f g k sp sf sg = refl
gauge_product Gperm P f g k sp sf sg = square (P k) (f k) (g k) (sp refl) sf sg
gauge_product Jorg P f g k sp sf sg = refl
gauge_product Cmr P f g k sp sf sg = refl

-- a choice is a permutation of the places
flip_permutes : (s : ℕ) (t : Bool) → Permutes s (λ k. cond t (partner s k) k)
flip_permutes s true = partner_permutes s
flip_permutes s false = record { within = λ k l. l; distinct = λ a b _ _ e. e }

pub chosen_permutes :
    (m : Mode) (c : Call) (p : Choices) (r : ℕ)
    → Reversible m (size c)
    → (is_perm m ≡ true → Permutes (size c) (perm_of c p r))
    → Permutes (size c) (chosen_by m c p r)
chosen_permutes Houd c p r v h = flip_permutes (size c) (flip_of c p r)
chosen_permutes Pair c p r v h = flip_permutes (size c) (flip_of c p r)
chosen_permutes Perm c p r v h = h refl
chosen_permutes Gperm c p r v h = h refl
chosen_permutes Jorg c p r v h = absurd v
chosen_permutes Cmr c p r v h = absurd v

-- ---- what a choice makes of the gauged pattern: place k gets what place `chosen k` had
abbrev negated : ℕ → Bool → Pattern → Pattern
negated m t f k = cond (t && ltb k (2 * (m / 2))) (neg_ℤ (f k)) (f k)

abbrev exchanged : ℕ → Bool → Pattern → Pattern
exchanged m t f k = f (cond t (partner m k) k)

houd_two : (t : Bool) (f : Pattern) → Spinning 2 f → eq_z (sum 2 f) (pos 0) ≡ true → (k : ℕ) → k < 2 → negated 2 t f k ≡ exchanged 2 t f k
unfolding sum other
houd_two false f s e k h = refl
houd_two true f s e zero h = (opposite (f 0) (f 1) (s 0 (omega arith)) (s 1 (omega arith)) e).0
houd_two true f s e (suc zero) h = (opposite (f 0) (f 1) (s 0 (omega arith)) (s 1 (omega arith)) e).1
houd_two true f s e (suc (suc k)) h = absurd (omega arith)

houd_act :
    (m : ℕ)
    → m ≡ 2
    → (t : Bool) (f : Pattern)
    → Spinning m f
    → eq_z (sum m f) (pos 0) ≡ true
    → (k : ℕ)
    → k < m
    → negated m t f k ≡ exchanged m t f k
houd_act m q t f = rw q (houd_two t f)

pub act_gauged :
    (m : Mode) (c : Call) (p : Choices) (r : ℕ) (P f : Pattern)
    → Reversible m (size c)
    → Permutes (size c) (chosen_by m c p r)
    → (is_gperm m ≡ true → Spinning (size c) P)
    → Spinning (size c) f
    → acts_by m (size c) P f ≡ true
    → (k : ℕ)
    → k < size c
    → gauge m P (act_by m c p P r f) k ≡ gauge m P f (chosen_by m c p r k)
act_gauged Houd c p r P f v h sp sf a k l = houd_act (size c) v (flip_of c p r) f sf a k l
act_gauged Pair c p r P f v h sp sf a k l = refl
act_gauged Perm c p r P f v h sp sf a k l = refl
act_gauged Gperm c p r P f v h sp sf a k l =
    gauge_cancel (P k) (P (perm_of c p r k)) (f (perm_of c p r k)) (sp refl k l) (sp refl _ (h.within k l)) (sf _ (h.within k l))
act_gauged Jorg c p r P f v h sp sf a k l = absurd v
act_gauged Cmr c p r P f v h sp sf a k l = absurd v

-- a moved pattern of spins is one of spins
pub act_spin :
    (m : Mode) (c : Call) (p : Choices) (r : ℕ) (P f : Pattern)
    → Reversible m (size c)
    → Permutes (size c) (chosen_by m c p r)
    → (is_gperm m ≡ true → Spinning (size c) P)
    → Spinning (size c) f
    → Spinning (size c) (act_by m c p P r f)
act_spin Houd c p r P f v h sp sf k l = flip_spin (flip_of c p r && ltb k (2 * (size c / 2))) (f k) (sf k l)
act_spin Pair c p r P f v h sp sf k l = sf _ (h.within k l)
act_spin Perm c p r P f v h sp sf k l = sf _ (h.within k l)
act_spin Gperm c p r P f v h sp sf k l = times_spin _ _ (times_spin _ _ (sp refl k l) (sp refl _ (h.within k l))) (sf _ (h.within k l))
act_spin Jorg c p r P f v h sp sf k l = absurd v
act_spin Cmr c p r P f v h sp sf k l = absurd v

-- ---- no choice changes a pattern that does not act
all_same : (m : ℕ) (f : Pattern) (q : ℕ → ℕ) → Permutes m q → differs m f ≡ false → (k : ℕ) → k < m → f (q k) ≡ f k
all_same m f q h e k l = differs_no m f e (q k) (h.within k l) ∙ sym (differs_no m f e k l)

flip_same : (m : ℕ) (t : Bool) (f : Pattern) → pair_differs (m / 2) f ≡ false → (k : ℕ) → exchanged m t f k ≡ f k
flip_same m true f e k = partner_same m f e k
flip_same m false f e k = refl

two_same : (t : Bool) (f : Pattern) → Spinning 2 f → eq_z (sum 2 f) (pos 0) ≡ false → (k : ℕ) → k < 2 → exchanged 2 t f k ≡ f k
unfolding sum other
two_same false f s e k h = refl
two_same true f s e zero h = sym (agree (f 0) (f 1) (s 0 (omega arith)) (s 1 (omega arith)) e)
two_same true f s e (suc zero) h = agree (f 0) (f 1) (s 0 (omega arith)) (s 1 (omega arith)) e
two_same true f s e (suc (suc k)) h = absurd (omega arith)

houd_same :
    (m : ℕ)
    → m ≡ 2
    → (t : Bool) (f : Pattern)
    → Spinning m f
    → eq_z (sum m f) (pos 0) ≡ false
    → (k : ℕ)
    → k < m
    → exchanged m t f k ≡ f k
houd_same m q t f = rw q (two_same t f)

pub still :
    (m : Mode) (c : Call) (p : Choices) (r : ℕ) (P f : Pattern)
    → Reversible m (size c)
    → Permutes (size c) (chosen_by m c p r)
    → Spinning (size c) f
    → acts_by m (size c) P f ≡ false
    → (k : ℕ)
    → k < size c
    → gauge m P f (chosen_by m c p r k) ≡ gauge m P f k
still Houd c p r P f v h sf a k l = houd_same (size c) v (flip_of c p r) f sf a k l
still Pair c p r P f v h sf a k l = flip_same (size c) (flip_of c p r) f a k
still Perm c p r P f v h sf a k l = all_same (size c) f (perm_of c p r) h a k l
still Gperm c p r P f v h sf a k l = all_same (size c) (λ k. P k *ℤ f k) (perm_of c p r) h a k l
still Jorg c p r P f v h sf a k l = absurd v
still Cmr c p r P f v h sf a k l = absurd v

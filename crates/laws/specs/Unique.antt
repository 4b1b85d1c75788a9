-- Labels, members, counts, sizes and moved spins are each determined.
use Rattle.std.specs.Prelude.{ℕ, zero, suc, ◌+◌, ◌/◌, ◌%◌, ◌≤◌, ◌<◌, ◌≡◌, refl, ◌⊎◌, ◌↔◌, Bool, true, false, ◌&&◌, List, eqb, leb, length, get_or, ℤ, pos}
use Rattle.std.proofs.Common.{sym, ◌∙◌, ap, inl, inr, le_antisymm, lt_of_not-le, div-add-mod', mod-lt, add-one-le, arith, leb-true, le-leb, ext_get_or}
use Rattle.std.proofs.Math.Decide.{dec_le}
use Rattle.lemmas.specs.Counts.{count_where, count_ext, count_le}
use Rattle.lemmas.specs.Places.{Placed, Unplaced, place}
use Rattle.paper.specs.Component.Links.{Linked.stay, Linked.along, Within, bind}
use Rattle.paper.specs.Panel.Input.{Graph, Call, Choices, Pattern, spin, pattern, size, system}
use Rattle.paper.specs.Component.Labels.{Joined, Labels, Numbered, Bond}
use Rattle.paper.specs.Component.Members.{Members}
use Rattle.paper.specs.Component.Sizes.{label_of, is_first, counted, size_of, at_least, Counted, Rank, Largest}
use Rattle.paper.specs.Move.Moving.{Moves}
use Rattle.laws.specs.Numbering.{FirstOf, first_of, first_only, first_when, first_label, found_firsts, found_le}

-- ---- labels
module _ (t : Graph) (holding : ℕ → ℕ → Bool) where
  -- two sites have one label just if they are joined
  pub same_label : {found : ℕ} (l : List ℕ) → Labels t holding l found → (i j : ℕ) → i < t.n → j < t.n
      → (get_or l i 0 ≡ get_or l j 0) ↔ Joined t holding i j
  same_label l h i j il jl = (h.joined i j il jl, h.same i j il jl)

  pub label_lt : {found : ℕ} (l : List ℕ) → Labels t holding l found → (i : ℕ) → i < t.n → get_or l i 0 < t.n
  label_lt l h i il = omega (arith, h.below i il, found_le h)

  module _ {f g : ℕ} (l m : List ℕ) (hl : Labels t holding l f) (hm : Labels t holding m g) where
    -- a site that is first with its label in one is first in the other
    firsts_same : (i : ℕ) → i < t.n → is_first l i ≡ is_first m i
    firsts_same i il = both (is_first l i) (is_first m i) refl refl
      where
        over : {a b : ℕ} (x y : List ℕ) → Labels t holding x a → Labels t holding y b → is_first x i ≡ true → is_first y i ≡ true
        over x y hx hy e =
            first_when y i (λ j jl q. first_only x i j e jl (hx.same j i (omega arith) il (hy.joined j i (omega arith) il q)))

        both : (a b : Bool) → is_first l i ≡ a → is_first m i ≡ b → a ≡ b
        both true b p q = sym (over l m hl hm p) ∙ q
        both false true p q = sym p ∙ over m l hm hl q
        both false false p q = refl

    count_same : (i : ℕ) → i ≤ t.n → count_where (is_first l) i ≡ count_where (is_first m) i
    count_same i il = count_ext (is_first l) (is_first m) i (λ j jl. firsts_same j (omega arith))

    pub labels_unique : l ≡ m
    labels_unique = ext_get_or 0 l m (hl.long ∙ sym hm.long) (λ i il. at i (rw hl.long at il))
      where
        at : (i : ℕ) → i < t.n → get_or l i 0 ≡ get_or m i 0
        at i il =
            sym r.same
            ∙ (first_label hl r.at low r.is
            ∙ (count_same r.at (omega (arith, low))
            ∙ (sym (first_label hm r.at low (sym (firsts_same r.at low) ∙ r.is))
            ∙ hm.same r.at i low il (hl.joined r.at i low il r.same))))
          where
            r : FirstOf l i
            r = first_of l i

            low : r.at < t.n
            low = omega (arith, r.low)

    pub found_unique : f ≡ g
    found_unique = found_firsts hl ∙ (count_same t.n (omega arith) ∙ sym (found_firsts hm))

  -- with how many there are, as a list of one number
  pub numbered_unique : (l m f g : List ℕ) → Numbered t holding l f → Numbered t holding m g → (l ≡ m) × (f ≡ g)
  numbered_unique l m f g hl hm = (
    labels_unique l m hl.labels hm.labels,
    ext_get_or 0 f g (hl.one ∙ sym hm.one) (λ i il. let e : i ≡ 0 = omega (arith, hl.one) in rw e (found_unique l m hl.labels hm.labels)),
  )

-- ---- members
-- two bytes that are 1 together
pub one_byte : (x y : ℕ) → x ≤ 1 → y ≤ 1 → (x ≡ 1 → y ≡ 1) → (y ≡ 1 → x ≡ 1) → x ≡ y
one_byte zero zero a b f g = refl
one_byte zero (suc zero) a b f g = g refl
one_byte zero (suc (suc y)) a b f g = absurd (omega arith)
one_byte (suc zero) zero a b f g = sym (f refl)
one_byte (suc zero) (suc zero) a b f g = refl
one_byte (suc zero) (suc (suc y)) a b f g = absurd (omega arith)
one_byte (suc (suc x)) y a b f g = absurd (omega arith)

pub members_unique : (t : Graph) (holding : ℕ → ℕ → Bool) (seed : ℕ) (l m : List ℕ) → Members t holding seed l → Members t holding seed m → l ≡ m
members_unique t holding seed l m a b = ext_get_or 0 l m (a.long ∙ sym b.long) (λ i h. at i (rw a.long at h))
  where
    at : (i : ℕ) → i < t.n → get_or l i 0 ≡ get_or m i 0
    at i h =
        one_byte (get_or l i 0) (get_or m i 0) (a.byte i h) (b.byte i h)
        (λ e. b.marked i h (a.joined i h e))
        (λ e. a.marked i h (b.joined i h e))

-- ---- counts and sizes
pub counts_unique : {mark : ℕ → Bool} (l c₁ c₂ : List ℕ) → Counted mark l c₁ → Counted mark l c₂ → c₁ ≡ c₂
counts_unique l c₁ c₂ h₁ h₂ =
    ext_get_or 0 c₁ c₂ (h₁.long ∙ sym h₂.long)
    (λ i il. let k : i ≤ length l = omega (arith, h₁.long) in h₁.each i k ∙ sym (h₂.each i k))

falls : (mark : ℕ → Bool) (l : List ℕ) (v w : ℕ) → v ≤ w → at_least mark l w ≤ at_least mark l v
falls mark l v w h =
    count_le (λ i. counted mark l i && leb w (size_of l (label_of l i))) (λ i. counted mark l i && leb v (size_of l (label_of l i))) (length l)
    (λ i. weaken (counted mark l i) (size_of l (label_of l i)))
  where
    weaken : (b : Bool) (s : ℕ) → (b && leb w s) ≡ true → (b && leb v s) ≡ true
    weaken true s e = le-leb v s (omega (arith, leb-true w s e))
    weaken false s e = e

rank_le : (mark : ℕ → Bool) (l : List ℕ) (t a b : ℕ) → Rank mark l t a → Rank mark l t b → a ≤ b
rank_le mark l t a b ra rb = go ra.reached
  where
    go : (a ≡ 0) ⊎ (t < at_least mark l a) → a ≤ b
    go (inl e) = omega arith
    go (inr k) = at (dec_le a b)
      where
        at : Dec (a ≤ b) → a ≤ b
        at (yes h) = h
        at (no h) = omega (arith, lt_of_not-le h, falls mark l (b + 1) a (add-one-le (lt_of_not-le h)), rb.larger)

pub sizes_unique : {mark : ℕ → Bool} (l s₁ s₂ : List ℕ) → Largest mark l s₁ → Largest mark l s₂ → s₁ ≡ s₂
sizes_unique {mark} l s₁ s₂ h₁ h₂ = ext_get_or 0 s₁ s₂ (h₁.long ∙ sym h₂.long) (λ t tl. same t (omega (arith, h₁.long)))
  where
    same : (t : ℕ) → t < 4 → get_or s₁ t 0 ≡ get_or s₂ t 0
    same t k = le_antisymm (rank_le mark l t _ _ (h₁.each t k) (h₂.each t k)) (rank_le mark l t _ _ (h₂.each t k) (h₁.each t k))

-- counts and sizes depend on the marks of the sites alone
module _ {f g : ℕ → Bool} (l : List ℕ) (same : (r : ℕ) → r < length l → f r ≡ g r) where
  passing : (test : ℕ → Bool) → count_where (λ i. counted f l i && test (size_of l (label_of l i))) (length l)
      ≡ count_where (λ i. counted g l i && test (size_of l (label_of l i))) (length l)
  passing test =
      count_ext (λ i. counted f l i && test (size_of l (label_of l i))) (λ i. counted g l i && test (size_of l (label_of l i))) (length l)
      (λ i il. ap (λ (b : Bool). (is_first l i && b) && test (size_of l (label_of l i))) (same i il))

  pub counts_ext : {counts : List ℕ} → Counted f l counts → Counted g l counts
  counts_ext h = record { long = h.long; zeroth = h.zeroth; each = λ s sl. h.each s sl ∙ passing (λ x. eqb x s) }

  rank : (t a : ℕ) → Rank f l t a → Rank g l t a
  rank t a w = record { larger = rw (← passing (leb (a + 1))) w.larger; reached = go w.reached }
    where
      go : (a ≡ 0) ⊎ (t < at_least f l a) → (a ≡ 0) ⊎ (t < at_least g l a)
      go (inl e) = inl e
      go (inr k) = inr (rw (← passing (leb a)) k)

  pub sizes_ext : {sizes : List ℕ} → Largest f l sizes → Largest g l sizes
  sizes_ext h = record { long = h.long; each = λ t tl. rank t _ (h.each t tl) }

-- ---- spins: a number is f of some place below m, or of none
-- the system t is not in the group
abbrev pub Outside : Call → ℕ → Type 0
Outside c t = Unplaced (size c) (system c) t

-- ys has the group's patterns `new`; ys has the other systems' spins of xs
abbrev pub GroupIs : Call → List ℤ → (ℕ → Pattern) → Type 0
GroupIs c ys new = (i k : ℕ) → i < c.lattice.n → k < size c → pattern c ys i k ≡ new i k

abbrev pub OthersOf : Call → List ℤ → List ℤ → Type 0
OthersOf c xs ys = (i t : ℕ) → i < c.lattice.n → Outside c t → spin c.lattice.n ys t i ≡ spin c.lattice.n xs t i

-- two lists of spins are equal if their systems' spins are, of the group and of the others
pub spins_equal : (c : Call) (ys zs : List ℤ) → 0 < c.lattice.n → length ys ≡ length zs → GroupIs c ys (pattern c zs) → OthersOf c zs ys → ys ≡ zs
spins_equal c ys zs pos-n len group others = ext_get_or (pos 0) ys zs len (λ x _. rw (← div-add-mod' x n) (cell (x / n) (x % n) (mod-lt x pos-n)))
  where
    n : ℕ
    n = c.lattice.n

    at : (t i : ℕ) → i < c.lattice.n → Placed (size c) (system c) t ⊎ Outside c t → spin c.lattice.n ys t i ≡ spin c.lattice.n zs t i
    at t i h (inl r) = rw r.2 (group i r.0 h r.1)
    at t i h (inr r) = others i t h r

    cell : (t i : ℕ) → i < c.lattice.n → spin c.lattice.n ys t i ≡ spin c.lattice.n zs t i
    cell t i h = at t i h (place (size c) (system c) t)

pub moves_unique :
    (c : Call) (p : Choices) (xs : List ℤ) (l g : List ℕ) (ys zs : List ℤ)
    → 0 < c.lattice.n
    → Moves c p xs l g ys
    → Moves c p xs l g zs
    → ys ≡ zs
moves_unique c p xs l g ys zs pos-n a b =
    spins_equal c ys zs pos-n (a.long ∙ sym b.long)
    (λ i k h q. a.group i k h q ∙ sym (b.group i k h q))
    (λ i t h q. a.others i t h q ∙ sym (b.others i t h q))

-- labels and members depend on which bonds hold alone
abbrev pub HoldAlike : Graph → (ℕ → ℕ → Bool) → (ℕ → ℕ → Bool) → Type 0
HoldAlike t g h = (i e : ℕ) → i < t.n → e < t.d → g i e ≡ h i e

carry : (t : Graph) (g h : ℕ → ℕ → Bool) → HoldAlike t g h → Within (Bond t g) (Bond t h)
carry t g h q a b e = along (record { site = e.site; dir = e.dir; dir_lt = e.dir_lt; on = on; leads = e.leads }) stay
  where
    on : h a e.dir ≡ true
    on = sym (q a e.dir e.site e.dir_lt) ∙ e.on

pub joined_ext : (t : Graph) (h₁ h₂ : ℕ → ℕ → Bool) {i j : ℕ} → HoldAlike t h₁ h₂ → Joined t h₁ i j → Joined t h₂ i j
joined_ext t h₁ h₂ same q = bind (carry t h₁ h₂ same) q

module _ (t : Graph) (h₁ h₂ : ℕ → ℕ → Bool) where
  pub labels_ext : {found : ℕ} (l : List ℕ) → HoldAlike t h₁ h₂ → Labels t h₁ l found → Labels t h₂ l found
  labels_ext l same w = record {
    long = w.long;
    joined = λ i j hi hj e. bind (carry t h₁ h₂ same) (w.joined i j hi hj e);
    same = λ i j hi hj q. w.same i j hi hj (bind (carry t h₂ h₁ (λ i e hi he. sym (same i e hi he))) q);
    below = w.below;
    used = w.used;
    rising = w.rising;
  }

  pub numbered_ext : (l found : List ℕ) → HoldAlike t h₁ h₂ → Numbered t h₁ l found → Numbered t h₂ l found
  numbered_ext l found same w = record { labels = labels_ext l same w.labels; one = w.one }

pub members_ext :
    (t : Graph) (h₁ h₂ : ℕ → ℕ → Bool) (seed : ℕ) (l : List ℕ)
    → HoldAlike t h₁ h₂
    → Members t h₁ seed l
    → Members t h₂ seed l
members_ext t h₁ h₂ seed l same w = record {
  long = w.long;
  byte = w.byte;
  joined = λ i hi e. bind (carry t h₁ h₂ same) (w.joined i hi e);
  marked = λ i hi q. w.marked i hi (bind (carry t h₂ h₁ (λ i e hi he. sym (same i e hi he))) q);
}

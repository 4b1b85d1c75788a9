-- The list of the marked sites: a site found is marked and goes to its end, and two of its entries may change places. Nothing here knows of bonds.
use Rattle.std.specs.Prelude.{ℕ, zero, suc, ◌+◌, ◌≤◌, ◌<◌, ◌≡◌, refl, Bool, true, false, cond, List, eqb, length, get_or, set}
use Rattle.std.proofs.Common.{sym, ap, ◌∙◌, arith, eq-eqb, ne_eqb, length-set}
use Rattle.std.proofs.Math.Decide.{ℕ_discrete}
use Rattle.lemmas.specs.Counts.{bit, count_where, count_most, count_zero, count_ext}
use Rattle.lemmas.specs.Places.{Placed}
use Rattle.lemmas.specs.Stores.{AfterSet, AfterSet.here, AfterSet.there, after_set, lt_of_ne, Cleared, cleared_all}
use Rattle.paper.specs.Refusal.Rules.{Distinct}

abbrev pub is_in : List ℕ → ℕ → Bool
is_in members i = eqb (get_or members i 0) 1

abbrev pub site_at : List ℕ → ℕ → ℕ
site_at list k = get_or list k 0

-- the first len of the list are the sites whose byte is 1, each once, and there is room for every site
pub record Listed (members list : List ℕ) (len : ℕ) : Type 0 where
  pub room : length members ≤ length list
  pub number : count_where (is_in members) (length members) ≡ len
  pub each : (k : ℕ) → k < len → get_or members (site_at list k) 0 ≡ 1
  pub all : (i : ℕ) → get_or members i 0 ≡ 1 → Placed len (site_at list) i
  pub apart : Distinct len (site_at list)

-- ---- a count after one more passes
count_more :
    (f g : ℕ → Bool) (m i : ℕ) → i < m → f i ≡ false → g i ≡ true → ((k : ℕ) → (k ≡ i → ⊥) → g k ≡ f k)
    → count_where g m ≡ count_where f m + 1
unfolding count_where
count_more f g zero i l off on same = absurd (omega arith)
count_more f g (suc m) i l off on same = at (ℕ_discrete i m) (λ (k : i < m). count_more f g m i k off on same)
  where
    at : Dec (i ≡ m) → (i < m → count_where g m ≡ count_where f m + 1) → count_where g m + bit (g m) ≡ count_where f m + bit (f m) + 1
    at (yes q) ih =
        let n : f m ≡ false = rw (← q) off in
        let y : g m ≡ true = rw (← q) on in
        rw (n, y) (omega (arith, count_ext g f m (λ k kl. same k (λ e. omega (arith, e, q)))))
    at (no q) ih = rw (same m (λ e. q (sym e))) (omega (arith, ih (omega arith)))

-- ---- one site more
module _ {members list : List ℕ} {len : ℕ} (h : Listed members list len) {i : ℕ} (il : i < length members) (new : get_or members i 0 ≡ 1 → ⊥) where
  pub still : (j : ℕ) → get_or members j 0 ≡ 1 → get_or (set members i 1) j 0 ≡ 1
  still j e = go (after_set members i 1 j il)
    where
      go : AfterSet members i 1 j → get_or (set members i 1) j 0 ≡ 1
      go (here q g) = g
      go (there q g) = g ∙ e

  pub now_marked : get_or (set members i 1) i 0 ≡ 1
  now_marked = go (after_set members i 1 i il)
    where
      go : AfterSet members i 1 i → get_or (set members i 1) i 0 ≡ 1
      go (here q g) = g
      go (there q g) = absurd (q refl)

  counted : count_where (is_in (set members i 1)) (length (set members i 1)) ≡ len + 1
  counted =
      rw (length-set members i 1)
      (count_more (is_in members) (is_in (set members i 1)) (length members) i il (ne_eqb _ _ new) (eq-eqb _ _ now_marked) same
      ∙ ap (λ (x : ℕ). x + 1) h.number)
    where
      same : (k : ℕ) → (k ≡ i → ⊥) → is_in (set members i 1) k ≡ is_in members k
      same k ne = go (after_set members i 1 k il)
        where
          go : AfterSet members i 1 k → is_in (set members i 1) k ≡ is_in members k
          go (here q g) = absurd (ne q)
          go (there q g) = rw g

  -- so the list has room
  pub fits : len < length list
  fits = omega (arith, counted, count_most (is_in (set members i 1)) (length (set members i 1)), length-set members i 1, h.room)

  pub before : (k : ℕ) → k < len → get_or (set list len i) k 0 ≡ get_or list k 0
  before k l = go (after_set list len i k fits)
    where
      go : AfterSet list len i k → get_or (set list len i) k 0 ≡ get_or list k 0
      go (here q g) = absurd (omega arith)
      go (there q g) = g

  last : get_or (set list len i) len 0 ≡ i
  last = go (after_set list len i len fits)
    where
      go : AfterSet list len i len → get_or (set list len i) len 0 ≡ i
      go (here q g) = g
      go (there q g) = absurd (q refl)

  -- what was listed is another site
  other : (k : ℕ) → k < len → site_at (set list len i) k ≡ i → ⊥
  other k l e = new (rw (sym (before k l) ∙ e) at (h.each k l))

  pub one_more : Listed (set members i 1) (set list len i) (len + 1)
  one_more = record {
    room = simp length-set h.room;
    number = counted;
    each = λ k l. each k l (ℕ_discrete k len);
    all = λ j e. all j e (after_set members i 1 j il);
    apart = λ a b al bl e. apart a b al bl (ℕ_discrete a len) (ℕ_discrete b len) e;
  }
    where
      each : (k : ℕ) → k < len + 1 → Dec (k ≡ len) → get_or (set members i 1) (site_at (set list len i) k) 0 ≡ 1
      each k l (yes q) = rw (q, last) now_marked
      each k l (no q) = rw (before k (lt_of_ne l q)) (still (site_at list k) (h.each k (lt_of_ne l q)))

      was : (j : ℕ) → get_or members j 0 ≡ 1 → Placed (len + 1) (site_at (set list len i)) j
      was j e = let p = h.all j e in (p.0, omega (arith, p.1), p.2 ∙ sym (before p.0 p.1))

      all : (j : ℕ) → get_or (set members i 1) j 0 ≡ 1 → AfterSet members i 1 j → Placed (len + 1) (site_at (set list len i)) j
      all j e (here q g) = (len, omega arith, q ∙ sym last)
      all j e (there q g) = was j (sym g ∙ e)

      apart :
          (a b : ℕ) → a < len + 1 → b < len + 1 → Dec (a ≡ len) → Dec (b ≡ len) → site_at (set list len i) a ≡ site_at (set list len i) b
          → a ≡ b
      apart a b al bl (yes p) (yes q) e = p ∙ sym q
      apart a b al bl (yes p) (no q) e = absurd (other b (lt_of_ne bl q) (sym e ∙ (ap (site_at (set list len i)) p ∙ last)))
      apart a b al bl (no p) (yes q) e = absurd (other a (lt_of_ne al p) (e ∙ (ap (site_at (set list len i)) q ∙ last)))
      apart a b al bl (no p) (no q) e =
          h.apart a b (lt_of_ne al p) (lt_of_ne bl q) (sym (before a (lt_of_ne al p)) ∙ (e ∙ before b (lt_of_ne bl q)))

-- ---- none yet, and so no place is read
pub listed_none : {n : ℕ} {members : List ℕ} (list : List ℕ) → Cleared n members → n ≤ length list → Listed members list 0
listed_none {n} {members} list h r = record {
  room = omega (arith, h.long);
  number = count_zero (is_in members) (length members) (λ i l. rw (cleared_all h i));
  each = λ k l. absurd (omega arith);
  all = λ i e. absurd (omega (arith, cleared_all h i));
  apart = λ a b al bl e. absurd (omega arith);
}

-- ---- what stands behind them does not matter
pub listed_same :
    {members list list' : List ℕ} {len : ℕ} → length members ≤ length list' → ((k : ℕ) → k < len → site_at list' k ≡ site_at list k)
    → Listed members list len → Listed members list' len
listed_same room same h = record {
  room = room;
  number = h.number;
  each = λ k l. rw (same k l) (h.each k l);
  all = λ i e. let p = h.all i e in (p.0, p.1, p.2 ∙ sym (same p.0 p.1));
  apart = λ a b al bl e. h.apart a b al bl (sym (same a al) ∙ (e ∙ same b bl));
}

-- ---- the places a and b, exchanged
abbrev pub swap : ℕ → ℕ → ℕ → ℕ
swap a b k = cond (eqb k a) b (cond (eqb k b) a k)

module _ (a b : ℕ) where
  pub swap_a : (k : ℕ) → k ≡ a → swap a b k ≡ b
  swap_a k e = rw (eq-eqb k a e)

  swap_b : (k : ℕ) → k ≡ b → swap a b k ≡ a
  swap_b k e = go (ℕ_discrete k a)
    where
      go : Dec (k ≡ a) → swap a b k ≡ a
      go (yes q) = swap_a k q ∙ (sym e ∙ q)
      go (no q) = rw (ne_eqb k a q, eq-eqb k b e)

  swap_no : (k : ℕ) → (k ≡ a → ⊥) → (k ≡ b → ⊥) → swap a b k ≡ k
  swap_no k p q = rw (ne_eqb k a p, ne_eqb k b q)

  swap_twice : (k : ℕ) → swap a b (swap a b k) ≡ k
  swap_twice k = go (ℕ_discrete k a) (ℕ_discrete k b)
    where
      go : Dec (k ≡ a) → Dec (k ≡ b) → swap a b (swap a b k) ≡ k
      go (yes p) q = swap_b (swap a b k) (swap_a k p) ∙ sym p
      go (no p) (yes q) = swap_a (swap a b k) (swap_b k q) ∙ sym q
      go (no p) (no q) = ap (swap a b) (swap_no k p q) ∙ swap_no k p q

  swap_lt : (m k : ℕ) → a < m → b < m → k < m → swap a b k < m
  swap_lt m k al bl kl = go (ℕ_discrete k a) (ℕ_discrete k b)
    where
      go : Dec (k ≡ a) → Dec (k ≡ b) → swap a b k < m
      go (yes p) q = rw (swap_a k p) bl
      go (no p) (yes q) = rw (swap_b k q) al
      go (no p) (no q) = rw (swap_no k p q) kl

-- the list with its entries a and b exchanged
abbrev pub exchanged : List ℕ → ℕ → ℕ → List ℕ
exchanged list a b = set (set list b (site_at list a)) a (site_at list b)

module _ (list : List ℕ) (a b : ℕ) (al : a < length list) (bl : b < length list) where
  pub exchanged_at : (k : ℕ) → site_at (exchanged list a b) k ≡ site_at list (swap a b k)
  exchanged_at k =
      go (after_set (set list b (site_at list a)) a (site_at list b) k (rw (length-set list b (site_at list a)) al))
      (after_set list b (site_at list a) k bl)
    where
      go :
          AfterSet (set list b (site_at list a)) a (site_at list b) k → AfterSet list b (site_at list a) k
          → site_at (exchanged list a b) k ≡ site_at list (swap a b k)
      go (here p g) w = g ∙ ap (site_at list) (sym (swap_a a b k p))
      go (there p g) (here q f) = g ∙ (f ∙ ap (site_at list) (sym (swap_b a b k q)))
      go (there p g) (there q f) = g ∙ (f ∙ ap (site_at list) (sym (swap_no a b k p q)))

  -- other entries stay
  pub exchanged_other : (k : ℕ) → (k ≡ a → ⊥) → (k ≡ b → ⊥) → site_at (exchanged list a b) k ≡ site_at list k
  exchanged_other k p q = exchanged_at k ∙ ap (site_at list) (swap_no a b k p q)

  pub listed_exchanged : {members : List ℕ} {len : ℕ} → a < len → b < len → Listed members list len → Listed members (exchanged list a b) len
  listed_exchanged {members} {len} am bm h = record {
    room = simp length-set h.room;
    number = h.number;
    each = λ k l. rw (exchanged_at k) (h.each (swap a b k) (swap_lt a b len k am bm l));
    all = all;
    apart = apart;
  }
    where
      all : (i : ℕ) → get_or members i 0 ≡ 1 → Placed len (site_at (exchanged list a b)) i
      all i e =
          let p = h.all i e in
          (swap a b p.0, swap_lt a b len p.0 am bm p.1, p.2 ∙ sym (exchanged_at (swap a b p.0) ∙ ap (site_at list) (swap_twice a b p.0)))

      apart : Distinct len (site_at (exchanged list a b))
      apart x y xl yl e =
          let same : swap a b x ≡ swap a b y =
          h.apart (swap a b x) (swap a b y) (swap_lt a b len x am bm xl) (swap_lt a b len y am bm yl) (sym (exchanged_at x) ∙ (e ∙ exchanged_at y)) in
          sym (swap_twice a b x) ∙ (ap (swap a b) same ∙ swap_twice a b y)

-- Permutations by marks: a number whose bit v is set where v was met.
use Rattle.std.specs.Prelude.{ℕ, zero, suc, ◌+◌, ◌-◌, ◌*◌, ◌/◌, ◌%◌, ◌^◌, ◌≤◌, ◌<◌, ◌≡◌, refl, ◌⊎◌, List, eqb, length, get_or}
use Rattle.std.proofs.Common.{sym, ◌∙◌, subst, inl, inr, ⊎_elim, div-add-mod', div-lt_iff_lt-mul, div-one, le_antisymm, mod-lt, mul-le-mul_right, one-mul, pow-suc, suc-mul, arith, below_more, pow-add, pow_pos, shl_exact, shr-shr}
use Rattle.std.proofs.Math.Path.{ap}
use Rattle.std.proofs.Math.Decide.{dec_lt, ℕ_discrete}
use Rattle.std.proofs.Math.Nat.{div-eq_of_lt, zero-div}
use Rattle.std.specs.Int.Bits.{bit_or, or_zero_l, shifted_even}
use Rattle.std.proofs.lemmas.Nat.{or_shr, or_mod, or_comm, or_lt, shl-shr}
use Rattle.std.proofs.Math.Pow.{pow-lt, ones_lt, ones_split, high}
use Rattle.lemmas.specs.Places.{Placed}
use Rattle.lemmas.specs.Tells.{Test, Each, same, test_eq}
use Rattle.paper.specs.Refusal.Rules.{Permutes}
use Rattle.laws.specs.Permuted.{onto}

-- bit v of x is set
abbrev pub Bit : ℕ → ℕ → Type 0
Bit x v = x / 2 ^ v % 2 ≡ 1

-- v is among the first i
pub record Met (p : ℕ → ℕ) (i v : ℕ) : Type 0 where
  pub place : ℕ
  pub below : place < i
  pub is : p place ≡ v

-- of the first i of m, those below m are marked in x, and nothing else
pub record Marked (m : ℕ) (p : ℕ → ℕ) (i x : ℕ) : Type 0 where
  pub reached : i ≤ m
  pub small : x < 2 ^ m
  pub met : (v : ℕ) → Bit x v → Met p i v
  pub marks : (k : ℕ) → k < i → p k < m → Bit x (p k)

-- ---- bits

or_low : (a b v : ℕ) → bit_or a b / 2 ^ v % 2 ≡ bit_or (a / 2 ^ v % 2) (b / 2 ^ v % 2)
or_low a b v = rw or_shr (or_mod (a / 2 ^ v) (b / 2 ^ v) 1)

one_or : (b : ℕ) → b < 2 → bit_or 1 b ≡ 1
one_or b l = go (ℕ_discrete b 0)
  where
    go : Dec (b ≡ 0) → bit_or 1 b ≡ 1
    go (yes e) = rw e refl
    go (no n) = let e : b ≡ 1 = omega arith in rw e refl

or_left : (a b v : ℕ) → Bit a v → Bit (bit_or a b) v
or_left a b v h = rw (or_low, h) (one_or (b / 2 ^ v % 2) (omega arith))

or_right : (a b v : ℕ) → Bit b v → Bit (bit_or a b) v
or_right a b v h = rw (or_comm a b) (or_left b a v h)

or_either : (a b v : ℕ) → Bit (bit_or a b) v → Bit a v ⊎ Bit b v
or_either a b v h = go (ℕ_discrete (a / 2 ^ v % 2) 0)
  where
    go : Dec (a / 2 ^ v % 2 ≡ 0) → Bit a v ⊎ Bit b v
    go (yes e) = inr (rw (or_low, e, or_zero_l (b / 2 ^ v % 2)) at h)
    go (no n) = inl (omega arith)

own_bit : (q : ℕ) → Bit (2 ^ q) q
own_bit q = let e : 2 ^ q / 2 ^ q ≡ 1 = rw one-mul at (shl-shr 1 q) in rw e refl

only_bit : (q v : ℕ) → Bit (2 ^ q) v → v ≡ q
only_bit q v h = go (dec_lt v q) (dec_lt q v)
  where
    even : (j : ℕ) → suc j + v ≡ q → 2 ^ q / 2 ^ v % 2 ≡ 0
    even j e = rw (← e, pow-add 2 (suc j) v, shl-shr (2 ^ suc j) v) (rw one-mul at (shifted_even 1 j))

    go : Dec (v < q) → Dec (q < v) → v ≡ q
    go (yes l) d = absurd (omega (arith, even (q - suc v) (omega arith)))
    go (no n) (yes l) = let e : 2 ^ q / 2 ^ v ≡ 0 = div-eq_of_lt (pow-lt l) in absurd (omega (arith, ap (λ (x : ℕ). x % 2) e))
    go (no n) (no m) = omega arith

-- the number 2 ^ m - 1 has just the bits below m
all_set : (m v : ℕ) → v < m → Bit (2 ^ m - 1) v
all_set m v l = go (m - suc v) (omega arith)
  where
    odd : (j : ℕ) → (2 ^ suc j - 1) % 2 ≡ 1
    odd j = rw pow-suc (omega (arith, pow_pos j))

    go : (j : ℕ) → suc j + v ≡ m → Bit (2 ^ m - 1) v
    go j e = rw (← e, ones_split (suc j) v, high (2 ^ suc j - 1) v (ones_lt v)) (odd j)

ones_of : (m x : ℕ) → x < 2 ^ m → ((v : ℕ) → v < m → Bit x v) → x ≡ 2 ^ m - 1
ones_of zero x l h = omega arith
ones_of (suc m) x l h =
    let p : 2 ^ suc m ≡ 2 ^ m * 2 = pow-suc 2 m in
    let half : x / 2 ≡ 2 ^ m - 1 = ones_of m (x / 2) (omega arith) (λ v b. rw (shr-shr x 1 v) (h (1 + v) (omega arith))) in
    let low : x % 2 ≡ 1 = rw div-one at (h 0 (omega arith)) in
    omega (arith, pow_pos m)

-- y is x with q marked, where q is below m
pub record MarkedBelow (m q x y : ℕ) : Type 0 where
  pub inside : q < m → y ≡ bit_or x (2 ^ q)
  pub past : m ≤ q → y ≡ x

-- a shift by less than the width loses nothing
pub one_shifted : (w q : ℕ) → q < w → (1 * 2 ^ q) % 2 ^ w ≡ 2 ^ q
one_shifted w q l = shl_exact 1 q w (omega arith) (omega arith) ∙ one-mul (2 ^ q)

-- ---- marking one more

met_more : {p : ℕ → ℕ} {i v : ℕ} → Met p i v → Met p (i + 1) v
met_more w = record { place = w.place; below = omega arith; is = w.is }

module _ {m : ℕ} {p : ℕ → ℕ} where
  pub mark_none : Marked m p 0 0
  mark_none = record {
    reached = omega arith;
    small = pow_pos m;
    met = λ v b. absurd (omega (arith, zero-div (2 ^ v), b));
    marks = λ k l. absurd (omega arith);
  }

  -- one that is out of range is passed over
  pub mark_past : {i x : ℕ} → i < m → m ≤ p i → Marked m p i x → Marked m p (i + 1) x
  mark_past {i} {x} li l h = record {
    reached = omega arith;
    small = h.small;
    met = λ v b. met_more (h.met v b);
    marks = below_more (λ k. p k < m → Bit x (p k)) i h.marks (λ q. absurd (omega arith));
  }

  pub mark_more : {i x : ℕ} → i < m → p i < m → Marked m p i x → Marked m p (i + 1) (bit_or x (2 ^ p i))
  mark_more {i} {x} li l h = record {
    reached = omega arith;
    small = or_lt m x (2 ^ p i) h.small (pow-lt l);
    met = λ v b. ⊎_elim (λ o. met_more (h.met v o)) (new v) (or_either x (2 ^ p i) v b);
    marks = below_more (λ k. p k < m → Bit (bit_or x (2 ^ p i)) (p k)) i old (λ q. or_right x (2 ^ p i) (p i) (own_bit (p i)));
  }
    where
      new : (v : ℕ) → Bit (2 ^ p i) v → Met p (i + 1) v
      new v b = record { place = i; below = omega arith; is = sym (only_bit (p i) v b) }

      old : (k : ℕ) → k < i → p k < m → Bit (bit_or x (2 ^ p i)) (p k)
      old k l q = or_left x (2 ^ p i) (p k) (h.marks k l q)

  pub mark_below : {i x y : ℕ} → i < m → MarkedBelow m (p i) x y → Marked m p i x → Marked m p (i + 1) y
  mark_below {i} {x} {y} li w h = go (dec_lt (p i) m)
    where
      go : Dec (p i < m) → Marked m p (i + 1) y
      go (yes l) = rw (w.inside l) (mark_more li l h)
      go (no n) = let l : m ≤ p i = omega arith in rw (w.past l) (mark_past li l h)

  pub mark_end : {i x : ℕ} → Marked m p i x → m ≤ i → Marked m p m x
  mark_end {i} {x} h l = subst (λ (k : ℕ). Marked m p k x) (le_antisymm h.reached l) h

-- ---- all m numbers are met by m places just if they are permuted

module _ (m : ℕ) (p : ℕ → ℕ) (h : (v : ℕ) → v < m → Met p m v) where
  -- the place of a number; the places are as many as the numbers, so each place is one
  at : (v : ℕ) → Dec (v < m) → ℕ
  at v (yes l) = (h v l).place
  at v (no n) = 0

  placed : Permutes m (λ v. at v (dec_lt v m))
  unfolding at
  placed = record { within = λ v l. low v l (dec_lt v m); distinct = λ a b la lb e. apart a b la lb (dec_lt a m) (dec_lt b m) e }
    where
      low : (v : ℕ) → v < m → (d : Dec (v < m)) → at v d < m
      low v l (yes q) = (h v q).below
      low v l (no n) = absurd (n l)

      apart : (a b : ℕ) → a < m → b < m → (d : Dec (a < m)) (e : Dec (b < m)) → at a d ≡ at b e → a ≡ b
      apart a b la lb (yes x) (yes y) e = sym (h a x).is ∙ (ap p e ∙ (h b y).is)
      apart a b la lb (yes x) (no y) e = absurd (y lb)
      apart a b la lb (no x) d e = absurd (x la)

  value : (k v : ℕ) → v < m → (d : Dec (v < m)) → k ≡ at v d → p k ≡ v
  unfolding at
  value k v l (yes q) e = ap p e ∙ (h v q).is
  value k v l (no n) e = absurd (n l)

  pub met_permutes : Permutes m p
  met_permutes = record {
    within = λ k l. let r = found k l in rw (value k r.0 r.1 (dec_lt r.0 m) r.2) r.1;
    distinct = λ a b la lb e. let r = found a la in let s = found b lb in
        let same_value : r.0 ≡ s.0 = sym (value a r.0 r.1 (dec_lt r.0 m) r.2) ∙ (e ∙ value b s.0 s.1 (dec_lt s.0 m) s.2) in
        r.2 ∙ (ap (λ (v : ℕ). at v (dec_lt v m)) same_value ∙ sym s.2);
  }
    where
      found : (k : ℕ) → k < m → Placed m (λ v. at v (dec_lt v m)) k
      found = onto m (λ v. at v (dec_lt v m)) placed

-- so all the marks are set just if the numbers are permuted
pub marks_tell : {m : ℕ} {p : ℕ → ℕ} {x : ℕ} → Marked m p m x → Test (eqb x (2 ^ m - 1)) (Permutes m p)
marks_tell {m} {p} {x} h =
    same (Permutes m p)
    (λ e. met_permutes m p (λ v l. h.met v (rw e (all_set m v l))))
    (λ w. ones_of m x h.small (λ v l. let r = onto m p w v l in rw r.2 (h.marks r.0 r.1 (w.within r.0 r.1))))
    (test_eq x (2 ^ m - 1))

-- ---- the functions that mark

-- a row of m bytes, all below m, starting at `at`
pub record RowIn (m : ℕ) (perms : List ℕ) (at : ℕ) : Type 0 where
  pub size : m ≤ 8
  pub inside : at + m ≤ length perms
  pub below : (k : ℕ) → k < length perms → get_or perms k 0 < m

-- rows of m bytes, one behind the other
pub record Rows (rows m : ℕ) (perms : List ℕ) : Type 0 where
  pub size : m ≤ 8
  pub few : rows ≤ 4096
  pub long : length perms ≡ rows * m

pub record RowsBelow (rows m : ℕ) (perms : List ℕ) : Type 0 where
  pub rows_of : Rows rows m perms
  pub below : (k : ℕ) → k < length perms → get_or perms k 0 < m

-- entry k of row r
abbrev pub row_at : ℕ → List ℕ → ℕ → ℕ → ℕ
row_at m perms r k = get_or perms (r * m + k) 0

-- an order of at most s systems
pub record OrderOf (s : ℕ) (order : List ℕ) : Type 0 where
  pub long : length order ≤ s
  pub few : s ≤ 64

pub full_marks : (w m : ℕ) → m < w → (1 * 2 ^ m) % 2 ^ w - 1 ≡ 2 ^ m - 1
full_marks w m l = rw (one_shifted w m l)

-- row r is inside
pub row_in : {rows m : ℕ} {perms : List ℕ} → RowsBelow rows m perms → (r : ℕ) → r < rows → RowIn m perms (r * m)
row_in {rows} {m} b r l = record {
  size = b.rows_of.size;
  inside = omega (arith, b.rows_of.long, rw suc-mul at (mul-le-mul_right m l));
  below = b.below;
}

-- each byte stands in a row
pub rows_below : {rows m : ℕ} {perms : List ℕ} → 0 < m → Rows rows m perms → Each rows (λ r. Permutes m (row_at m perms r))
    → Each (length perms) (λ k. get_or perms k 0 < m)
rows_below {rows} {m} {perms} p w h k l =
    let r : k / m < rows = (div-lt_iff_lt-mul p).1 (rw w.long at l) in
    rw (div-add-mod' k m) at ((h (k / m) r).within (k % m) (mod-lt k p))

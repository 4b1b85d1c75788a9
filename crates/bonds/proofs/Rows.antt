-- Rows of a table, written byte by byte and site by site.
use Prim.Native.Nat.{ℕ, ◌+◌, ◌*◌, ◌≤◌, ◌<◌}
use mathlib.Core.Path.{◌≡◌, refl, sym, ◌∙◌, ap}
use mathlib.Core.Bool.{Bool, true, false}
use mathlib.Core.List.{List}
use native.Mathlib.Nat.{le_of_lt, le_trans, mul-le-mul_left, mul-le-mul_right, suc-mul}
use native.Mathlib.Numerals.{add-one}
use native.Mathlib.Omega.{arith}
use borrow.Author.Count.{below_more}
use lib.ListN.{length, get_or, set, length-set}
use lib.Seq.{get_or-set_same, get_or-set_other}
use mir.Val.{bool_byte}
use Rattle.lemmas.specs.Counts.{bit}
use Rattle.lemmas.specs.Cells.{cell_lt}
use Rattle.paper.specs.Component.Marks.{Marks}
use Rattle.bonds.specs.Table.{Forward, ActiveIn}
use Rattle.bonds.specs.Row.{Row, Blank}

-- ---- the bond (i, e): its entry is in the table, which is short, and it leads to a site
pub record Place (n d : ℕ) (fwd : List ℕ) (i e : ℕ) : Type 0 where
  pub entry : i * d + e < n * d
  pub short : n * d ≤ 16384
  pub ahead : get_or fwd (i * d + e) 0 < n

short_table : {n d : ℕ} {fwd : List ℕ} → Forward n d fwd → n * d ≤ 16384
short_table {n} {d} h = le_trans (mul-le-mul_right d h.sites) (mul-le-mul_left 4096 h.directions)

pub place : {n d : ℕ} {fwd : List ℕ} → Forward n d fwd → (i e : ℕ) → i < n → e < d → Place n d fwd i e
place {n} {d} h i e hi he = record { entry = cell_lt n d i e hi he; short = short_table h; ahead = h.inside i e hi he }

pub base_short : {n d : ℕ} {fwd : List ℕ} → Forward n d fwd → (i : ℕ) → i < n → i * d ≤ 16384
base_short {n} {d} h i hi = le_trans (mul-le-mul_right d (le_of_lt hi)) (short_table h)

-- ---- a row
-- the byte of a test
pub byte_is : {v : ℕ} {b b' : Bool} → v ≡ bool_byte b → b ≡ b' → v ≡ bit b'
byte_is {v} {b} e q = e ∙ (same b ∙ ap bit q)
  where
    same : (t : Bool) → bool_byte t ≡ bit t
    same true = refl
    same false = refl

pub row_none : (base : ℕ) (f : ℕ → Bool) (xs : List ℕ) → Row base 0 f xs xs
row_none base f xs = record { long = refl; at = λ e h. absurd (omega arith); below = λ k h. refl; above = λ k h. refl }

pub row_more : (base m v : ℕ) (f : ℕ → Bool) (xs ys : List ℕ)
    → Row base m f xs ys → base + m < length xs → v ≡ bit (f m) → Row base (m + 1) f xs (set ys (base + m) v)
row_more base m v f xs ys r h e =
    record {
      long = simp length-set r.long;
      at =
          below_more (λ e. get_or (set ys (base + m) v) (base + e) 0 ≡ bit (f e)) m
          (λ k l. get_or-set_other ys (base + m) (base + k) v 0 (λ q. omega arith) ∙ r.at k l)
          (get_or-set_same ys (base + m) v 0 (omega (arith, r.long)) ∙ e);
      below = λ k l. get_or-set_other ys (base + m) k v 0 (λ q. omega arith) ∙ r.below k l;
      above = λ k l. get_or-set_other ys (base + m) k v 0 (λ q. omega arith) ∙ r.above k (omega arith);
    }

-- ---- the sites below i are marked
pub record Begun (n d : ℕ) (f : ℕ → ℕ → Bool) (i : ℕ) (xs : List ℕ) : Type 0 where
  pub long : length xs ≡ n * d
  pub at : (k e : ℕ) → k < i → e < d → get_or xs (k * d + e) 0 ≡ bit (f k e)

module _ (n d : ℕ) (f : ℕ → ℕ → Bool) where
  pub begun_none : (xs : List ℕ) → length xs ≡ n * d → Begun n d f 0 xs
  begun_none xs h = record { long = h; at = λ k e l m. absurd (omega arith) }

  pub begun_all : (xs : List ℕ) → Begun n d f n xs → Marks n d f xs
  begun_all xs b = record { long = b.long; at = b.at }

  module _ (i : ℕ) (xs : List ℕ) (b : Begun n d f i xs) where
    pub begun_more : (ys : List ℕ) → Row (i * d) d (f i) xs ys → Begun n d f (i + 1) ys
    begun_more ys r =
        record {
          long = r.long ∙ b.long;
          at =
              λ k e l m. below_more (λ k. get_or ys (k * d + e) 0 ≡ bit (f k e)) i
              (λ k l. r.below (k * d + e) (cell_lt i d k e l m) ∙ b.at k e l m)
              (r.at e m) k l;
        }

-- ---- the same where the bytes of the sites from i on are still 0: a site of which no bond holds is passed over
pub record Marking (n d : ℕ) (f : ℕ → ℕ → Bool) (i : ℕ) (xs : List ℕ) : Type 0 where
  pub begun : Begun n d f i xs
  pub blank : Blank (i * d) xs

module _ (n d : ℕ) (f : ℕ → ℕ → Bool) where
  pub marking_none : (xs : List ℕ) → length xs ≡ n * d → Blank 0 xs → Marking n d f 0 xs
  marking_none xs h z = record { begun = begun_none n d f xs h; blank = λ k l. z k (omega arith) }

  module _ (i : ℕ) (xs : List ℕ) (b : Marking n d f i xs) where
    pub marking_more : (ys : List ℕ) → Row (i * d) d (f i) xs ys → Marking n d f (i + 1) ys
    marking_more ys r =
        record {
          begun = begun_more n d f i xs b.begun ys r;
          blank = λ k h. let l : i * d + d ≤ k = rw (add-one, suc-mul) at h in r.above k l ∙ b.blank k (omega arith);
        }

    pub marking_skip : ((e : ℕ) → f i e ≡ false) → Marking n d f (i + 1) xs
    marking_skip none =
        marking_more xs (record {
          long = refl;
          at = λ e h. b.blank (i * d + e) (omega arith) ∙ sym (ap bit (none e));
          below = λ k h. refl;
          above = λ k h. refl;
        })

-- what a site's turn is lent, with the count of sites as the length of acts
pub lent_on : {n d : ℕ} {fwd acts xs : List ℕ} (ys : List ℕ) → ActiveIn n d fwd acts xs → length ys ≡ n * d → ActiveIn (length acts) d fwd acts ys
lent_on ys h long = record { forward = rw h.acts_long h.forward; acts_long = refl; holds_long = rw h.acts_long long }

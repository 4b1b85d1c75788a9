-- Bytes and rows: what each site shows, which bytes show spins only, and that rows and bytes undo one another.
use Prim.Native.Nat.{ℕ, zero, suc, ◌+◌, ◌*◌, ◌/◌, ◌%◌, ◌^◌, ◌≤◌, ◌<◌}
use Rattle.std.specs.Prelude.{◌≡◌, refl, ◌≢◌, true, List, get_or, ℤ, pos}
use Rattle.std.proofs.Math.Path.{sym}
use Rattle.std.proofs.Common.{◌∙◌, ap, inl, inr, mod-lt, div-add-mod', div-lt_iff_lt-mul, mul-le-mul_right, suc-mul, lt-ltb, le-ltb}
use Rattle.std.proofs.Math.Decide.{dec_lt}
use native.Mathlib.Omega.{arith}
use Rattle.std.proofs.Math.ListN.{length, get_or-eq_default}
use Rattle.std.proofs.Math.Seq.{ext_get_or}
use Rattle.lemmas.specs.Cells.{table_at, length_table, tabulate_at, length_tabulate, row_of, column_of_lem, cell_lt, some_group}
use Rattle.paper.specs.Panel.Input.{member, spin, pattern_of}
use Rattle.paper.specs.Refusal.Rules.{Spin, AllSystems, Spins, Grouped}
use Rattle.lattice.specs.Spinning.{AllSpins, all_rows}
use Rattle.columns.specs.Column.{shown, shown_column, shown_spin, column_of, column_lt, column_ext, Columns, Inside}
use Rattle.columns.specs.Bits.{column_same}
use Rattle.columns.specs.Determined.{columns_unique, write_rows_determined}
use Rattle.columns.specs.Rows.{Written}
use Rattle.packing.specs.Bytes.{seen, rows_of, bytes_of, Narrow, own_group}

-- ---- one byte

pub seen_narrow : (m x k : ℕ) → x < 2 ^ m → seen m x k ≡ shown x k
unfolding seen
seen_narrow m x k h = rw (lt-ltb x (2 ^ m) h) refl

-- what shows a spin has no such bit
pub seen_spin : (m x k : ℕ) → Spin (seen m x k) → x < 2 ^ m
unfolding seen
seen_spin m x k s = go (dec_lt x (2 ^ m))
  where
    none : Spin (pos 0) → ⊥
    none (inl e) = let z : ◌≡◌ {A = ℕ} 0 1 = cc in omega arith
    none (inr e) = let z : ◌≡◌ {A = ℕ} 0 1 = cc in omega arith

    go : Dec (x < 2 ^ m) → x < 2 ^ m
    go (yes h) = h
    go (no h) = absurd (none (rw (le-ltb x (2 ^ m) (omega arith)) at s))

-- ---- cells

-- m rows of n are known by their cells
pub rows_ext :
    (m n : ℕ) (xs ys : List ℤ) → length xs ≡ m * n → length ys ≡ m * n
    → ((t i : ℕ) → t < m → i < n → spin n xs t i ≡ spin n ys t i)
    → xs ≡ ys
rows_ext m n xs ys e f same = ext_get_or (pos 0) xs ys (e ∙ sym f) (λ a h. at a (rw e at h))
  where
    at : (a : ℕ) → a < m * n → get_or xs a (pos 0) ≡ get_or ys a (pos 0)
    at a h =
        let some : 0 < n = some_group m n a h in
        rw (← div-add-mod' a n) (same (a / n) (a % n) ((div-lt_iff_lt-mul some).1 h) (mod-lt a some))

-- ---- the rows of bytes

pub length_rows : (m : ℕ) (xs : List ℕ) → length (rows_of m xs) ≡ m * length xs
unfolding rows_of
length_rows m xs = length_tabulate (m * length xs) _

module _ (m n : ℕ) (xs : List ℕ) (long : length xs ≡ n) where
  pub rows_long : length (rows_of m xs) ≡ m * n
  rows_long = length_rows m xs ∙ ap (λ (y : ℕ). m * y) long

  pub row_at : (i k : ℕ) → i < n → k < m → spin n (rows_of m xs) k i ≡ seen m (get_or xs i 0) k
  unfolding rows_of
  row_at i k h l =
      let q : i < length xs = omega arith in
      rw (← long)
      (tabulate_at (m * length xs) (λ a. seen m (get_or xs (a % length xs) 0) (a / length xs)) (k * length xs + i) (cell_lt m (length xs) k i l q)
      ∙ rw (row_of (length xs) k i q, column_of_lem (length xs) k i q) refl)

  -- rule 3 of the rows is that no byte has a bit too many
  pub spins_narrow : 1 ≤ m → Spins n (AllSystems m) (rows_of m xs) → Narrow m xs
  spins_narrow some s i h =
      let q : i < n = omega arith in
      seen_spin m (get_or xs i 0) 0 (rw (row_at i 0 q some) at (s 0 i some q))

  pub all_spins_narrow : 1 ≤ m → AllSpins (rows_of m xs) → Narrow m xs
  all_spins_narrow some s = spins_narrow some (all_rows n m (rows_of m xs) rows_long true s)

  module _ (narrow : Narrow m xs) where
    pub narrow_at : (i k : ℕ) → i < n → k < m → spin n (rows_of m xs) k i ≡ shown (get_or xs i 0) k
    narrow_at i k h l = row_at i k h l ∙ seen_narrow m (get_or xs i 0) k (narrow i (omega arith))

    pub rows_spins : Spins n (AllSystems m) (rows_of m xs)
    rows_spins k i l h = rw (narrow_at i k h l) (shown_spin (get_or xs i 0) k)

    pub rows_all_spins : AllSpins (rows_of m xs)
    rows_all_spins a h =
        let l : a < m * n = rw rows_long at h in
        let some : 0 < n = some_group m n a l in
        rw (← div-add-mod' a n) (rows_spins (a / n) (a % n) ((div-lt_iff_lt-mul some).1 l) (mod-lt a some))

    pub column_back : (i : ℕ) → i < n → column_of m (λ k. spin n (rows_of m xs) k i) ≡ get_or xs i 0
    column_back i h =
        column_ext m (λ k. spin n (rows_of m xs) k i) (shown (get_or xs i 0)) (λ k l. narrow_at i k h l)
        ∙ column_same m (get_or xs i 0) (narrow i (omega arith))

    -- the bytes of their rows are the bytes
    pub unpack_pack : bytes_of m n (rows_of m xs) ≡ xs
    unfolding bytes_of
    unpack_pack = ext_get_or 0 (bytes_of m n (rows_of m xs)) xs (length_table n f ∙ sym long) at
      where
        f : ℕ → ℕ
        f i = column_of m (λ k. spin n (rows_of m xs) k i)

        at : (i : ℕ) → i < length (bytes_of m n (rows_of m xs)) → get_or (bytes_of m n (rows_of m xs)) i 0 ≡ get_or xs i 0
        at i h = let q : i < n = rw (length_table n f) at h in table_at n f i q ∙ column_back i q

-- so no two lists of bytes have the same rows
pub rows_injective :
    (m : ℕ) (xs zs : List ℕ) → Narrow m xs → Narrow m zs → length xs ≡ length zs → rows_of m xs ≡ rows_of m zs → xs ≡ zs
rows_injective m xs zs narrow low e same =
    sym (unpack_pack m (length xs) xs refl narrow) ∙ (ap (bytes_of m (length xs)) same ∙ unpack_pack m (length xs) zs (sym e) low)

-- ---- the bytes of rows

module _ (m n : ℕ) (rows : List ℤ) where
  pub length_bytes : length (bytes_of m n rows) ≡ n
  unfolding bytes_of
  length_bytes = length_table n _

  pub byte_at_lem : (i : ℕ) → i < n → get_or (bytes_of m n rows) i 0 ≡ column_of m (λ k. spin n rows k i)
  unfolding bytes_of
  byte_at_lem i h = table_at n (λ i. column_of m (λ k. spin n rows k i)) i h

  pub bytes_narrow : Narrow m (bytes_of m n rows)
  bytes_narrow i h = rw (byte_at_lem i (rw length_bytes at h)) (column_lt m (λ k. spin n rows k i))

  -- the rows of the bytes of rows are the rows
  pub pack_unpack : length rows ≡ m * n → Spins n (AllSystems m) rows → rows_of m (bytes_of m n rows) ≡ rows
  pack_unpack long s = rows_ext m n (rows_of m (bytes_of m n rows)) rows (rows_long m n (bytes_of m n rows) length_bytes) long at
    where
      at : (k i : ℕ) → k < m → i < n → spin n (rows_of m (bytes_of m n rows)) k i ≡ spin n rows k i
      at k i l h =
          narrow_at m n (bytes_of m n rows) length_bytes bytes_narrow i k h l
          ∙ (ap (λ (x : ℕ). shown x k) (byte_at_lem i h) ∙ shown_column m (λ k. spin n rows k i) k l (s k i l h))

-- ---- the group of the systems 0 to m - 1

pub member_own : (m k : ℕ) → k < 8 → member (own_group m) k ≡ k
member_own m zero h = refl
member_own m (suc zero) h = refl
member_own m (suc (suc zero)) h = refl
member_own m (suc (suc (suc zero))) h = refl
member_own m (suc (suc (suc (suc zero)))) h = refl
member_own m (suc (suc (suc (suc (suc zero))))) h = refl
member_own m (suc (suc (suc (suc (suc (suc zero)))))) h = refl
member_own m (suc (suc (suc (suc (suc (suc (suc zero))))))) h = refl
member_own m (suc (suc (suc (suc (suc (suc (suc (suc k)))))))) h = absurd (omega arith)

module _ (m : ℕ) (few : m ≤ 8) where
  pub own_at : (k : ℕ) → k < m → member (own_group m) k ≡ k
  own_at k h = member_own m k (omega arith)

  pub own_grouped : Grouped m (own_group m)
  own_grouped = record {
    below = λ k h. rw (own_at k h) h;
    distinct = λ a b la lb e. sym (own_at a la) ∙ (e ∙ own_at b lb);
  }

  module _ (n : ℕ) (rows : List ℤ) where
    pub own_pattern : (i k : ℕ) → k < m → pattern_of n (own_group m) rows i k ≡ spin n rows k i
    own_pattern i k h = ap (λ (t : ℕ). spin n rows t i) (own_at k h)

    pub own_inside : length rows ≡ m * n → Inside n (own_group m) rows
    own_inside long k h = rw (own_at k h, long) (omega (arith, mul-le-mul_right n h, suc-mul k n))

    -- the columns of its patterns are the bytes
    pub bytes_columns : Columns n m (pattern_of n (own_group m) rows) (bytes_of m n rows)
    bytes_columns = record {
      long = length_bytes m n rows;
      at = λ i h. byte_at_lem m n rows i h ∙ sym (column_ext m (pattern_of n (own_group m) rows i) (λ k. spin n rows k i) (λ k l. own_pattern i k l));
    }

    pub columns_bytes : (xs : List ℕ) → Columns n m (pattern_of n (own_group m) rows) xs → xs ≡ bytes_of m n rows
    columns_bytes xs c = columns_unique n m (pattern_of n (own_group m) rows) xs (bytes_of m n rows) c bytes_columns

  module _ (n : ℕ) (zs : List ℕ) (long : length zs ≡ n) (narrow : Narrow m zs) where
    pub rows_columns : Columns n m (pattern_of n (own_group m) (rows_of m zs)) zs
    rows_columns =
        rw (unpack_pack m n zs long narrow) at (bytes_columns n (rows_of m zs))

    -- written over any rows of m members at n sites
    module _ (rows : List ℤ) (full : length rows ≡ m * n) where
      pub rows_written : Written n m (own_group m) zs rows (rows_of m zs)
      rows_written =
          record {
            long = rows_long m n zs long ∙ sym full;
            group = λ i k h l. own_pattern n (rows_of m zs) i k l ∙ narrow_at m n zs long narrow i k h l;
            others = others;
            empty = λ e. rows_ext m n (rows_of m zs) rows (rows_long m n zs long) full (λ t i l h. absurd (omega arith));
          }
        where
          past : (t i : ℕ) → ((k : ℕ) → k < m → t ≢ member (own_group m) k) → m * n ≤ t * n + i
          past t i o = go (dec_lt t m)
            where
              go : Dec (t < m) → m * n ≤ t * n + i
              go (yes l) = absurd (o t l (sym (own_at t l)))
              go (no l) = let le : m ≤ t = omega arith in omega (arith, mul-le-mul_right n le)

          others : (i t : ℕ) → i < n → ((k : ℕ) → k < m → t ≢ member (own_group m) k) → spin n (rows_of m zs) t i ≡ spin n rows t i
          others i t h o =
              let p = past t i o in
              get_or-eq_default (rows_of m zs) (pos 0) (omega (arith, rows_long m n zs long))
              ∙ sym (get_or-eq_default rows (pos 0) (omega arith))

      pub written_rows : (ys : List ℤ) → Written n m (own_group m) zs rows ys → ys ≡ rows_of m zs
      written_rows ys w = write_rows_determined n (own_group m) zs rows ys (rows_of m zs) w rows_written

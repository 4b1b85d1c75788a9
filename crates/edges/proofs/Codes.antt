-- A coupling and its code; the table from the cells.
use Prim.Native.Nat.{ℕ, zero, suc, ◌+◌, ◌-◌, ◌≤◌, ◌<◌}
use mathlib.Core.Path.{◌≡◌, refl, sym, ◌∙◌, ap}
use mathlib.Core.List.{List}
use native.Mathlib.Omega.{arith}
use native.Mathlib.Decide.{dec_le, ℕ_discrete}
use borrow.Author.Tests.{le-leb, lt-leb, le-ltb}
use lib.ListN.{length, get_or, set, length-set}
use lib.Seq.{get_or-set_same, get_or-set_other, ext_get_or}
use lib.IntN.{ℤ, pos, negsuc, nat_abs, ◌+ℤ◌, ◌-ℤ◌, +ℤ-neg_ℤ_cancel}
use Rattle.paper.specs.Refusal.Rules.{SmallCouplings}
use Rattle.lemmas.specs.Ints.{abs_add}
use Rattle.edge_text.specs.Reading.{plus_code, minus_code, code_of}
use Rattle.edges.specs.Bonds.{Cell, free, holds, value_of, table_of}
use Rattle.edges.specs.Fills.{table_long, table_at}
use Rattle.edges.specs.Filling.{cell_code, Coded, decoded, SmallCodes, Decoded}

pub decoded_some : (x : ℕ) → (x ≡ 0 → ⊥) → decoded x ≡ pos x -ℤ pos 1000001
decoded_some zero n = absurd (n refl)
decoded_some (suc x) n = refl

pub decoded_none : (x : ℕ) → x ≡ 0 → pos 0 ≡ decoded x
decoded_none x e = rw e refl

pub decoded_size : (x : ℕ) → x < 2000002 → nat_abs (pos x -ℤ pos 1000001) ≤ 3000003
decoded_size x l = let h = abs_add (pos x) (negsuc 1000000) in omega arith

-- ---- a small coupling is what its code is read as
up : (v : ℕ) → v ≤ 1000000 → decoded (1000001 + v) ≡ pos v
up v l =
    let c : 1000001 + v ≡ v + 1000001 = omega arith in
    decoded_some (1000001 + v) (positive v) ∙ (ap (λ (x : ℕ). pos x -ℤ pos 1000001) c ∙ +ℤ-neg_ℤ_cancel (pos v) (pos 1000001))
  where
    positive : (v : ℕ) → 1000001 + v ≡ 0 → ⊥
    positive v e = omega arith

down : (v : ℕ) → suc v ≤ 1000000 → decoded (1000001 - suc v) ≡ negsuc v
down v l =
    decoded_some (1000001 - suc v) (positive v l) ∙ (ap (λ (z : ℤ). z -ℤ pos 1000001) (sym sum) ∙ +ℤ-neg_ℤ_cancel (negsuc v) (pos 1000001))
  where
    positive : (v : ℕ) → suc v ≤ 1000000 → 1000001 - suc v ≡ 0 → ⊥
    positive v l e = omega arith

    sum : negsuc v +ℤ pos 1000001 ≡ pos (1000001 - suc v)
    sum = rw (le-ltb 1000001 (suc v) (omega arith)) refl

pub record CodeOf (z : ℤ) (x : ℕ) : Type 0 where
  pub back : x < 2000002 → decoded x ≡ z
  pub small : x < 2000002 → nat_abs z ≤ 1000000
  pub code : nat_abs z ≤ 1000000 → x < 2000002
  pub some : x ≡ 0 → ⊥

zero_not : (x : ℕ) → 0 < x → x ≡ 0 → ⊥
zero_not x l e = omega arith

fits : (z : ℤ) (x : ℕ) → nat_abs z ≤ 1000000 → 0 < x → x < 2000002 → decoded x ≡ z → CodeOf z x
fits z x l p h e = record { back = λ _. e; small = λ _. l; code = λ _. h; some = zero_not x p }

too_large : (z : ℤ) → 1000000 < nat_abs z → CodeOf z 2000002
too_large z l = record {
  back = λ k. absurd (omega arith);
  small = λ k. absurd (omega arith);
  code = λ k. absurd (omega arith);
  some = zero_not 2000002 (omega arith);
}

pub code_of_lem : (z : ℤ) → CodeOf z (code_of z)
code_of_lem (pos v) = at (dec_le v 1000000)
  where
    at : Dec (v ≤ 1000000) → CodeOf (pos v) (plus_code v)
    at (yes l) = rw (le-leb v 1000000 l) (fits (pos v) (1000001 + v) l (omega arith) (omega arith) (up v l))
    at (no l) = rw (lt-leb v 1000000 (omega arith)) (too_large (pos v) (omega arith))
code_of_lem (negsuc v) = at (dec_le (suc v) 1000000)
  where
    at : Dec (suc v ≤ 1000000) → CodeOf (negsuc v) (minus_code (suc v))
    at (yes l) = rw (le-leb (suc v) 1000000 l) (fits (negsuc v) (1000001 - suc v) l (omega arith) (omega arith) (down v l))
    at (no l) = rw (lt-leb (suc v) 1000000 (omega arith)) (too_large (negsuc v) (omega arith))

-- ---- cells
pub cell_free : (c : Cell) → cell_code c ≡ 0 → c ≡ free
cell_free free e = refl
cell_free (holds z) e = absurd ((code_of_lem z).some e)

cell_back : (c : Cell) → cell_code c < 2000002 → decoded (cell_code c) ≡ value_of c
cell_back free l = refl
cell_back (holds z) l = (code_of_lem z).back l

cell_small : (c : Cell) → cell_code c < 2000002 → nat_abs (value_of c) ≤ 1000000
cell_small free l = omega arith
cell_small (holds z) l = (code_of_lem z).small l

cell_code_lem : (c : Cell) → nat_abs (value_of c) ≤ 1000000 → cell_code c < 2000002
cell_code_lem free l = omega arith
cell_code_lem (holds z) l = (code_of_lem z).code l

-- ---- the table of the cells
module _ (m : ℕ) (cells : ℕ → Cell) (xs : List ℕ) (c : Coded m cells xs) where
  pub small_table : SmallCodes m xs → SmallCouplings (table_of m cells)
  small_table s k l =
      let q : k < m = rw (table_long m cells) at l in
      rw (table_at m k cells q) (cell_small (cells k) (rw (c k q) at (s k q)))

  pub small_codes : SmallCouplings (table_of m cells) → SmallCodes m xs
  small_codes s k q =
      rw (c k q) (cell_code_lem (cells k) (rw (table_at m k cells q) at (s k (rw (table_long m cells) q))))

  pub table_of_lem : (js js' : List ℤ) → length js ≡ m → SmallCodes m xs → Decoded xs js js' → js' ≡ table_of m cells
  table_of_lem js js' l s d = ext_get_or (pos 0) js' (table_of m cells) (d.long ∙ (l ∙ sym (table_long m cells))) at
    where
      at : (k : ℕ) → k < length js' → get_or js' k (pos 0) ≡ get_or (table_of m cells) k (pos 0)
      at k h =
          let q : k < m = omega (arith, d.long) in
          d.each k (omega (arith, d.long)) ∙ (ap decoded (c k q) ∙ (cell_back (cells k) (rw (c k q) at (s k q)) ∙ sym (table_at m k cells q)))

-- ---- the copy, one by one
pub record Decoding (cells : List ℕ) (js : List ℤ) (k : ℕ) (js' : List ℤ) : Type 0 where
  pub within : k ≤ length js
  pub long : length js' ≡ length js
  pub each : (b : ℕ) → b < k → get_or js' b (pos 0) ≡ decoded (get_or cells b 0)

module _ (cells : List ℕ) (js : List ℤ) where
  pub decoding_none : Decoding cells js 0 js
  decoding_none = record { within = omega arith; long = refl; each = λ b l. absurd (omega arith) }

  pub decoding_more : (k : ℕ) (js' : List ℤ) (z : ℤ) → Decoding cells js k js' → k < length js → z ≡ decoded (get_or cells k 0)
      → Decoding cells js (k + 1) (set js' k z)
  decoding_more k js' z d l e = record { within = omega arith; long = length-set js' k z ∙ d.long; each = at }
    where
      at : (b : ℕ) → b < k + 1 → get_or (set js' k z) b (pos 0) ≡ decoded (get_or cells b 0)
      at b h = go (ℕ_discrete b k)
        where
          go : Dec (b ≡ k) → get_or (set js' k z) b (pos 0) ≡ decoded (get_or cells b 0)
          go (yes p) = rw p (get_or-set_same js' k z (pos 0) (omega (arith, d.long)) ∙ e)
          go (no p) = get_or-set_other js' k b z (pos 0) p ∙ d.each b (omega arith)

  pub decoded_all : (k : ℕ) (js' : List ℤ) → Decoding cells js k js' → length js ≤ k → Decoded cells js js'
  decoded_all k js' d l = record { long = d.long; each = λ b h. d.each b (omega arith) }

-- Rows read into columns: with no row all are 0, and one row more adds a bit to each.
use Prim.Native.Nat.{ℕ, ◌+◌, ◌-◌, ◌*◌, ◌%◌, ◌^◌, ◌≤◌, ◌<◌}
use mathlib.Core.Path.{◌≡◌, sym, ◌∙◌}
use mathlib.Core.Bool.{Bool}
use mathlib.Core.List.{List}
use native.Mathlib.Omega.{arith}
use native.Mathlib.Nat.{pow-suc, one-mul}
use native.Mathlib.Numerals.{add-one}
use lib.ListN.{length, get_or, take, drop}
use lib.Seq.{get_or-take, get_or-drop}
use lib.IntN.{ℤ, pos}
use lib.Pow.{pow_mono, shl_exact}
use Rattle.lemmas.specs.Counts.{bit}
use Rattle.lemmas.specs.Stores.{Filled, Cleared}
use Rattle.paper.specs.Panel.Input.{Pattern}
use Rattle.columns.specs.Column.{is_up, column_of, column_lt, Columns}
use Rattle.columns.specs.Bits.{code_none, code_more}

-- the weight of the place k
pub weight : (k : ℕ) → k < 8 → 1 * 2 ^ k % 256 ≡ 2 ^ k
weight k h = shl_exact {a = 1} 1 k 8 (omega arith) (omega arith) ∙ one-mul (2 ^ k)

-- a bit at the place k fits above the places below it
pub room : {n k : ℕ} {f : ℕ → Pattern} {xs : List ℕ} (w : ℕ) → Columns n k f xs → k < 8 → w ≡ 2 ^ k → (i : ℕ) → i < length xs → get_or xs i 0 + w < 256
room {n} {k} {f} {xs} w was h e i l =
    let p : 2 ^ (k + 1) ≤ 256 = pow_mono {i = k + 1} {j = 8} (omega arith) in
    omega (arith, was.at i (omega (arith, was.long)), column_lt k (f i), rw add-one at p, pow-suc 2 k)

pub none_packed : {n m : ℕ} {f : ℕ → Pattern} {ys : List ℕ} → m ≡ n → Cleared m ys → Columns n 0 f ys
none_packed {n} {f} long cleared = record {
  long = cleared.long ∙ long;
  at = λ i h. cleared.zeros i (omega arith) ∙ sym (code_none (λ k. is_up (f i k)));
}

pub row_packed :
    {n k w : ℕ} {f : ℕ → Pattern} {t : ℕ → Bool} {xs ys : List ℕ} → Columns n k f xs → w ≡ 2 ^ k
    → Filled 0 (λ i. get_or xs i 0 + bit (t i) * w) (length xs) xs ys → ((i : ℕ) → i < n → t i ≡ is_up (f i k)) → Columns n (k + 1) f ys
row_packed {n} {k} {w} {f} {t} {xs} {ys} was e added same = record { long = added.long ∙ was.long; at = at }
  where
    at : (i : ℕ) → i < n → get_or ys i 0 ≡ column_of (k + 1) (f i)
    at i h = added.done i (omega (arith, was.long)) ∙ rw (was.at i h, same i h, e, code_more)

-- the row from a on, read through the part that is lent
pub row_test :
    (xs : List ℤ) (a n i : ℕ) → i < n
    → is_up (get_or (take (a + n - a) (drop a xs)) i (pos 0)) ≡ is_up (get_or xs (a + i) (pos 0))
row_test xs a n i h =
    let l : i < a + n - a = omega arith in
    rw (get_or-take (a + n - a) (drop a xs) i (pos 0) l, get_or-drop)

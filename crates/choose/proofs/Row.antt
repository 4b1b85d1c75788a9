-- A component's row of places, lent as a part of the permutations.
use Prim.Native.Nat.{ℕ, ◌+◌, ◌*◌, ◌-◌, ◌≤◌, ◌<◌}
use mathlib.Core.Path.{◌≡◌, ◌∙◌, ap}
use mathlib.Core.List.{List}
use native.Mathlib.Omega.{arith}
use lib.ListN.{length, get_or, take, drop, length-take, length-drop}
use lib.Bits.{bit_xor}
use lib.Seq.{get_or-take, get_or-drop}
use borrow.Author.Tests.{eq-eqb, ne_eqb}
use Rattle.paper.specs.declared.Form.{Form}
use Rattle.paper.specs.Panel.Takes.{entry}
use Rattle.columns.specs.Column.{shown, column_of, column_ext}
use Rattle.columns.specs.Rows.{Places}
use Rattle.choose.specs.Chosen.{permuted_at}

-- the m places from a on
module _ (m a : ℕ) (perms : List ℕ) (fits : a + m ≤ length perms) where
  part_at : (k : ℕ) → k < m → get_or (take (a + m - a) (drop a perms)) k 0 ≡ get_or perms (a + k) 0
  part_at k h = let l : k < a + m - a = omega arith in rw (get_or-take (a + m - a) (drop a perms) k 0 l, get_or-drop a perms k 0)

  pub part_places : m ≤ 8 → ((x : ℕ) → x < length perms → get_or perms x 0 < m) → Places m (take (a + m - a) (drop a perms))
  part_places few places = record {
    few = few;
    long = simp (length-take, length-drop) (omega arith);
    below = λ k h. rw (part_at k h) (places (a + k) (omega arith));
  }

  pub part_column : (x : ℕ) → column_of m (λ k. shown x (get_or (take (a + m - a) (drop a perms)) k 0)) ≡ column_of m (λ k. shown x (get_or perms (a + k) 0))
  part_column x = column_ext m _ _ (λ k h. ap (shown x) (part_at k h))

-- the start of the row, by the label as the code has it
pub row_at : (form : Form) (r m : ℕ) {label at : ℕ} → label ≡ r → at ≡ entry form label → at * m ≡ entry form r * m
row_at form r m e q = rw (q, e)

module _ (form : Form) (m gauge : ℕ) (reached labels perms cols : List ℕ) (i : ℕ) where
  -- a reached site's new column, from the row that starts at a
  pub moved : (a x r : ℕ) → get_or reached i 0 ≡ 1 → a ≡ entry form (get_or labels i 0) * m → x ≡ get_or cols i 0 → a + m ≤ length perms
      → r ≡ column_of m (λ k. shown (bit_xor x gauge) (get_or (take (a + m - a) (drop a perms)) k 0))
      → bit_xor r gauge ≡ permuted_at form m gauge reached labels perms cols i
  moved a x r on e q fits h =
      rw (eq-eqb (get_or reached i 0) 1 on, ← e, ← q) (ap (λ (y : ℕ). bit_xor y gauge) (h ∙ part_column m a perms fits (bit_xor x gauge)))

  -- any other keeps its column
  pub kept : (get_or reached i 0 ≡ 1 → ⊥) → get_or cols i 0 ≡ permuted_at form m gauge reached labels perms cols i
  kept off = rw (ne_eqb (get_or reached i 0) 1 off)

-- Rows written from columns: there are such, and from the columns that they have they are what they were.
use Rattle.std.specs.Prelude.{ℕ, ◌+◌, ◌*◌, ◌/◌, ◌%◌, ◌<◌, ◌≡◌, refl, ◌⊎◌, ◌≢◌, List, length, get_or, ℤ, pos}
use Rattle.std.proofs.Common.{sym, ◌∙◌, ap, inl, inr, arith}
use Rattle.std.proofs.Math.Decide.{dec_lt}
use Rattle.std.proofs.Math.ListN.{get_or-eq_default}
use Rattle.lemmas.specs.Cells.{row_of, column_of_lem, tabulate, length_tabulate, tabulate_at}
use Rattle.lemmas.specs.Places.{Placed, Unplaced, place}
use Rattle.paper.specs.declared.Group.{Group}
use Rattle.paper.specs.Panel.Input.{member, spin, pattern_of}
use Rattle.paper.specs.Refusal.Rules.{Distinct}
use Rattle.columns.specs.Column.{shown, Columns, Inside, Spinning}
use Rattle.columns.specs.Rows.{Written}
use Rattle.columns.specs.Laws.{columns_shown}
use Rattle.columns.specs.Determined.{write_rows_determined}

module _ {n : ℕ} {g : Group} {xs : List ℤ} {cols : List ℕ} (w : Columns n g.len (pattern_of n g xs) cols) (spins : Spinning n g xs) where
  pub own_written : Written n g.len g cols xs xs
  own_written = record {
    long = refl;
    group = λ i k h l. sym (columns_shown w i k h l (spins i k h l));
    others = λ i t h o. refl;
    empty = λ _. refl;
  }

  pub written_same : {ys : List ℤ} → Written n g.len g cols xs ys → ys ≡ xs
  written_same {ys} o = write_rows_determined n g cols xs ys xs o own_written

module _ (n : ℕ) (g : Group) (new : List ℕ) (xs : List ℤ) where
  abbrev value : (t i : ℕ) → Placed g.len (member g) t ⊎ Unplaced g.len (member g) t → ℤ
  value t i (inl r) = shown (get_or new i 0) r.0
  value t i (inr r) = spin n xs t i

  abbrev cell : ℕ → ℤ
  cell x = value (x / n) (x % n) (place g.len (member g) (x / n))

  abbrev pub rewritten : List ℤ
  rewritten = tabulate (length xs) cell

  -- what stands in row t at site i
  there : (t i : ℕ) → i < n → t * n + i < length xs → spin n rewritten t i ≡ value t i (place g.len (member g) t)
  there t i h l =
      tabulate_at (length xs) cell (t * n + i) l
      ∙ (λ j. value (row_of n t i h j) (column_of_lem n t i h j) (place g.len (member g) (row_of n t i h j)))

  module _ (some : 0 < n) (inside : Inside n g xs) (distinct : Distinct g.len (member g)) where
    own : (i k : ℕ) → i < n → k < g.len → pattern_of n g rewritten i k ≡ shown (get_or new i 0) k
    own i k h l = there (member g k) i h (omega (arith, inside k l)) ∙ go (place g.len (member g) (member g k))
      where
        go : (r : Placed g.len (member g) (member g k) ⊎ Unplaced g.len (member g) (member g k)) → value (member g k) i r ≡ shown (get_or new i 0) k
        go (inl r) = ap (shown (get_or new i 0)) (distinct r.0 k r.1 l (sym r.2))
        go (inr r) = absurd (r k l refl)

    other : (i t : ℕ) → i < n → ((k : ℕ) → k < g.len → t ≢ member g k) → spin n rewritten t i ≡ spin n xs t i
    other i t h o = go (dec_lt (t * n + i) (length xs))
      where
        at : (r : Placed g.len (member g) t ⊎ Unplaced g.len (member g) t) → value t i r ≡ spin n xs t i
        at (inl r) = absurd (o r.0 r.1 r.2)
        at (inr r) = refl

        go : Dec (t * n + i < length xs) → spin n rewritten t i ≡ spin n xs t i
        go (yes l) = there t i h l ∙ at (place g.len (member g) t)
        go (no l) =
            get_or-eq_default rewritten (pos 0) (omega (arith, length_tabulate (length xs) cell))
            ∙ sym (get_or-eq_default xs (pos 0) (omega arith))

    pub is_written : Written n g.len g new xs rewritten
    is_written = record { long = length_tabulate (length xs) cell; group = own; others = other; empty = λ e. absurd (omega (arith, e)) }

-- Numbers and their rows: which rows are permutations, which is the identity, and that all permutations have numbers.
use Rattle.std.specs.Prelude.{ℕ, ◌+◌, ◌-◌, ◌*◌, ◌/◌, ◌%◌, ◌≤◌, ◌<◌, min, ◌≡◌, refl, ◌↔◌, ◌≢◌, List, length, get_or, drop}
use Rattle.std.proofs.Common.{sym, ◌∙◌, ap, subst, mul_assoc, arith, lt-ltb, le-ltb, length-take, length-drop, ext_get_or, get_or-take, get_or-drop}
use Rattle.std.proofs.Math.Decide.{dec_lt}
use Rattle.lemmas.specs.Cells.{table, length_table, table_at, row_of, column_of_lem}
use Rattle.paper.specs.Refusal.Rules.{Permutes, NotIdentity}
use Rattle.paper.specs.Answer.Task.{part}
use Rattle.orders.specs.Table.{row, orders}
use Rattle.orders.specs.Words.{Agree}
use Rattle.orders.specs.Rank.{rank, rank_most, rank_tells}
use Rattle.orders.specs.Once.{rank_of_row}
use Rattle.orders.specs.Check.{orders_ruled}
use Rattle.orders.proofs.Laws.{row_permutes, moves_not_zero, not_zero_moves}
use Rattle.spelling.specs.Rows.{spelt, rows_of, length_rows}

-- ---- rows and numbers

-- a number up to 119 is spelt as its row in the table
pub spelt_row : (v k : ℕ) → v < 120 → spelt v k ≡ row v k
unfolding spelt
spelt_row v k h = rw (lt-ltb v 120 h) refl

pub rows_at : (vs : List ℕ) (r k : ℕ) → r < length vs → k < 5 → get_or (rows_of vs) (r * 5 + k) 0 ≡ spelt (get_or vs r 0) k
unfolding rows_of
rows_at vs r k h l =
    table_at (length vs * 5) (λ x. spelt (get_or vs (x / 5) 0) (x % 5)) (r * 5 + k) (omega arith)
    ∙ rw (row_of 5 r k l, column_of_lem 5 r k l) refl

-- the bytes xs have the row of each number of vs, one after another
pub record Rows (vs xs : List ℕ) : Type 0 where
  pub long : length xs ≡ length vs * 5
  pub small : (r : ℕ) → r < length vs → get_or vs r 0 < 120
  pub each : (r k : ℕ) → r < length vs → k < 5 → get_or xs (r * 5 + k) 0 ≡ row (get_or vs r 0) k

-- then they are what the numbers are spelt as
pub rows_are : (vs xs : List ℕ) → Rows vs xs → rows_of vs ≡ xs
rows_are vs xs w = ext_get_or 0 (rows_of vs) xs (length_rows vs ∙ sym w.long) (λ x h. at x (rw (length_rows vs) at h))
  where
    at : (x : ℕ) → x < length vs * 5 → get_or (rows_of vs) x 0 ≡ get_or xs x 0
    at x h =
        let q : x / 5 < length vs = omega arith in
        let k : x % 5 < 5 = omega arith in
        let is : x / 5 * 5 + x % 5 ≡ x = omega arith in
        subst (λ (y : ℕ). get_or (rows_of vs) y 0 ≡ get_or xs y 0) is
        (rows_at vs (x / 5) (x % 5) q k ∙ (spelt_row (get_or vs (x / 5) 0) (x % 5) (w.small (x / 5) q) ∙ sym (w.each (x / 5) (x % 5) q k)))

-- and all rows that are permutations have numbers
abbrev pub numbers_of : ℕ → List ℕ → List ℕ
numbers_of m xs = table m (λ r. rank (λ k. get_or xs (r * 5 + k) 0))

pub numbered : (m : ℕ) (xs : List ℕ)
    → length xs ≡ m * 5
    → ((r : ℕ) → r < m → Permutes 5 (λ k. get_or xs (r * 5 + k) 0))
    → Rows (numbers_of m xs) xs
numbered m xs e h =
    record {
      long = rw (length_table m f) e;
      small = λ r l. let q : r < m = rw (length_table m f) at l in rw (table_at m f r q) (low r);
      each = λ r k l o. let q : r < m = rw (length_table m f) at l in rw (table_at m f r q) (sym (tells r q k o));
    }
  where
    f : ℕ → ℕ
    f r = rank (λ k. get_or xs (r * 5 + k) 0)

    low : (r : ℕ) → f r < 120
    low r = omega (arith, rank_most (λ k. get_or xs (r * 5 + k) 0))

    tells : (r : ℕ) → r < m → Agree 5 (row (f r)) (λ k. get_or xs (r * 5 + k) 0)
    tells r l = rank_tells (row (f r)) (λ k. get_or xs (r * 5 + k) 0) (row_permutes (f r) (low r)) (h r l) (rank_of_row orders orders_ruled (f r) (low r))

-- ---- one row

abbrev pub row_at : List ℕ → ℕ → ℕ → ℕ → ℕ
row_at xs m r k = get_or xs (r * m + k) 0

spelt_five : (v k : ℕ) → 120 ≤ v → spelt v k ≡ 5
unfolding spelt
spelt_five v k h = rw (le-ltb v 120 h) refl

module _ (vs : List ℕ) (r : ℕ) (inside : r < length vs) where
  is_row : get_or vs r 0 < 120 → (k : ℕ) → k < 5 → row_at (rows_of vs) 5 r k ≡ row (get_or vs r 0) k
  is_row small k l = rows_at vs r k inside l ∙ spelt_row (get_or vs r 0) k small

  pub permutes_small : Permutes 5 (row_at (rows_of vs) 5 r) ↔ (get_or vs r 0 < 120)
  permutes_small = (λ p. to p (dec_lt (get_or vs r 0) 120), from)
    where
      to : Permutes 5 (row_at (rows_of vs) 5 r) → Dec (get_or vs r 0 < 120) → get_or vs r 0 < 120
      to p (yes h) = h
      to p (no h) =
          let is : row_at (rows_of vs) 5 r 0 ≡ 5 = rows_at vs r 0 inside (omega arith) ∙ spelt_five (get_or vs r 0) 0 (omega arith) in
          absurd (omega (arith, p.within 0 (omega arith), is))

      from : get_or vs r 0 < 120 → Permutes 5 (row_at (rows_of vs) 5 r)
      from h =
          let p = row_permutes (get_or vs r 0) h in
          record {
            within = λ k l. rw (is_row h k l) (p.within k l);
            distinct = λ a b la lb e. p.distinct a b la lb (sym (is_row h a la) ∙ (e ∙ is_row h b lb));
          }

  pub moves_some : get_or vs r 0 < 120 → NotIdentity 5 (row_at (rows_of vs) 5 r) ↔ (get_or vs r 0 ≢ 0)
  moves_some h = (
    λ n. moves_not_zero (get_or vs r 0) (record { place = n.place; below = n.below; moved = λ e. n.moved (is_row h n.place n.below ∙ e) }),
    λ n. back (not_zero_moves (get_or vs r 0) h n),
  )
    where
      back : NotIdentity 5 (row (get_or vs r 0)) → NotIdentity 5 (row_at (rows_of vs) 5 r)
      back m = record { place = m.place; below = m.below; moved = λ e. m.moved (sym (is_row h m.place m.below) ∙ e) }

-- ---- a part

pub rows_part : (vs : List ℕ) (k m : ℕ) → part k (m * 5) (rows_of vs) ≡ rows_of (part k m vs)
rows_part vs k m = ext_get_or 0 (part k (m * 5) (rows_of vs)) (rows_of (part k m vs)) long (λ x h. at x (omega (arith, h)))
  where
    here : length (part k (m * 5) (rows_of vs)) ≡ min (m * 5) (length vs * 5 - k * m * 5)
    here = length-take (m * 5) (drop (k * (m * 5)) (rows_of vs)) ∙ rw (length-drop (k * (m * 5)) (rows_of vs), length_rows vs, mul_assoc k m 5) refl

    there : length (part k m vs) ≡ min m (length vs - k * m)
    there = length-take m (drop (k * m) vs) ∙ rw (length-drop (k * m) vs) refl

    long : length (part k (m * 5) (rows_of vs)) ≡ length (rows_of (part k m vs))
    long = rw (here, length_rows (part k m vs), there) (omega arith)

    at : (x : ℕ) → x < length (part k (m * 5) (rows_of vs)) → get_or (part k (m * 5) (rows_of vs)) x 0 ≡ get_or (rows_of (part k m vs)) x 0
    at x h =
        let a : x < m * 5 = omega (arith, here) in
        let low : k * m + x / 5 < length vs = omega (arith, here) in
        let inside : x / 5 < length (part k m vs) = omega (arith, here, there) in
        let from : k * (m * 5) + x ≡ (k * m + x / 5) * 5 + x % 5 = omega (arith, mul_assoc k m 5) in
        let to : x / 5 * 5 + x % 5 ≡ x = omega arith in
        get_or-take (m * 5) (drop (k * (m * 5)) (rows_of vs)) x 0 a
        ∙ (get_or-drop (k * (m * 5)) (rows_of vs) x 0
        ∙ (ap (λ (y : ℕ). get_or (rows_of vs) y 0) from
        ∙ (rows_at vs (k * m + x / 5) (x % 5) low (omega arith)
        ∙ (ap (λ (v : ℕ). spelt v (x % 5)) (sym (get_or-take m (drop (k * m) vs) (x / 5) 0 (omega arith) ∙ get_or-drop (k * m) vs (x / 5) 0))
        ∙ (sym (rows_at (part k m vs) (x / 5) (x % 5) inside (omega arith))
        ∙ ap (λ (y : ℕ). get_or (rows_of (part k m vs)) y 0) to)))))

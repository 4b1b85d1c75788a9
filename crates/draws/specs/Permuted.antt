-- Laws of permutations: a row that is drawn is one, Wolff's is not the identity, and so filled rows pass test 9. The same of filled numbers.
use Rattle.std.specs.Prelude.{◌≡◌, ℕ, zero, suc, ◌+◌, ◌-◌, ◌*◌, ◌/◌, ◌<◌, ◌≤◌, Bool, true, false, cond, ◌&&◌, List, length, ◌==◌, ◌≢◌, slice_index, slice_index_or, slice_set, refl}
use Rattle.std.proofs.Common.{sym, ap, ◌∙◌, arith, suc-mul, mul-le-mul_right, lt-ltb, length-set, get_or-set_same, get_or-set_other}
use Rattle.std.proofs.Math.Decide.{ℕ_discrete}
use Rattle.std.proofs.lemmas.Bool.{eqb-false}
use Rattle.std.proofs.Math.Arith.{digits_div, digits_mod}
use Rattle.paper.specs.Refusal.Rule.{Rule}
use Rattle.paper.specs.Refusal.Rules.{Permutes, NotIdentity}
use Rattle.draws.specs.declared.Source.{Source}
use Rattle.draws.specs.Answer.{Row, Left}
use Rattle.draws.specs.Draw.{number}
use Rattle.draws.specs.Rows.{first_row, swapped, shuffled, permuted, is_identity, retried, row_by, refused_row, Members}
use Rattle.draws.specs.Fill.{stop, go_on, go_down, RowsGo, entry_at, number_at, number_from_one, number_rules, Written, Fills}
use Rattle.draws.specs.Promise.{NumbersFilled, WolffNumbersFilled}
use Rattle.draws.specs.Numbers.{tried_below}

abbrev pub at : List ℕ → ℕ → ℕ
at xs k = slice_index xs k

-- ---- two places exchanged

-- where the place k of an exchanged row comes from
data From (i j k : ℕ) : ℕ → Type 0 where
  at_j : k ≡ j → From i j k i
  at_i : (k ≢ j) → k ≡ i → From i j k j
  off : (k ≢ j) → (k ≢ i) → From i j k k

record Comes (xs : List ℕ) (i j k : ℕ) : Type 0 where
  place : ℕ
  why : From i j k place
  same : at (swapped xs i j) k ≡ at xs place

module _ (xs : List ℕ) (i j : ℕ) (li : i < length xs) (lj : j < length xs) where
  comes : (k : ℕ) → Comes xs i j k
  comes k = go (ℕ_discrete k j) (ℕ_discrete k i)
    where
      go : Dec (k ≡ j) → Dec (k ≡ i) → Comes xs i j k
      go (yes e) d = record {
        place = i;
        why = at_j e;
        same = rw e (get_or-set_same (slice_set xs i (slice_index xs j)) j (slice_index xs i) 0 (simp length-set lj));
      }
      go (no n) (yes e) = record {
        place = j;
        why = at_i n e;
        same = get_or-set_other (slice_set xs i (slice_index xs j)) j k (slice_index xs i) 0 n ∙ rw e (get_or-set_same xs i (slice_index xs j) 0 li);
      }
      go (no n) (no m) = record {
        place = k;
        why = off n m;
        same = get_or-set_other (slice_set xs i (slice_index xs j)) j k (slice_index xs i) 0 n ∙ get_or-set_other xs i k (slice_index xs j) 0 m;
      }

from_below : {i j k p n : ℕ} → From i j k p → i < n → j < n → k < n → p < n
from_below (at_j e) li lj lk = li
from_below (at_i n e) li lj lk = lj
from_below (off n m) li lj lk = lk

from_one : {i j a b p q : ℕ} → From i j a p → From i j b q → p ≡ q → a ≡ b
from_one (at_j e) (at_j f) h = omega arith
from_one (at_j e) (at_i n f) h = omega arith
from_one (at_j e) (off n m) h = omega arith
from_one (at_i n e) (at_j f) h = omega arith
from_one (at_i n e) (at_i m f) h = omega arith
from_one (at_i n e) (off m o) h = omega arith
from_one (off n m) (at_j f) h = omega arith
from_one (off n m) (at_i o f) h = omega arith
from_one (off n m) (off o p) h = h

swapped_permutes : (n : ℕ) (xs : List ℕ) (i j : ℕ) → n ≤ length xs → i < n → j < n → Permutes n (at xs) → Permutes n (at (swapped xs i j))
swapped_permutes n xs i j l li lj p = record {
  within = λ k q. let c = comes xs i j (omega arith) (omega arith) k in rw c.same (p.within c.place (from_below c.why li lj q));
  distinct = λ a b qa qb e.
      let c = comes xs i j (omega arith) (omega arith) a in
      let d = comes xs i j (omega arith) (omega arith) b in
      from_one c.why d.why
      (p.distinct c.place d.place (from_below c.why li lj qa) (from_below d.why li lj qb) (sym c.same ∙ (e ∙ d.same)));
}

-- ---- the row that is drawn

pub first_at : (n k : ℕ) → k < n → n ≤ 8 → at (first_row n) k ≡ k
first_at n zero l t = rw (lt-ltb 0 n l)
first_at n (suc zero) l t = rw (lt-ltb 1 n l)
first_at n (suc (suc zero)) l t = rw (lt-ltb 2 n l)
first_at n (suc (suc (suc zero))) l t = rw (lt-ltb 3 n l)
first_at n (suc (suc (suc (suc zero)))) l t = rw (lt-ltb 4 n l)
first_at n (suc (suc (suc (suc (suc zero))))) l t = rw (lt-ltb 5 n l)
first_at n (suc (suc (suc (suc (suc (suc zero)))))) l t = rw (lt-ltb 6 n l)
first_at n (suc (suc (suc (suc (suc (suc (suc zero))))))) l t = rw (lt-ltb 7 n l)
first_at n (suc (suc (suc (suc (suc (suc (suc (suc k)))))))) l t = absurd (omega arith)

first_permutes : (n : ℕ) → n ≤ 8 → Permutes n (at (first_row n))
first_permutes n t = record {
  within = λ k l. rw (first_at n k l t) l;
  distinct = λ a b la lb e. sym (first_at n a la t) ∙ (e ∙ first_at n b lb t);
}

unless_refused :
    (lent : Source) (P : Row → Type 0) {r : Row} (b : Bool) → (r.refusal ≡ 0 → P r) → (cond b r (refused_row lent)).refusal ≡ 0
    → P (cond b r (refused_row lent))
unless_refused lent P true f h = f h
unless_refused lent P false f h = absurd (omega arith)

shuffled_permutes :
    (lent : Source) (n i : ℕ) (xs : List ℕ) (s : Source) → i < n → n ≤ length xs → Permutes n (at xs) → (shuffled lent i xs s).refusal ≡ 0
    → Permutes n (at (shuffled lent i xs s).row)
unfolding shuffled
shuffled_permutes lent n zero xs s l t p e = p
shuffled_permutes lent n (suc i) xs s l t p e =
    unless_refused lent (λ (r : Row). Permutes n (at r.row)) ((number (suc i + 1) s).refusal == 0)
    (λ h. shuffled_permutes lent n i (swapped xs (suc i) (number (suc i + 1) s).value) (number (suc i + 1) s).source (omega arith)
    (simp length-set t) (swapped_permutes n xs (suc i) (number (suc i + 1) s).value t l below p) h)
    e
  where
    below : (number (suc i + 1) s).value < n
    below = omega (arith, tried_below s 64 (suc i + 1) s (omega arith))

pub permuted_permutes : (n : ℕ) (s : Source) → Members n → (permuted n s).refusal ≡ 0 → Permutes n (at (permuted n s).row)
permuted_permutes n s m e = shuffled_permutes s n (n - 1) (first_row n) s (omega (arith, m.low)) m.top (first_permutes n m.top) e

pub not_identity_lem : (n : ℕ) (xs : List ℕ) → is_identity n xs ≡ false → NotIdentity n (at xs)
unfolding is_identity
not_identity_lem zero xs e = absurd (let z : ◌≡◌ {A = ℕ} 0 1 = cc in omega arith)
not_identity_lem (suc n) xs e = side (is_identity n xs) refl e (λ h. not_identity_lem n xs h)
  where
    side : (b : Bool) → is_identity n xs ≡ b → (b && at xs n == n) ≡ false → (is_identity n xs ≡ false → NotIdentity n (at xs))
        → NotIdentity (suc n) (at xs)
    side true h f g = record { place = n; below = omega arith; moved = eqb-false (at xs n) n f }
    side false h f g = let m = g h in record { place = m.place; below = omega (arith, m.below); moved = m.moved }

-- a permutation, and where Wolff asks for it another than the identity
pub record Drawable (moving : Bool) (n : ℕ) (p : ℕ → ℕ) : Type 0 where
  pub permutes : Permutes n p
  pub moves : moving ≡ true → NotIdentity n p

moved :
    {n : ℕ} (r again : Row) (c : Bool) → is_identity n r.row ≡ c → (r.refusal ≡ 0 → Permutes n (at r.row))
    → (again.refusal ≡ 0 → Drawable true n (at again.row)) → (cond c again r).refusal ≡ 0 → Drawable true n (at (cond c again r).row)
moved r again true i p f g = f g
moved {n} r again false i p f g = record { permutes = p g; moves = λ _. not_identity_lem n r.row i }

retried_drawable :
    (lent : Source) (k n : ℕ) (s : Source) → Members n → (retried lent k n s).refusal ≡ 0 → Drawable true n (at (retried lent k n s).row)
unfolding retried
retried_drawable lent zero n s m e = absurd (omega arith)
retried_drawable lent (suc k) n s m e =
    unless_refused lent (λ (r : Row). Drawable true n (at r.row)) ((permuted n s).refusal == 0)
    (λ h. moved (permuted n s) (retried lent k n (permuted n s).source) (is_identity n (permuted n s).row) refl (λ g. permuted_permutes n s m g)
    (λ g. retried_drawable lent k n (permuted n s).source m g) h)
    e

pub row_drawable : (moving : Bool) (n : ℕ) (s : Source) → Members n → (row_by moving n s).refusal ≡ 0 → Drawable moving n (at (row_by moving n s).row)
row_drawable true n s m e = retried_drawable s 64 n s m e
row_drawable false n s m e = record { permutes = permuted_permutes n s m e; moves = λ h. absurd (let z : ◌≡◌ {A = ℕ} 0 1 = cc in omega arith) }

-- ---- the rows that are filled

pub entry_of :
    (moving : Bool) (n : ℕ) (s : Source) (i k : ℕ) → k < n
    → slice_index (row_by moving n (stop (go_down moving n) i s)).row k ≡ entry_at moving n s (i * n + k)
entry_of moving n s i k l =
    ap (λ (x : ℕ). slice_index (row_by moving n (stop (go_down moving n) x s)).row k) (sym (digits_div i l))
    ∙ ap (λ (x : ℕ). slice_index (row_by moving n (stop (go_down moving n) ((i * n + k) / n) s)).row x) (sym (digits_mod i l))

pub row_inside : (i k n : ℕ) → i < k → i * n + n ≤ k * n
row_inside i k n l = omega (arith, mul-le-mul_right n l, suc-mul i n)

-- with the members' count n, k rows filled from s: each is what test 9 asks
module _ (moving : Bool) (n k : ℕ) (s t u : Source) (xs ys : List ℕ) (m : Members n) (g : RowsGo moving n k s) where
  pub filled_rows :
      Written (entry_at moving n s) t xs u ys → length xs ≡ k * n → (i : ℕ) → i < k → Drawable moving n (λ j. slice_index ys (i * n + j))
  filled_rows w long i l = record {
    permutes = record {
      within = λ a la. rw (same a la) (row.permutes.within a la);
      distinct = λ a b la lb e. row.permutes.distinct a b la lb (sym (same a la) ∙ (e ∙ same b lb));
    };
    moves = λ h. let p = row.moves h in record { place = p.place; below = p.below; moved = λ e. p.moved (sym (same p.place p.below) ∙ e) };
  }
    where
      row : Drawable moving n (at (row_by moving n (stop (go_down moving n) i s)).row)
      row = row_drawable moving n (stop (go_down moving n) i s) m (g i l)

      same : (a : ℕ) → a < n → slice_index ys (i * n + a) ≡ at (row_by moving n (stop (go_down moving n) i s)).row a
      same a la = w.each (i * n + a) (omega (arith, row_inside i k n l, long)) ∙ sym (entry_of moving n s i a la)

-- ---- the numbers that are filled

written :
    (rs : List Rule) (at : ℕ → ℕ) (t s : Source) (xs : List ℕ) (r : ℕ) {u : Source} {ys : List ℕ} → Fills rs at t s xs r u ys → r ≡ 0
    → Written at t xs u ys
written rs at t s xs zero f e = f.written
written rs at t s xs (suc c) f e = absurd (omega arith)

-- the number of a permutation of five, and where Wolff asks for it another than the identity's
pub record DrawableNumber (moving : Bool) (v : ℕ) : Type 0 where
  pub small : v < 120
  pub moves : moving ≡ true → v ≢ 0

module _ (s : Source) (xs : List ℕ) (l : Left) (ys : List ℕ) (e : l.refusal ≡ 0) where
  pub filled_numbers : NumbersFilled s xs l ys → (j : ℕ) → j < length ys → DrawableNumber false (slice_index ys j)
  filled_numbers f j h = record {
    small = rw is (tried_below from 64 120 from (omega arith));
    moves = λ p. absurd (let z : ◌≡◌ {A = ℕ} 0 1 = cc in omega arith);
  }
    where
      from : Source
      from = stop (go_on (number 120)) j s

      is : slice_index_or ys j 0 ≡ (number 120 from).value
      is =
          let w = written (number_rules true 256 120 (length xs) s) (number_at (number 120) s) (stop (go_on (number 120)) (length xs) s) s xs l.refusal f e in
          w.each j (omega (arith, w.long))

  pub filled_wolff_numbers : WolffNumbersFilled s xs l ys → (j : ℕ) → j < length ys → DrawableNumber true (slice_index ys j)
  filled_wolff_numbers f j h = record { small = omega (arith, is, tried_below from 64 119 from (omega arith)); moves = λ _ z. omega (arith, is) }
    where
      from : Source
      from = stop (go_on (number_from_one 119)) j s

      is : slice_index_or ys j 0 ≡ (number 119 from).value + 1
      is =
          let w = written (number_rules true 119 119 (length xs) s) (number_at (number_from_one 119) s) (stop (go_on (number_from_one 119)) (length xs) s) s xs l.refusal f e in
          w.each j (omega (arith, w.long))

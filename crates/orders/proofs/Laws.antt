-- Number to row and row to number undo each other; 0 is the identity, and no other number is.
use Rattle.std.specs.Prelude.{ℕ, zero, suc, ◌<◌, ◌≡◌, refl, ◌⊎◌, List, length}
use Rattle.std.proofs.Common.{sym, ◌∙◌, ap, inl, inr, arith, ext_get_or}
use Rattle.std.proofs.Math.Decide.{ℕ_discrete}
use Rattle.paper.specs.Refusal.Rule.{broken_not_kept}
use Rattle.paper.specs.Refusal.Rules.{Permutes, NotIdentity}
use Rattle.orders.specs.declared.Numbered.{Numbered}
use Rattle.orders.specs.declared.Numbered.TheVariants.{Refused, Number}
use Rattle.orders.specs.Table.{row, orders}
use Rattle.orders.specs.Words.{Agree}
use Rattle.orders.specs.Rank.{rank, rank_most, rank_same, rank_tells}
use Rattle.orders.specs.Once.{Once, rank_of_row, each_once}
use Rattle.orders.specs.Check.{orders_ruled}
use Rattle.orders.specs.Answers.{row_of, row_rules, RowAnswers, Stands, word, number_rules, NumberAnswers}

pub row_permutes : (r : ℕ) → r < 120 → Permutes 5 (row r)
row_permutes = orders_ruled.permutes

-- each permutation of five stands in the table exactly once
pub orders_once : (p : ℕ → ℕ) → Permutes 5 p → Once orders p
orders_once = each_once orders orders_ruled

pub rows_differ : (r s : ℕ) → r < 120 → s < 120 → Agree 5 (row r) (row s) → r ≡ s
rows_differ r s lr ls a =
    sym (rank_of_row orders orders_ruled r lr)
    ∙ (rank_same (row r) (row s) (row_permutes r lr) (row_permutes s ls) a ∙ rank_of_row orders orders_ruled s ls)

-- a row's number is its rank
pub rank_stands : (xs : List ℕ) → Permutes 5 (word xs) → Stands xs (rank (word xs))
rank_stands xs h =
    let low : rank (word xs) < 120 = omega (arith, rank_most (word xs)) in
    record {
      below = low;
      is = rank_tells (row (rank (word xs))) (word xs) (row_permutes (rank (word xs)) low) h (rank_of_row orders orders_ruled (rank (word xs)) low);
    }

-- the list of a row has its entries
pub row_at : (r k : ℕ) → k < 5 → word (row_of r) k ≡ row r k
row_at r zero l = refl
row_at r (suc zero) l = refl
row_at r (suc (suc zero)) l = refl
row_at r (suc (suc (suc zero))) l = refl
row_at r (suc (suc (suc (suc zero)))) l = refl
row_at r (suc (suc (suc (suc (suc k))))) l = absurd (omega arith)

row_word : (r : ℕ) → r < 120 → Permutes 5 (word (row_of r))
row_word r l = record {
  within = λ k a. rw (row_at r k a) ((row_permutes r l).within k a);
  distinct = λ a b la lb e. (row_permutes r l).distinct a b la lb (sym (row_at r a la) ∙ (e ∙ row_at r b lb));
}

-- what `row_of` writes for r, `number_of` answers with r
module _ (r : ℕ) (xs ys : List ℕ) (w : RowAnswers r xs 0 ys) where
  written : (k : ℕ) → k < 5 → word ys k ≡ row r k
  written k l = rw w.is (row_at r k l)

  permuted : Permutes 5 (word ys)
  permuted = rw w.is (row_word r w.valid.1.0)

  pub number_of_row : (a : Numbered) → NumberAnswers ys a → a ≡ Number r
  number_of_row (Refused c) n = absurd (broken_not_kept (number_rules ys) c n (ap length w.is, (permuted, tt)))
  number_of_row (Number s) n =
      ap Number (rows_differ s r n.stands.below w.valid.1.0 (λ k l. n.stands.is k l ∙ written k l))

-- and where `number_of` answers with r, `row_of` takes r and writes that row into any slice of five bytes
module _ (xs : List ℕ) (r : ℕ) (n : NumberAnswers xs (Number r)) (zs ys : List ℕ) (long : length zs ≡ 5) where
  pub row_of_number : (c : ℕ) → RowAnswers r zs c ys → (c ≡ 0) × (ys ≡ xs)
  row_of_number zero w = (refl, w.is ∙ ext_get_or 0 (row_of r) xs (sym n.valid.0) (λ k l. row_at r k l ∙ n.stands.is k l))
  row_of_number (suc c) w = absurd (broken_not_kept (row_rules r zs) (suc c) w.broken (long, (n.stands.below, tt)))

-- ---- the identity

pub zero_is_identity : (k : ℕ) → k < 5 → row 0 k ≡ k
unfolding orders
zero_is_identity zero l = refl
zero_is_identity (suc zero) l = refl
zero_is_identity (suc (suc zero)) l = refl
zero_is_identity (suc (suc (suc zero))) l = refl
zero_is_identity (suc (suc (suc (suc zero)))) l = refl
zero_is_identity (suc (suc (suc (suc (suc k))))) l = absurd (omega arith)

moved_or_still : (p : ℕ → ℕ) (m : ℕ) → NotIdentity m p ⊎ Agree m p (λ k. k)
moved_or_still p zero = inr (λ k l. absurd (omega arith))
moved_or_still p (suc m) = go (moved_or_still p m) (ℕ_discrete (p m) m)
  where
    go : NotIdentity m p ⊎ Agree m p (λ k. k) → Dec (p m ≡ m) → NotIdentity (suc m) p ⊎ Agree (suc m) p (λ k. k)
    go (inl n) d = inl (record { place = n.place; below = omega (arith, n.below); moved = n.moved })
    go (inr a) (no n) = inl (record { place = m; below = omega arith; moved = n })
    go (inr a) (yes e) = inr (λ k l. last k l (ℕ_discrete k m))
      where
        last : (k : ℕ) → k < suc m → Dec (k ≡ m) → p k ≡ k
        last k l (yes x) = rw x e
        last k l (no x) = a k (omega arith)

-- so a row moves something just if its number is not 0
pub moves_not_zero : (r : ℕ) → NotIdentity 5 (row r) → r ≡ 0 → ⊥
moves_not_zero r m e = m.moved (rw e (zero_is_identity m.place m.below))

pub not_zero_moves : (r : ℕ) → r < 120 → (r ≡ 0 → ⊥) → NotIdentity 5 (row r)
not_zero_moves r l n = go (moved_or_still (row r) 5)
  where
    go : NotIdentity 5 (row r) ⊎ Agree 5 (row r) (λ k. k) → NotIdentity 5 (row r)
    go (inl m) = m
    go (inr a) = absurd (n (rows_differ r 0 l (omega arith) (λ k b. a k b ∙ sym (zero_is_identity k b))))

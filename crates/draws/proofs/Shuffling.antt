-- One turn of the loop that exchanges places, and of the one that draws permutations again.
use Rattle.std.proofs.Common.{◌≡◌, ℕ, zero, suc, ◌+◌, ◌-◌, ◌<◌, true, false, List, ap, ◌∙◌, subst, sub-one, arith, eq-eqb, ne_eqb}
use Rattle.draws.specs.declared.Source.{Source}
use Rattle.draws.specs.Answer.{Drawn, Row}
use Rattle.draws.specs.Draw.{number}
use Rattle.draws.specs.Rows.{refused_row, swapped, shuffled, permuted, is_identity, retried}

module _ (lent : Source) (xs : List ℕ) (s : Source) where
  pub place_refused : (i : ℕ) (d : Drawn) → 0 < i → d ≡ number (i + 1) s → (d.refusal ≡ 0 → ⊥) → refused_row lent ≡ shuffled lent i xs s
  unfolding shuffled
  place_refused zero d p e h = absurd (omega arith)
  place_refused (suc i) d p e h = rw (ne_eqb (number (suc i + 1) s).refusal 0 (subst (λ (x : Drawn). x.refusal ≡ 0 → ⊥) e h))

  one_place : (i : ℕ) → 0 < i → (number (i + 1) s).refusal ≡ 0
      → shuffled lent (i - 1) (swapped xs i (number (i + 1) s).value) (number (i + 1) s).source ≡ shuffled lent i xs s
  unfolding shuffled
  one_place zero p h = absurd (omega arith)
  one_place (suc i) p h = rw (eq-eqb (number (suc i + 1) s).refusal 0 h, sub-one (suc i))

  pub place_done : (i : ℕ) (d : Drawn) → 0 < i → d ≡ number (i + 1) s → d.refusal ≡ 0
      → shuffled lent (i - 1) (swapped xs i d.value) d.source ≡ shuffled lent i xs s
  place_done i d p e h =
      ap (λ (x : Drawn). shuffled lent (i - 1) (swapped xs i x.value) x.source) e
      ∙ one_place i p (subst (λ (x : Drawn). x.refusal ≡ 0) e h)

module _ (lent : Source) (n : ℕ) (s : Source) (r : Row) (e : r ≡ permuted n s) where
  pub row_refused : (k : ℕ) → 0 < k → (r.refusal ≡ 0 → ⊥) → refused_row lent ≡ retried lent k n s
  unfolding retried
  row_refused zero p h = absurd (omega arith)
  row_refused (suc k) p h = rw (← e, ne_eqb r.refusal 0 h)

  pub row_moved : (k : ℕ) → 0 < k → r.refusal ≡ 0 → is_identity n r.row ≡ false → r ≡ retried lent k n s
  unfolding retried
  row_moved zero p h i = absurd (omega arith)
  row_moved (suc k) p h i = rw (← e, eq-eqb r.refusal 0 h, i)

  pub row_again : (k j : ℕ) → k ≡ suc j → r.refusal ≡ 0 → is_identity n r.row ≡ true → retried lent j n r.source ≡ retried lent k n s
  unfolding retried
  row_again k j p h i = rw (p, ← e, eq-eqb r.refusal 0 h, i)

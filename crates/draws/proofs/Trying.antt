-- One turn of the loop that tries words: the word is taken, or the next is tried with one less to go.
use Rattle.std.proofs.Common.{◌≡◌, ℕ, zero, suc, ◌/◌, ◌%◌, ◌^◌, ◌<◌, ◌≤◌, sym, ap, ◌∙◌, subst, arith, le-ltb, lt-ltb}
use Rattle.draws.specs.declared.Source.{Source}
use Rattle.draws.specs.declared.Drawn as Drawing
use Rattle.draws.specs.Answer.{Drawn, taken}
use Rattle.draws.specs.Words.{word, next, drawn, stepped}
use Rattle.draws.specs.Draw.{high, limit, tried, number}
use Rattle.draws.specs.Numbers.{tried_below}

module _ (lent : Source) (m : ℕ) (s : Source) where
  once : (k : ℕ) → 0 < k → high (word s) < limit m → tried lent k m s ≡ drawn 0 (high (word s) % m) (next s)
  unfolding tried
  once zero p h = absurd (omega arith)
  once (suc k) p h = rw (lt-ltb (high (word s)) (limit m) h)

  again : (k : ℕ) → limit m ≤ high (word s) → tried lent (suc k) m s ≡ tried lent k m (next s)
  unfolding tried
  again k h = rw (le-ltb (high (word s)) (limit m) h)

  pub word_taken :
      (k : ℕ) (d : Drawn) → 0 < k → d ≡ stepped s → d.value / 2 ^ 32 < limit m
      → drawn 0 ((d.value / 2 ^ 32) % m) d.source ≡ tried lent k m s
  word_taken k d p e h =
      ap (λ (x : Drawn). drawn 0 ((x.value / 2 ^ 32) % m) x.source) e
      ∙ sym (once k p (subst (λ (x : Drawn). x.value / 2 ^ 32 < limit m) e h))

  pub word_again :
      (k j : ℕ) (d : Drawn) → k ≡ suc j → d ≡ stepped s → limit m ≤ d.value / 2 ^ 32 → tried lent j m d.source ≡ tried lent k m s
  word_again k j d p e h = rw p
      (ap (λ (x : Drawn). tried lent j m x.source) e ∙ sym (again j (subst (λ (x : Drawn). limit m ≤ x.value / 2 ^ 32) e h)))

-- a number that is drawn is below m
pub drawn_below : (m : ℕ) (s : Source) (d : Drawn) → d ≡ number m s → 1 ≤ m → d.value < m
drawn_below m s d e l = subst (λ (x : Drawn). x.value < m) (sym e) (tried_below s 64 m s l)

pub taken_below : (m : ℕ) (s : Source) (x : Drawing.Drawn) → x ≡ taken (number m s) → 1 ≤ m → x.value < m
taken_below m s x e l = subst (λ (y : Drawing.Drawn). y.value < m) (sym e) (tried_below s 64 m s l)

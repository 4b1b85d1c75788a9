-- What callers of the functions on columns need of their promises.
use Rattle.std.specs.Prelude.{ℕ, ◌+◌, ◌*◌, ◌/◌, ◌%◌, ◌<◌, ◌≡◌, ◌≢◌, List, get_or, ℤ}
use Rattle.std.proofs.Common.{sym, ◌∙◌, ap}
use Rattle.lemmas.specs.Cells.{row_of, column_of_lem}
use Rattle.paper.specs.declared.Group.{Group}
use Rattle.paper.specs.Panel.Input.{Pattern, member, spin, pattern_of}
use Rattle.paper.specs.Refusal.Rules.{Spin}
use Rattle.columns.specs.Column.{column_of, shown, shown_column, shown_spin, Columns}
use Rattle.columns.specs.Rows.{Written, SiteWritten}

-- ---- columns

-- the columns of spins show them
pub columns_shown :
    {n m : ℕ} {f : ℕ → Pattern} {cols : List ℕ} → Columns n m f cols
    → (i k : ℕ) → i < n → k < m → Spin (f i k) → shown (get_or cols i 0) k ≡ f i k
columns_shown {n} {m} {f} c i k h l s = rw (c.at i h) (shown_column m (f i) k l s)

-- a permuted column shows at the place k what it showed at the place p k
pub permuted_shown : (m column : ℕ) (p : ℕ → ℕ) (k : ℕ) → k < m → shown (column_of m (λ j. shown column (p j))) k ≡ shown column (p k)
permuted_shown m column p k h = shown_column m (λ j. shown column (p j)) k h (shown_spin column (p k))

-- ---- rows

-- rows written from the columns of spins are those spins
pub written_columns :
    {n : ℕ} {g : Group} {xs ys : List ℤ} {cols : List ℕ} {f : ℕ → Pattern}
    → Written n g.len g cols xs ys
    → Columns n g.len f cols
    → (i k : ℕ) → i < n → k < g.len → Spin (f i k) → pattern_of n g ys i k ≡ f i k
written_columns w c i k h l s = w.group i k h l ∙ columns_shown c i k h l s

-- one site written: what was at another site, and what another system had, is there still
module _ {n : ℕ} {g : Group} {i column : ℕ} {xs ys : List ℤ} (w : SiteWritten n g.len g i column xs ys) (site : i < n) where
  pub other_sites : (j t : ℕ) → j < n → j ≢ i → spin n ys t j ≡ spin n xs t j
  other_sites j t h ne = w.others (t * n + j) (λ k l e. ne (sym (column_of_lem n t j h) ∙ (ap (λ (x : ℕ). x % n) e ∙ column_of_lem n (member g k) i site)))

  pub other_systems : (j t : ℕ) → j < n → ((k : ℕ) → k < g.len → t ≢ member g k) → spin n ys t j ≡ spin n xs t j
  other_systems j t h o = w.others (t * n + j) (λ k l e. o k l (sym (row_of n t j h) ∙ (ap (λ (x : ℕ). x / n) e ∙ row_of n (member g k) i site)))

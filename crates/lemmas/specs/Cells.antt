-- Lists by their cells: the cell of row t and column i is t * n + i.
use Rattle.std.specs.Prelude.{ℕ, zero, suc, ◌+◌, ◌*◌, ◌/◌, ◌%◌, ◌<◌, ◌≡◌, refl, List, [], ◌∷◌, length, get_or, ℤ, pos}
use Rattle.std.proofs.Common.{◌∙◌, ap, arith, div-add-mod', mul-le-mul_right, suc-mul}
use Rattle.std.proofs.Math.Nat.{mul-add-div_right, div-eq_of_lt}

-- m numbers f 0, f 1, ..
unfoldable pub table : ℕ → (ℕ → ℕ) → List ℕ
table zero f = []
table (suc m) f = f 0 ∷ table m (λ k. f (suc k))

pub row_of : (n t i : ℕ) → i < n → (t * n + i) / n ≡ t
row_of n t i h = mul-add-div_right (omega arith) t i ∙ rw (div-eq_of_lt h) (omega arith)

pub column_of_lem : (n t i : ℕ) → i < n → (t * n + i) % n ≡ i
column_of_lem n t i h = omega (arith, div-add-mod' (t * n + i) n, ap (λ (q : ℕ). q * n) (row_of n t i h))

pub cell_lt : (m n t i : ℕ) → t < m → i < n → t * n + i < m * n
cell_lt m n t i ht hi = omega (arith, mul-le-mul_right n ht, suc-mul t n)

-- of one column
pub only_column : (t i : ℕ) → i < 1 → t * 1 + i ≡ t
only_column t i h = omega arith

-- ---- lists of m numbers
pub table_at : (m : ℕ) (f : ℕ → ℕ) (i : ℕ) → i < m → get_or (table m f) i 0 ≡ f i
unfolding table
table_at zero f i h = absurd (omega arith)
table_at (suc m) f zero h = refl
table_at (suc m) f (suc i) h = table_at m (λ k. f (suc k)) i (omega arith)

pub length_table : (m : ℕ) (f : ℕ → ℕ) → length (table m f) ≡ m
unfolding table
length_table zero f = refl
length_table (suc m) f = ap suc (length_table m (λ k. f (suc k)))

-- of m integers
unfoldable pub tabulate : ℕ → (ℕ → ℤ) → List ℤ
tabulate zero f = []
tabulate (suc m) f = f 0 ∷ tabulate m (λ k. f (suc k))

pub length_tabulate : (m : ℕ) (f : ℕ → ℤ) → length (tabulate m f) ≡ m
unfolding tabulate
length_tabulate zero f = refl
length_tabulate (suc m) f = ap suc (length_tabulate m (λ k. f (suc k)))

pub tabulate_at : (m : ℕ) (f : ℕ → ℤ) (i : ℕ) → i < m → get_or (tabulate m f) i (pos 0) ≡ f i
unfolding tabulate
tabulate_at zero f i h = absurd (omega arith)
tabulate_at (suc m) f zero h = refl
tabulate_at (suc m) f (suc i) h = tabulate_at m (λ k. f (suc k)) i (omega arith)

pub some_group : (t g k : ℕ) → k < t * g → 0 < g
some_group t zero k h = absurd (omega arith)
some_group t (suc g) k h = omega arith

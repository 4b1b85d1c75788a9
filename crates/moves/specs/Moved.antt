-- From new columns to moved spins.
use Rattle.std.specs.Prelude.{ℕ, ◌<◌, ◌≡◌, refl, Bool, true, false, cond, List, ℤ}
use Rattle.paper.specs.Panel.Input.{Call, Choices, Pattern, pattern, size}
use Rattle.paper.specs.Panel.Takes.{is_perm, is_gperm, moves}
use Rattle.paper.specs.Component.Sizes.{label_of}
use Rattle.paper.specs.Move.Moving.{perm_at, act_by, reached, after}
use Rattle.paper.specs.Refusal.Rules.{Spin, Permutes}
use Rattle.laws.specs.Entries.{reached_moves}
use Rattle.columns.specs.Column.{column_of, Spinning}
use Rattle.columns.specs.Gauge.{gauge_of}
use Rattle.column_rules.specs.Acted.{choice_column, acted, acted_spin}

-- the permutation of every label that a move can read
abbrev pub Rows : Call → Choices → List ℕ → Type 0
Rows c p l = is_perm c.mode ≡ true → (i : ℕ) → i < c.lattice.n → Permutes (size c) (perm_at c.form (size c) p.choices (label_of l i))

module _
    (c : Call) (p : Choices) (xs : List ℤ) (l : List ℕ) (spins : Spinning c.lattice.n c.group xs)
    (reference : is_gperm c.mode ≡ true → c.reference < c.lattice.n)
    (rows : moves c.form ≡ true → Rows c p l)
  where
    -- the spins at the reference site
    abbrev P : Pattern
    P = pattern c xs c.reference

    pub gauge_at : is_gperm c.mode ≡ true → (k : ℕ) → k < size c → Spin (P k)
    gauge_at e k h = spins c.reference k (reference e) h

    rows_at :
        (i : ℕ) → i < c.lattice.n → reached c xs l i ≡ true → is_perm c.mode ≡ true
        → Permutes (size c) (perm_at c.form (size c) p.choices (label_of l i))
    rows_at i h e q = rows (reached_moves c xs l i e) q i h

    -- the site's new column, where it is reached and where not
    pub chosen_column :
        (i : ℕ) → i < c.lattice.n
        → cond (reached c xs l i)
        (choice_column c.mode c.form (size c) (gauge_of c.mode (size c) (column_of (size c) P)) p.choices (label_of l i)
        (column_of (size c) (pattern c xs i)))
        (column_of (size c) (pattern c xs i))
        ≡ column_of (size c) (after c p xs l i)
    chosen_column i hi = go (reached c xs l i) refl
      where
        go :
            (t : Bool) → reached c xs l i ≡ t
            → cond t
            (choice_column c.mode c.form (size c) (gauge_of c.mode (size c) (column_of (size c) P)) p.choices (label_of l i)
            (column_of (size c) (pattern c xs i)))
            (column_of (size c) (pattern c xs i))
            ≡ column_of (size c) (λ k. cond t (act_by c.mode c p P (label_of l i) (pattern c xs i) k) (pattern c xs i k))
        go true q = acted c.mode c p (label_of l i) P (pattern c xs i) gauge_at (λ k hk. spins i k hi hk) (rows_at i hi q)
        go false q = refl

    pub after_spin : (i : ℕ) → i < c.lattice.n → (k : ℕ) → k < size c → Spin (after c p xs l i k)
    after_spin i hi k hk = go (reached c xs l i) refl
      where
        go : (t : Bool) → reached c xs l i ≡ t → Spin (cond t (act_by c.mode c p P (label_of l i) (pattern c xs i) k) (pattern c xs i k))
        go true q = acted_spin c.mode c p (label_of l i) P (pattern c xs i) gauge_at (λ k hk. spins i k hi hk) (rows_at i hi q) k hk
        go false q = spins i k hi hk

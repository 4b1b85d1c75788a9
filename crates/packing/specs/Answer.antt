-- What `pack` and `unpack` answer, for every input, and what the buffer that they write then holds.
use Rattle.std.specs.Prelude.{ℕ, ◌*◌, ◌≤◌, ◌≡◌, ◌≢◌, List, [], ◌∷◌, length, ℤ}
use Rattle.paper.specs.Refusal.Rule.{Rule, rule}
use Rattle.paper.specs.Refusal.Rules.{AllSystems, Spins}
use Rattle.paper.specs.Refusal.Verdict.{Verdict}
use Rattle.packing.specs.Bytes.{rows_of, bytes_of, Narrow}

-- the members of a group
pub record Members (m : ℕ) : Type 0 where
  pub low : 2 ≤ m
  pub high : m ≤ 8

-- n sites, and a group of m
pub record Sized (n m : ℕ) : Type 0 where
  pub n_low : 1 ≤ n
  pub n_high : n ≤ 4096
  pub members : Members m

-- a spin for each member and site, and a byte for each site
pub record Exact (n m rows columns : ℕ) : Type 0 where
  pub rows_long : rows ≡ m * n
  pub columns_long : columns ≡ n

-- the refusals in their order
abbrev pub pack_rules : ℕ → ℕ → List ℤ → List ℕ → List Rule
pack_rules n m rows columns =
    rule 1 (Sized n m)
    ∷ rule 2 (Exact n m (length rows) (length columns))
    ∷ rule 3 (Spins n (AllSystems m) rows)
    ∷ []

abbrev pub unpack_rules : ℕ → ℕ → List ℕ → List ℤ → List Rule
unpack_rules n m columns rows =
    rule 1 (Sized n m)
    ∷ rule 2 (Exact n m (length rows) (length columns))
    ∷ rule 3 (Narrow m columns)
    ∷ []

-- the number r is returned, and the buffer that held `before` holds `after`: the values `new`, and what it held where a rule is broken
pub record Answers {A : Type 0} (rules : List Rule) (new before : List A) (r : ℕ) (after : List A) : Type 0 where
  pub verdict : Verdict rules r
  pub written : r ≡ 0 → after ≡ new
  pub kept : r ≢ 0 → after ≡ before

abbrev pub PackAnswers : ℕ → ℕ → List ℤ → List ℕ → ℕ → List ℕ → Type 0
PackAnswers n m rows columns r columns' = Answers (pack_rules n m rows columns) (bytes_of m n rows) columns r columns'

abbrev pub UnpackAnswers : ℕ → ℕ → List ℕ → List ℤ → ℕ → List ℤ → Type 0
UnpackAnswers n m columns rows r rows' = Answers (unpack_rules n m columns rows) (rows_of m columns) rows r rows'

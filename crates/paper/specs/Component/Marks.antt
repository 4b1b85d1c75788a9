-- Bytes that say yes or no: of each site, of each bond, and of a single claim.
use Rattle.std.specs.Prelude.{ℕ, ◌+◌, ◌*◌, ◌<◌, ◌≡◌, Bool, List, eqb, length, get_or}
use Rattle.lemmas.specs.Counts.{bit}

-- byte i is 1 where f i, and else 0, for each of n places
pub record Flags (n : ℕ) (f : ℕ → Bool) (xs : List ℕ) : Type 0 where
  pub long : length xs ≡ n
  pub at : (i : ℕ) → i < n → get_or xs i 0 ≡ bit (f i)

-- the same of the bonds (i, e) of n sites and d directions
pub record Marks (n d : ℕ) (f : ℕ → ℕ → Bool) (xs : List ℕ) : Type 0 where
  pub long : length xs ≡ n * d
  pub at : (i e : ℕ) → i < n → e < d → get_or xs (i * d + e) 0 ≡ bit (f i e)

-- a table of bonds as a test: a byte 1 holds
abbrev pub marked : ℕ → List ℕ → ℕ → ℕ → Bool
marked d xs i e = eqb (get_or xs (i * d + e) 0) 1

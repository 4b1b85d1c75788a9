-- One system's energy, from its own row of spins.
use Rattle.std.specs.Prelude.{ℕ, ◌+◌, ◌*◌, ◌≤◌, ◌<◌, ◌≡◌, List, length, get_or, ℤ, pos, nat_abs, ◌*ℤ◌}
use Rattle.lemmas.specs.Sums.{sum}
use Rattle.paper.specs.Panel.Input.{spin}
use Rattle.paper.specs.Refusal.Rules.{Spin, SmallCouplings}

-- the lengths that are asked, as numbers
pub record Lengths (n d s spins fwd bwd couplings : ℕ) : Type 0 where
  pub spins_is : spins ≡ s * n
  pub fwd_is : fwd ≡ n * d
  pub bwd_is : bwd ≡ n * d
  pub couplings_is : couplings ≡ n * d

-- a row of n spins over a lattice with small couplings
pub record Row (n d : ℕ) (fwd : List ℕ) (js row : List ℤ) : Type 0 where
  pub n_high : n ≤ 4096
  pub d_high : d ≤ 4
  pub long : length row ≡ n
  pub fwd_long : length fwd ≡ n * d
  pub js_long : length js ≡ n * d
  pub inside : (i e : ℕ) → i < n → e < d → get_or fwd (i * d + e) 0 < n
  pub small : SmallCouplings js
  pub spins : (i : ℕ) → i < n → Spin (get_or row i (pos 0))

-- the system k's row among all spins
pub record RowAt (n d : ℕ) (fwd : List ℕ) (js xs : List ℤ) (k : ℕ) : Type 0 where
  pub n_high : n ≤ 4096
  pub d_high : d ≤ 4
  pub ends : k * n + n ≤ length xs
  pub fwd_long : length fwd ≡ n * d
  pub js_long : length js ≡ n * d
  pub inside : (i e : ℕ) → i < n → e < d → get_or fwd (i * d + e) 0 < n
  pub small : SmallCouplings js
  pub spins : (i : ℕ) → i < n → Spin (spin n xs k i)

pub record RowSite (n d : ℕ) (fwd : List ℕ) (js row : List ℤ) (i : ℕ) : Type 0 where
  pub of : Row n d fwd js row
  pub site : i < n

pub record RowBond (n d : ℕ) (fwd : List ℕ) (js row : List ℤ) (i e : ℕ) : Type 0 where
  pub of : Row n d fwd js row
  pub site : i < n
  pub way : e < d

-- the bond (i, e): the coupling times both spins
abbrev pub bond_term : ℕ → List ℕ → List ℤ → List ℤ → ℕ → ℕ → ℤ
bond_term d fwd js row i e = get_or js (i * d + e) (pos 0) *ℤ get_or row i (pos 0) *ℤ get_or row (get_or fwd (i * d + e) 0) (pos 0)

abbrev pub site_term : ℕ → List ℕ → List ℤ → List ℤ → ℕ → ℤ
site_term d fwd js row i = sum d (bond_term d fwd js row i)

abbrev pub row_sum : ℕ → ℕ → List ℕ → List ℤ → List ℤ → ℤ
row_sum n d fwd js row = sum n (site_term d fwd js row)

-- a coupling and two spins
pub record Bond (j s t : ℤ) : Type 0 where
  pub small : nat_abs j ≤ 1000000
  pub near : Spin s
  pub far : Spin t

-- the sum over all bonds, which its negative fits as well
pub record RowSum (n d : ℕ) (fwd : List ℕ) (js row : List ℤ) (r : ℤ) : Type 0 where
  pub is : r ≡ row_sum n d fwd js row
  pub small : nat_abs r ≤ 16384000000

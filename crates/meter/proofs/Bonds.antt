-- What a row over a lattice says of its bonds: where they end, and how large their terms and sums are.
use Prim.Native.Nat.{ℕ, ◌+◌, ◌*◌, ◌≤◌, ◌<◌}
use mathlib.Core.List.{List}
use native.Mathlib.Nat.{le_refl}
use native.Mathlib.Omega.{arith}
use lib.ListN.{get_or}
use lib.IntN.{ℤ, pos, nat_abs}
use mir.Syntax.{w64}
use Rattle.lemmas.specs.Adding.{Bounded, sum_size}
use Rattle.lemmas.specs.Signs.{Sign, sign, sign_abs}
use Rattle.lemmas.specs.Cells.{cell_lt}
use Rattle.meter.specs.Row.{Row, bond_term, site_term, row_sum}

module _ {n d : ℕ} {fwd : List ℕ} {js row : List ℤ} (r : Row n d fwd js row) where
  module _ (i e : ℕ) (li : i < n) (le : e < d) where
    pub cell : i * d + e < n * d
    cell = cell_lt n d i e li le

    pub coupling : nat_abs (get_or js (i * d + e) (pos 0)) ≤ 1000000
    coupling = r.small (i * d + e) (rw r.js_long cell)

    pub near : Sign (get_or row i (pos 0))
    near = sign (r.spins i li)

    pub far : Sign (get_or row (get_or fwd (i * d + e) 0) (pos 0))
    far = sign (r.spins (get_or fwd (i * d + e) 0) (r.inside i e li le))

    term_small : nat_abs (bond_term d fwd js row i e) ≤ 1000000
    term_small = rw (sign_abs _ far, sign_abs _ near) coupling

  pub site_bounded : (i : ℕ) → i < n → Bounded w64 (bond_term d fwd js row i) d 1000000
  site_bounded i li = record { each = λ e le. term_small i e li le; room = omega (arith, r.d_high) }

  site_small : (i : ℕ) → i < n → nat_abs (site_term d fwd js row i) ≤ 4000000
  site_small i li = let h = sum_size (site_bounded i li) d (le_refl d) in omega (arith, r.d_high)

  pub row_bounded : Bounded w64 (site_term d fwd js row) n 4000000
  row_bounded = record { each = site_small; room = omega (arith, r.n_high) }

  pub row_small : nat_abs (row_sum n d fwd js row) ≤ 16384000000
  row_small = let h = sum_size row_bounded n (le_refl n) in omega (arith, r.n_high)

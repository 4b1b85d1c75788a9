-- A bond's coupling: it is small, so the machine reads it back as it is.
use Prim.Native.Nat.{ℕ, ◌+◌, ◌*◌, ◌≤◌}
use mathlib.Core.Path.{◌≡◌}
use mathlib.Core.List.{List}
use native.Mathlib.Omega.{arith}
use lib.ListN.{get_or}
use lib.IntN.{ℤ, pos, nat_abs}
use lib.Ieee.{Float}
use mir.Syntax.{w32}
use mir.Val.{to_z, of_z}
use Rattle.lemmas.specs.Held.{given, reads, small_fits}
use Rattle.bonds.specs.Table.{Coupled}
use Rattle.bonds.proofs.Rows.{Place}

module _ {n d i e : ℕ} {fwd : List ℕ} {couplings : List ℤ} {cuts : List Float} (h : Coupled n d couplings cuts) (p : Place n d fwd i e) where
  coupling_small : nat_abs (get_or couplings (i * d + e) (pos 0)) ≤ 1000000
  coupling_small = h.small (i * d + e) (omega (arith, p.entry, h.couplings_long))

  pub coupling_back : to_z w32 (of_z w32 (get_or couplings (i * d + e) (pos 0))) ≡ get_or couplings (i * d + e) (pos 0)
  coupling_back = reads (given (small_fits w32 (get_or couplings (i * d + e) (pos 0)) 1000000 coupling_small tt))

  pub read_small : nat_abs (to_z w32 (of_z w32 (get_or couplings (i * d + e) (pos 0)))) ≤ 1000000
  read_small = rw coupling_back coupling_small

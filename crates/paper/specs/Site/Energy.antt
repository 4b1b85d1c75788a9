-- Sums over bonds.
use Rattle.std.specs.Prelude.{ℕ, List, get_or, ℤ, pos, neg_ℤ, ◌*ℤ◌}
use Rattle.lemmas.specs.Sums.{sum}
use Rattle.paper.specs.Panel.Input.{Lattice, Call, spin, pattern, size, ahead, bond_of, ahead_of}

-- the energy of the system t: minus the sum, over all bonds, of the coupling times both spins
abbrev pub energy : Lattice → List ℤ → ℕ → ℤ
energy g xs t = neg_ℤ (sum g.n (λ i. sum g.d (λ e. get_or g.couplings (bond_of g i e) (pos 0) *ℤ spin g.n xs t i *ℤ spin g.n xs t (ahead_of g i e))))

-- the sum over the group of the product of the two end spins of the bond (i, e)
abbrev pub bond_sum : Call → List ℤ → ℕ → ℕ → ℤ
bond_sum c xs i e = sum (size c) (λ k. pattern c xs i k *ℤ pattern c xs (ahead c i e) k)

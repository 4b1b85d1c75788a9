-- `couplings_ok` meets its contract: after i turns the flag tells of the couplings below i.
use Prim.Native.Nat.{◌≤◌}
use lib.IntN.{pos, nat_abs}
use lib.ListN.{length, get_or}
use Rattle.lemmas.specs.Tells.{Flagged}
use Rattle.lattice.proofs.couplings_ok.Given as goal

abbrev pub invariant-loop-j : goal.invariant-loop-j
invariant-loop-j l = Flagged (length l.js) (λ k. nat_abs (get_or l.js k (pos 0)) ≤ 1000000) l.j-index l.ok

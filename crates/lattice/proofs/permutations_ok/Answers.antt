-- `permutations_ok` meets its contract: a byte that is too large is in a row that is no permutation.
use Prim.Native.Nat.{◌<◌}
use mathlib.Core.Bool.{not}
use mathlib.Core.Path.{ap}
use native.Mathlib.Omega.{arith}
use Rattle.lemmas.specs.Tells.{refused}
use Rattle.lattice.specs.Marking.{rows_below}
use Rattle.lattice.proofs.permutations_ok.Goals as goal

pub returns-then-not-bytes_at_most : goal.returns-then-not-bytes_at_most
returns-then-not-bytes_at_most c =
    let some : 0 < c.args.m = omega (arith, c.if-m-eq0.false) in
    λ h.
    refused c.bytes_at_most.result (ap not c.if-not-bytes_at_most.true) c.bytes_at_most.ensures
    (λ k l. let b = rows_below some c.requires h k l in omega arith)

-- `own_places` meets its contract.
use native.Mathlib.Omega.{arith}
use Rattle.matching.specs.Bits.{own_first}
use Rattle.matching.proofs.own_places.Goals as goal

pub returns : goal.returns
returns c = record { at = λ k j hk hj. own_first c.args.size k j c.requires.low (omega (arith, c.requires.high)) hk hj }

-- `change_bond` meets its contract: ends that are as unlike as they were change nothing.
use mathlib.Core.Path.{refl, sym, ◌∙◌, ap}
use lib.ListN.{get_or}
use lib.Bits.{bit_xor}
use lib.IntN.{ℤ, pos, ◌+ℤ◌, +ℤ_idr}
use Rattle.lemmas.specs.Held.{given, reads}
use Rattle.totals.specs.Gain.{bit_gain}
use Rattle.totals.proofs.Digits.{bits_gain, bits_same}
use Rattle.totals.proofs.Sums.{added_as}
use Rattle.totals.proofs.change_bond.Goals as goal

pub returns-then-x-y : goal.returns-then-x-y
returns-then-x-y c = let a = c.args in
    added_as c.add_bond.ensures
    (λ k l. ap (λ (z : ℤ). bit_gain z (bit_xor a.a a.b) (bit_xor a.a2 a.b2) k) (reads (given c.ranges.j))
    ∙ sym (bits_gain a.j a.a a.a2 a.b a.b2 k))

pub returns-else-x-y : goal.returns-else-x-y
returns-else-x-y c = let a = c.args in
    record {
      long = refl;
      each = λ k l. sym
          (ap (λ (z : ℤ). get_or a.sums.now k (pos 0) +ℤ z)
          (bits_gain a.j a.a a.a2 a.b a.b2 k ∙ bits_same a.j (bit_xor a.a a.b) (bit_xor a.a2 a.b2) k c.if-x-y.false)
          ∙ +ℤ_idr (get_or a.sums.now k (pos 0)));
    }

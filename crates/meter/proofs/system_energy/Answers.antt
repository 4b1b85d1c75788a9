-- `system_energy` meets its contract: minus the sum over the system's own row.
use mathlib.Core.Path.{◌∙◌, ap}
use lib.IntN.{ℤ, pos, neg_ℤ, ◌-ℤ◌, +ℤ_idl}
use mir.Syntax.{w64}
use mir.Val.{to_z, of_z}
use Rattle.lemmas.specs.Held.{Value, reads, stored, bounded, small_fits}
use Rattle.lemmas.specs.Ints.{abs_neg}
use Rattle.meter.specs.Part.{energy_of}
use Rattle.meter.proofs.system_energy.Goals as goal

pub returns : goal.returns
returns c =
    let minus : Value w64 (pos 0 -ℤ to_z w64 (of_z w64 c.row_sum.result)) (neg_ℤ c.row_sum.result) = record {
      is = ap (λ (z : ℤ). pos 0 -ℤ z) (reads (bounded w64 c.row_sum.result c.row_sum.type_inv)) ∙ +ℤ_idl (neg_ℤ c.row_sum.result);
      fits = small_fits w64 (neg_ℤ c.row_sum.result) 16384000000 (rw abs_neg c.row_sum.ensures.small) tt;
    } in
    let a = c.args in
    reads (stored minus) ∙ (ap neg_ℤ c.row_sum.ensures.is
    ∙ energy_of a.n a.d a.fwd.now a.js.now a.spins.now a.t c.requires)

-- `bond` meets its contract: each factor is read back as it was, and a spin changes no size.
use mir.Syntax.{w8, w32, w64}
use mir.Val.{to_z, of_z}
use Rattle.lemmas.specs.Held.{Value, given, stored, reads, held_wide}
use Rattle.lemmas.specs.Signs.{sign, twice}
use Rattle.meter.proofs.bond.Goals as goal

pub returns : goal.returns
returns c =
    let hj : Value w64 (to_z w32 (of_z w32 c.args.j)) c.args.j = held_wide (given c.ranges.j) tt in
    let hs : Value w64 (to_z w8 (of_z w8 c.args.s)) c.args.s = held_wide (given c.ranges.s) tt in
    let ht : Value w64 (to_z w8 (of_z w8 c.args.t)) c.args.t = held_wide (given c.ranges.t) tt in
    reads (stored (twice w64 tt (stored hj) (stored hs) (stored ht) c.requires.small (sign c.requires.near) (sign c.requires.far)))

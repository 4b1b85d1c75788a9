-- `frame_lines::fill::fill_spins` meets its contract: what was passed is filled.
use Prim.Native.Nat.{◌+◌, ◌*◌, ◌≤◌}
use mathlib.Core.Path.{◌≡◌, ◌∙◌, ap}
use mathlib.Core.List.{List, map}
use native.Mathlib.Omega.{arith}
use lib.ListN.{length, get_or, drop}
use lib.IntN.{ℤ, pos}
use mir.Facts.{to_z-of_z}
use mir.Syntax.{w8}
use Rattle.paper.specs.Answer.Frame.{bytes, signed}
use Rattle.frame_lines.specs.Lines.{line_fits, line_two}
use Rattle.frame_lines.specs.Entries.{spins_long, spin_entry}
use Rattle.frame_lines.specs.Fill.{filling_more}
use Rattle.frame_lines.proofs.fill.fill_spins.Goals as goal

pub overflow_add-at : goal.overflow_add-at
overflow_add-at c =
    let fits : c.args.at + 2 * c.args.count + 3 ≤ length c.args.text.now = line_fits 0x11 _ _ _ (omega arith) c.requires.frame in
    omega (arith, fits)

pub overflow_add-at-in-loop-k : goal.overflow_add-at-in-loop-k
overflow_add-at-in-loop-k c =
    let fits : c.args.at + 2 * c.args.count + 3 ≤ length c.args.text.now = line_fits 0x11 _ _ _ (omega arith) c.requires.frame in
    omega (arith, fits)

pub byte_at-requires : goal.byte_at-requires
byte_at-requires c = line_two 0x11 _ _ _ (omega arith) c.requires.frame _ c.loop-k-test.true

pub loop-k-preserved : goal.loop-k-preserved
loop-k-preserved c =
    let X : List ℤ = map signed (bytes (drop c.args.at c.args.text.now)) in
    let long : length X ≡ c.args.count = spins_long 0x11 c.args.count c.args.text.now c.args.at (omega arith) c.requires.frame in
    let entry : c.spin_of.result ≡ get_or X c.loop-k.k (pos 0) = c.spin_of.ensures
    ∙ (ap signed c.byte_at.ensures
    ∙ spin_entry 0x11 c.args.count c.args.text.now c.args.at (omega arith) c.requires.frame _ c.loop-k-test.true) in
    filling_more X _ _ long _ _ _ (pos 0) c.loop-k.invariant c.loop-k-test.true c.requires.fits (to_z-of_z {w =
    w8} (record { sfits = c.spin_of.type_inv }) ∙ entry)

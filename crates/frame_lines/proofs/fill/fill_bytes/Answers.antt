-- `frame_lines::fill::fill_bytes` meets its contract: what was passed is filled.
use Prim.Native.Nat.{ℕ, ◌+◌, ◌*◌, ◌≤◌}
use mathlib.Core.Path.{◌≡◌, sym, ◌∙◌}
use mathlib.Core.List.{List}
use native.Mathlib.Omega.{arith}
use lib.ListN.{length, get_or, drop}
use Rattle.paper.specs.Answer.Frame.{bytes}
use Rattle.frame_lines.specs.Lines.{line_fits, line_two, line_byte}
use Rattle.frame_lines.specs.Fill.{filling_more}
use Rattle.frame_lines.proofs.fill.fill_bytes.Goals as goal

pub overflow_add-at : goal.overflow_add-at
overflow_add-at c =
    let fits : c.args.at + 2 * c.args.count + 3 ≤ length c.args.text.now = line_fits 0x14 _ _ _ (omega arith) c.requires.frame in
    omega (arith, fits)

pub overflow_add-at-in-loop-k : goal.overflow_add-at-in-loop-k
overflow_add-at-in-loop-k c =
    let fits : c.args.at + 2 * c.args.count + 3 ≤ length c.args.text.now = line_fits 0x14 _ _ _ (omega arith) c.requires.frame in
    omega (arith, fits)

pub byte_at-requires : goal.byte_at-requires
byte_at-requires c = line_two 0x14 _ _ _ (omega arith) c.requires.frame _ c.loop-k-test.true

pub loop-k-preserved : goal.loop-k-preserved
loop-k-preserved c =
    let X : List ℕ = bytes (drop c.args.at c.args.text.now) in
    let long : length X ≡ c.args.count = c.requires.frame.long in
    let entry : c.byte_at.result ≡ get_or X c.loop-k.k 0 = c.byte_at.ensures ∙ sym (line_byte 0x14 c.args.count c.args.text.now c.args.at (omega arith) c.requires.frame _
    c.loop-k-test.true) in
    filling_more X _ _ long _ _ _ 0 c.loop-k.invariant c.loop-k-test.true c.requires.fits entry

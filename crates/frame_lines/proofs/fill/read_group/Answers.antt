-- `frame_lines::fill::read_group` meets its contract: what was passed is filled, and the rest stays nought.
use Prim.Native.Nat.{ℕ, ◌+◌, ◌*◌, ◌≤◌}
use mathlib.Core.Path.{◌≡◌, sym, ◌∙◌}
use mathlib.Core.List.{List}
use native.Mathlib.Omega.{arith}
use lib.ListN.{length, get_or, drop}
use Rattle.lemmas.specs.Cells.{table}
use Rattle.paper.specs.Answer.Frame.{bytes}
use Rattle.frame_lines.specs.Lines.{line_fits, line_two, line_byte}
use Rattle.frame_lines.specs.Fill.{filling_more, filled, padded}
use Rattle.frame_lines.proofs.fill.read_group.Goals as goal

pub overflow_add-at : goal.overflow_add-at
overflow_add-at c =
    let fits : c.args.at + 2 * c.args.len + 3 ≤ length c.args.text.now = line_fits 0x13 _ _ _ (omega arith) c.requires.frame in
    omega (arith, fits)

pub overflow_add-at-in-loop-k : goal.overflow_add-at-in-loop-k
overflow_add-at-in-loop-k c =
    let fits : c.args.at + 2 * c.args.len + 3 ≤ length c.args.text.now = line_fits 0x13 _ _ _ (omega arith) c.requires.frame in
    omega (arith, fits)

pub byte_at-requires : goal.byte_at-requires
byte_at-requires c = line_two 0x13 _ _ _ (omega arith) c.requires.frame _ c.loop-k-test.true

pub loop-k-preserved : goal.loop-k-preserved
loop-k-preserved c =
    let X : List ℕ = bytes (drop c.args.at c.args.text.now) in
    let long : length X ≡ c.args.len = c.requires.frame.long in
    let entry : c.from.result ≡ get_or X c.loop-k.k 0 = c.from.ensures ∙ (c.byte_at.ensures ∙ sym (line_byte 0x13 c.args.len c.args.text.now c.args.at (omega arith) c.requires.frame _
    c.loop-k-test.true)) in
    filling_more X _ _ long _ _ _ 0 c.loop-k.invariant c.loop-k-test.true c.requires.fits entry

pub returns : goal.returns
returns c =
    let X : List ℕ = bytes (drop c.args.at c.args.text.now) in
    let long : length X ≡ c.args.len = c.requires.frame.long in
    let e : c.loop-k.systems ≡ table 8 (λ k. get_or X k 0) = filled X _ _ long _ _ c.loop-k.invariant c.loop-k-test.false ∙ rw
    (← long) (padded X 8 (omega (arith, long, c.requires.fits))) in
    λ i. record { len = sym long i; systems = e i }

-- `frame_lines::scan::sizes_in` meets its contract: the sizes stand at the places 2, 6 and 8.
use Prim.Native.Nat.{ℕ, ◌+◌, ◌*◌, ◌<◌}
use mathlib.Core.Path.{◌≡◌, sym, ◌∙◌}
use native.Mathlib.Omega.{arith}
use lib.ListN.{get_or}
use Rattle.paper.specs.Answer.Frame.{bytes}
use Rattle.frame_lines.specs.Lines.{byte_at, TwoDigits, line_two, line_byte}
use Rattle.frame_lines.proofs.scan.sizes_in.Goals as goal

pub word_at-n-requires : goal.word_at-n-requires
word_at-n-requires c =
    let two : (k : ℕ) → k < 4 → TwoDigits c.args.text.now (0 + 2 * k + 2) = λ k l. line_two 0x10 4 c.args.text.now 0 (omega arith) c.requires k l in
    record { first = two 0 (omega arith); second = two 1 (omega arith) }

pub byte_at-d-requires : goal.byte_at-d-requires
byte_at-d-requires c =
    let two : (k : ℕ) → k < 4 → TwoDigits c.args.text.now (0 + 2 * k + 2) = λ k l. line_two 0x10 4 c.args.text.now 0 (omega arith) c.requires k l in
    two 2 (omega arith)

pub byte_at-s-requires : goal.byte_at-s-requires
byte_at-s-requires c =
    let two : (k : ℕ) → k < 4 → TwoDigits c.args.text.now (0 + 2 * k + 2) = λ k l. line_two 0x10 4 c.args.text.now 0 (omega arith) c.requires k l in
    two 3 (omega arith)

pub returns : goal.returns
returns c =
    let byte : (k : ℕ) → k < 4 → byte_at c.args.text.now (0 + 2 * k + 2) ≡ get_or (bytes c.args.text.now) k 0 = λ k l. sym (line_byte 0x10 4 c.args.text.now 0 (omega arith) c.requires k l) in
    let n = c.wide.ensures ∙ (c.word_at-n.ensures ∙ (λ i. 256 * byte 0 (omega arith) i + byte 1 (omega arith) i)) in
    let d = c.from.ensures ∙ (c.byte_at-d.ensures ∙ byte 2 (omega arith)) in
    let e = c.from-2.ensures ∙ (c.byte_at-s.ensures ∙ byte 3 (omega arith)) in
    λ i. record { n = n i; d = d i; s = e i }

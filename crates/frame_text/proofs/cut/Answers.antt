-- `frame_text::cut` meets its contract: by how much is read, where the last line begins, and whether digits alone stand there.
use mathlib.Core.Path.{◌≡◌}
use native.Mathlib.Omega.{arith}
use lib.ListN.{length}
use Rattle.frame_text.specs.Kept.{late, broken_off, read_on}
use borrow.Author.Rules.{rules}
use Rattle.frame_text.proofs.cut.Goals as goal

pub returns-then-start-gt-HEAD : goal.returns-then-start-gt-HEAD
returns-then-start-gt-HEAD c = late c.args.buffer.now _ c.line_start-start.ensures c.args.n (omega arith) c.if-start-gt-HEAD.true

pub returns-then-digits_end-room : goal.returns-then-digits_end-room
returns-then-digits_end-room c = broken_off c.args.buffer.now _ c.line_start-start.ensures _ c.digits_end.ensures c.args.n (omega arith) c.if-digits_end-room.true

pub returns : goal.returns
returns c =
    let room : length c.args.buffer.now ≡ 65536 = search rules in
    read_on c.args.buffer.now _ c.line_start-start.ensures _ c.digits_end.ensures c.if-start-gt-HEAD.false
    (omega (arith, room)) (omega (arith, c.digits_end.ensures.run.to)) c.args.n _ (omega arith) (omega arith)

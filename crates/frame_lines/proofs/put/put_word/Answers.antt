-- `frame_lines::put::put_word` meets its contract.
use Prim.Native.Nat.{◌/◌, ◌%◌}
use Rattle.frame_lines.specs.Writing.{four_digits}
use Rattle.frame_lines.proofs.put.put_word.Goals as goal

pub returns : goal.returns
returns c = four_digits c.args.out.now c.args.at (c.args.x / 256) (c.args.x % 256) _ _
    c.put_byte.ensures c.put_byte-2.ensures

-- The table, by computing.
use Rattle.paper.specs.declared.Mode.TheVariants.{Pair, Perm}
use Rattle.paper.specs.Answer.Cases.{Answer.Moved}
use Rattle.paper.specs.Panel.Input.{Call, Choices, Buffers}
use Rattle.paper.specs.Answer.Move.{Answers}
use Rattle.paper.specs.Rows.Cases.{frame, frame_perms, all_flips, before13, after13, moved13, case_text, case_out}
use Rattle.paper.specs.Rows.Values.{values}
use Rattle.laws.specs.Determined.{determined}
use Rattle.laws.specs.FramesDetermined.{frames_determined}
use Rattle.rows.specs.Table.{Gives, Table}
use Rattle.rows.specs.Worked.{houd_of_four, answer13, answer13_pair}
use Rattle.rows.specs.FrameCase.{whole_case}

gives : (c : Call) (p : Choices) (b b' : Buffers) → Answers c p b Moved b' → Gives c p b b'
gives c p b b' h = record { gives = h; only = λ a z w. determined c p b b' z Moved a h w }

pub table : Table
table = record {
  values = values;
  row12 = houd_of_four;
  row13 = record { writes = whole_case; only = λ other h. frames_determined case_text case_out other whole_case h };
  row13_move = gives (frame Perm) frame_perms before13 (after13 moved13) answer13;
  row13_pair = gives (frame Pair) all_flips before13 (after13 before13.spins) answer13_pair;
}

-- What the writers promise is one answer and one content of the lent buffer.
use Rattle.std.specs.Prelude.{ℕ, ◌<◌, refl, List, ℤ, Option}
use Rattle.std.proofs.Common.{sym, ◌∙◌, ap, arith}
use Rattle.std.proofs.Math.Decide.{dec_lt}
use Rattle.paper.specs.Refusal.Rule.{broken_not_kept}
use Rattle.paper.specs.Answer.Frame.{refusal}
use Rattle.frame_lines.specs.Outcome.{Written, written_of}
use Rattle.frame_lines.specs.Outcome.Written.{Wrote, NoRoom}
use Rattle.frame_lines.specs.Writing.{room_rules, WrittenAs, RefusalAs, count, result_of}
use Rattle.frame_lines.specs.Determined.{SameWritten, SameResult, written_result}

pub written_same : (bs before : List ℕ) (w w' : Written) (a a' : List ℕ) → WrittenAs bs before w a → WrittenAs bs before w' a' → SameWritten w w' a a'
written_same bs before (Wrote m) (Wrote m') a a' p q = record { answer = ap Wrote (count p ∙ sym (count q)); held = p.is ∙ sym q.is }
written_same bs before (Wrote m) NoRoom a a' p q = absurd (broken_not_kept (room_rules bs before) _ q.short p.fits)
written_same bs before NoRoom (Wrote m) a a' p q = absurd (broken_not_kept (room_rules bs before) _ p.short q.fits)
written_same bs before NoRoom NoRoom a a' p q = record { answer = refl; held = p.kept ∙ sym q.kept }

pub write_determined : (labels counts : List ℕ) (spins : List ℤ) (out : List ℕ) (w w' : Written) (a a' : List ℕ)
    → WrittenAs (result_of labels counts spins) out w a → WrittenAs (result_of labels counts spins) out w' a' → SameWritten w w' a a'
write_determined labels counts spins out w w' a a' p q = written_same (result_of labels counts spins) out w w' a a' p q

pub write_refusal_determined : (r : ℕ) (out : List ℕ) (w w' : Written) (a a' : List ℕ) → RefusalAs r out w a → RefusalAs r out w' a'
    → SameWritten w w' a a'
write_refusal_determined r out w w' a a' p q = at (dec_lt r 100)
  where
    at : Dec (r < 100) → SameWritten w w' a a'
    at (yes l) = written_same (refusal r) out w w' a a' (p.two l) (q.two l)
    at (no l) =
        let x = p.larger (omega arith) in
        let y = q.larger (omega arith) in
        record { answer = x.answer ∙ sym y.answer; held = x.kept ∙ sym y.kept }

-- and one result of each function
pub write_result_determined : (labels counts : List ℕ) (spins : List ℤ) (out : List ℕ) (x y : Option ℕ) (a a' : List ℕ)
    → WrittenAs (result_of labels counts spins) out (written_of x) a → WrittenAs (result_of labels counts spins) out (written_of y) a'
    → SameResult x y a a'
write_result_determined labels counts spins out x y a a' p q =
    written_result x y a a' (write_determined labels counts spins out (written_of x) (written_of y) a a' p q)

pub write_refusal_result_determined : (r : ℕ) (out : List ℕ) (x y : Option ℕ) (a a' : List ℕ) → RefusalAs r out (written_of x) a
    → RefusalAs r out (written_of y) a' → SameResult x y a a'
write_refusal_result_determined r out x y a a' p q =
    written_result x y a a' (write_refusal_determined r out (written_of x) (written_of y) a a' p q)

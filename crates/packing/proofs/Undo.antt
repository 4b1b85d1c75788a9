-- What one function wrote the other takes, and gives back what it was made of.
use Rattle.std.specs.Prelude.{ℕ, ◌*◌, ◌≡◌, refl, List, length, ℤ}
use Rattle.std.proofs.Common.{◌∙◌, ap}
use Rattle.paper.specs.Refusal.Rule.{Rule, Kept}
use Rattle.paper.specs.Refusal.Verdict.{verdict_unique}
use Rattle.packing.specs.Bytes.{rows_of, bytes_of}
use Rattle.packing.proofs.Laws.{length_bytes, bytes_narrow, pack_unpack, rows_long, rows_spins, unpack_pack}
use Rattle.packing.specs.Answer.{pack_rules, unpack_rules, Answers, PackAnswers, UnpackAnswers}
use Rattle.packing.specs.Determined.{Same}

-- where all rules are kept
kept_same : {A : Type 0} {new before after : List A} (rules : List Rule) (r : ℕ) → Kept rules → Answers rules new before r after → Same r 0 after new
kept_same rules r k a = record { answer = is; buffer = a.written is }
  where
    is : r ≡ 0
    is = verdict_unique rules r 0 a.verdict k

module _ (n m : ℕ) where
  -- packed rows come back
  pub undo :
      (rows : List ℤ) (columns columns' : List ℕ) → PackAnswers n m rows columns 0 columns'
      → (before after : List ℤ) (r : ℕ) → length before ≡ m * n
      → UnpackAnswers n m columns' before r after
      → Same r 0 after rows
  undo rows columns columns' p before after r room q =
      record { answer = went.answer; buffer = went.buffer ∙ (ap (rows_of m) is ∙ pack_unpack m n rows k.1.0.rows_long k.1.1.0) }
    where
      k : Kept (pack_rules n m rows columns)
      k = p.verdict

      is : columns' ≡ bytes_of m n rows
      is = p.written refl

      went : Same r 0 after (rows_of m columns')
      went =
          kept_same (unpack_rules n m columns' before) r
          (k.0, (record { rows_long = room; columns_long = ap length is ∙ length_bytes m n rows }, (rw is (bytes_narrow m n rows), tt))) q

  -- and bytes from their rows
  pub redo :
      (columns : List ℕ) (rows rows' : List ℤ) → UnpackAnswers n m columns rows 0 rows'
      → (before after : List ℕ) (r : ℕ) → length before ≡ n
      → PackAnswers n m rows' before r after
      → Same r 0 after columns
  redo columns rows rows' p before after r room q =
      record { answer = went.answer; buffer = went.buffer ∙ (ap (bytes_of m n) is ∙ unpack_pack m n columns k.1.0.columns_long k.1.1.0) }
    where
      k : Kept (unpack_rules n m columns rows)
      k = p.verdict

      is : rows' ≡ rows_of m columns
      is = p.written refl

      went : Same r 0 after (bytes_of m n rows')
      went =
          kept_same (pack_rules n m rows' before) r (
            k.0,
            (
              record { rows_long = ap length is ∙ rows_long m n columns k.1.0.columns_long; columns_long = room },
              (rw is (rows_spins m n columns k.1.0.columns_long k.1.1.0), tt),
            ),
          ) q

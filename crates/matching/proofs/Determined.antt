-- What `explain` promises is one number and one content of the rows.
use Rattle.std.specs.Prelude.{ℕ, ◌*◌, ◌<◌, ◌≡◌, List, length}
use Rattle.std.proofs.Common.{sym, ◌∙◌, arith}
use Rattle.std.proofs.Math.Decide.{dec_lt}
use Rattle.matching.specs.Fitting.{least_unique}
use Rattle.matching.specs.Explain.{Explains}
use Rattle.matching.specs.Determined.{words_ext, SameRows}

-- the first that has none is before no other such
not_less :
    {size gauge r s : ℕ} {olds news labels pins rows us vs : List ℕ}
    → Explains size gauge olds news labels pins rows r us → Explains size gauge olds news labels pins rows s vs → r < s → ⊥
not_less p q h = p.none (omega (arith, h, q.most)) (q.fitted _ h)

pub explain_determined :
    (size gauge : ℕ) (olds news labels pins rows : List ℕ) (r s : ℕ) (us vs : List ℕ)
    → length rows ≡ length olds * size
    → Explains size gauge olds news labels pins rows r us
    → Explains size gauge olds news labels pins rows s vs
    → SameRows r us s vs
explain_determined size gauge olds news labels pins rows r s us vs long p q = record { number = number; rows = rows_same (dec_lt r (length olds)) }
  where
    number : r ≡ s
    number = go (dec_lt r s) (dec_lt s r)
      where
        go : Dec (r < s) → Dec (s < r) → r ≡ s
        go (yes h) d = absurd (not_less p q h)
        go (no h) (yes l) = absurd (not_less q p l)
        go (no h) (no l) = omega arith

    rows_same : Dec (r < length olds) → us ≡ vs
    rows_same (yes h) = p.kept h ∙ sym (q.kept (omega (arith, h, number)))
    rows_same (no h) =
        let all : r ≡ length olds = omega (arith, p.most) in
        words_ext (length olds) size us vs (p.long ∙ long) (q.long ∙ long)
        (λ t k ht hk. least_unique (p.least all t ht) (q.least (sym number ∙ all) t ht) k hk)

-- What each public function's promise allows for one input is one answer.
use Rattle.std.specs.Prelude.{ℕ, suc, ◌+◌, ◌-◌, ◌<◌, ◌≡◌, List, length}
use Rattle.std.proofs.Common.{sym, ◌∙◌, ap, subst, arith}
use Rattle.std.proofs.Math.Decide.{dec_lt}
use Rattle.frame_text.specs.declared.Part.{Part}
use Rattle.frame_text.specs.declared.Part.TheVariants.{Enough, More}
use Rattle.frame_text.specs.Digits.{Digit, feed_no_digit}
use Rattle.frame_text.specs.Line.{DigitsEnd}
use Rattle.frame_text.specs.Cut.{kept, Unended, CutAs}

pub digits_end_determined : (t : List ℕ) (a e e' : ℕ) → DigitsEnd t a e → DigitsEnd t a e' → e ≡ e'
digits_end_determined t a e e' p q = at (dec_lt e e') (dec_lt e' e)
  where
    at : Dec (e < e') → Dec (e' < e) → e ≡ e'
    at (yes l) h = absurd (p.stop (omega (arith, q.run.to)) (q.run.digits e p.run.from l))
    at (no l) (yes h) = absurd (q.stop (omega (arith, p.run.to)) (p.run.digits e' q.run.from h))
    at (no l) (no h) = omega arith

-- a line of digits up to the end begins at one place
not_before : (t : List ℕ) (n s s' : ℕ) → Unended t n s → Unended t n s' → s < s' → ⊥
not_before t n s s' p q l =
    let e : s' ≡ suc (s' - 1) = omega arith in
    feed_no_digit (subst Digit (q.begins (s' - 1) e) (p.digits (s' - 1) (omega arith) (omega (arith, q.within))))

same_start : (t : List ℕ) (n s s' : ℕ) → Unended t n s → Unended t n s' → s ≡ s'
same_start t n s s' p q = at (dec_lt s s') (dec_lt s' s)
  where
    at : Dec (s < s') → Dec (s' < s) → s ≡ s'
    at (yes l) h = absurd (not_before t n s s' p q l)
    at (no l) (yes h) = absurd (not_before t n s' s q p h)
    at (no l) (no h) = omega arith

pub cut_determined : (t : List ℕ) (n : ℕ) (r r' : Part) → CutAs t n r → CutAs t n r' → r ≡ r'
cut_determined t n (Enough m) (Enough m') p q = ap Enough (p.all ∙ sym q.all)
cut_determined t n (Enough m) (More m') p q = absurd (p.ended q.start q.unended)
cut_determined t n (More m) (Enough m') p q = absurd (q.ended p.start p.unended)
cut_determined t n (More m) (More m') p q = ap More (p.cut ∙ (ap (λ (s : ℕ). s + kept (length t - s)) same ∙ sym q.cut))
  where
    same : p.start ≡ q.start
    same = same_start t n p.start q.start p.unended q.unended

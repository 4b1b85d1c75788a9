-- One call that keeps totals has one answer, one content of every lent buffer and one of the totals; and so has a sweep.
use Rattle.std.specs.Prelude.{ℕ, ◌≡◌, refl, Bool, true, false, List, length, ℤ, pos}
use Rattle.std.proofs.Common.{sym, ◌∙◌, ap, ext_get_or}
use Rattle.paper.specs.Answer.Cases.{Answer, Answer.Refused, Answer.Idle, Answer.Held, Answer.Moved}
use Rattle.paper.specs.Answer.Cases.{SweepAnswer, SweepAnswer.Fault, SweepAnswer.Swept}
use Rattle.paper.specs.Panel.Input.{Lattice, Call, Choices, Buffers}
use Rattle.paper.specs.Refusal.Rule.{broken_unique, broken_not_kept}
use Rattle.paper.specs.Refusal.Rules.{When}
use Rattle.paper.specs.Answer.Task.{Sweep}
use Rattle.paper.specs.Answer.Totals.{TotalLengths, kept_rules, swept_rules, kept_asked, TotalsAfter}
use Rattle.paper.specs.Answer.Totals.{KeepAccepts, KeepAnswers, SweepKeeps, SweepKeepAnswers}
use Rattle.laws.specs.Determined.{Same, determined}
use Rattle.laws.specs.SweepDetermined.{SameSweep, sweep_determined}

-- the totals after the same move of the same totals
totals_same :
    (keeping : Bool) (g : Lattice) (xs ts ys us vs : List ℤ)
    → When keeping (TotalLengths g ts)
    → TotalsAfter keeping g xs ts ys us
    → TotalsAfter keeping g xs ts ys vs
    → us ≡ vs
totals_same true g xs ts ys us vs long p q =
    let u = p.brought refl in
    let v = q.brought refl in
    let s : length us ≡ g.s = u.long ∙ (long refl).totals in
    ext_get_or (pos 0) us vs (u.long ∙ sym v.long) (λ t h. u.each t (rw s at h) ∙ sym (v.each t (rw s at h)))
totals_same false g xs ts ys us vs long p q = p.left refl ∙ sym (q.left refl)

-- ---- a move
pub record SameKept (a₁ : Answer) (b₁ : Buffers) (ts₁ : List ℤ) (a₂ : Answer) (b₂ : Buffers) (ts₂ : List ℤ) : Type 0 where
  pub answer : a₁ ≡ a₂
  pub buffers : b₁ ≡ b₂
  pub totals : ts₁ ≡ ts₂

module _ (keeping : Bool) (c : Call) (p : Choices) (b : Buffers) (ts : List ℤ) (y z : Buffers) (us vs : List ℤ) where
  accepted_same : (a a' : Answer) → KeepAccepts keeping c p b ts a y us → KeepAccepts keeping c p b ts a' z vs → SameKept a y us a' z vs
  accepted_same a a' f g = record {
    answer = s.answer;
    buffers = s.buffers;
    totals = totals_same keeping c.lattice b.spins ts z.spins us vs (kept_asked keeping c p b ts f.valid).lengths
        (rw s.buffers at f.totals) g.totals;
  }
    where
      s : Same a y a' z
      s = determined c p b y z a a' f.answers g.answers

  pub keep_determined : (a a' : Answer) → KeepAnswers keeping c p b ts a y us → KeepAnswers keeping c p b ts a' z vs → SameKept a y us a' z vs
  keep_determined (Refused r) (Refused s) f g = record {
    answer = ap Refused (broken_unique (kept_rules keeping c p b ts) r s f.why g.why);
    buffers = f.kept ∙ sym g.kept;
    totals = f.totals_kept ∙ sym g.totals_kept;
  }
  keep_determined (Refused r) Idle f g = absurd (broken_not_kept (kept_rules keeping c p b ts) r f.why g.valid)
  keep_determined (Refused r) Held f g = absurd (broken_not_kept (kept_rules keeping c p b ts) r f.why g.valid)
  keep_determined (Refused r) Moved f g = absurd (broken_not_kept (kept_rules keeping c p b ts) r f.why g.valid)
  keep_determined Idle (Refused s) f g = absurd (broken_not_kept (kept_rules keeping c p b ts) s g.why f.valid)
  keep_determined Held (Refused s) f g = absurd (broken_not_kept (kept_rules keeping c p b ts) s g.why f.valid)
  keep_determined Moved (Refused s) f g = absurd (broken_not_kept (kept_rules keeping c p b ts) s g.why f.valid)
  keep_determined Idle Idle f g = accepted_same Idle Idle f g
  keep_determined Idle Held f g = accepted_same Idle Held f g
  keep_determined Idle Moved f g = accepted_same Idle Moved f g
  keep_determined Held Idle f g = accepted_same Held Idle f g
  keep_determined Held Held f g = accepted_same Held Held f g
  keep_determined Held Moved f g = accepted_same Held Moved f g
  keep_determined Moved Idle f g = accepted_same Moved Idle f g
  keep_determined Moved Held f g = accepted_same Moved Held f g
  keep_determined Moved Moved f g = accepted_same Moved Moved f g

-- ---- a sweep
pub record SameSweepKept (a₁ : SweepAnswer) (b₁ : Buffers) (ts₁ : List ℤ) (a₂ : SweepAnswer) (b₂ : Buffers) (ts₂ : List ℤ) : Type 0 where
  pub answer : a₁ ≡ a₂
  pub buffers : b₁ ≡ b₂
  pub totals : ts₁ ≡ ts₂

module _ (keeping : Bool) (w : Sweep) (b : Buffers) (ts : List ℤ) (y z : Buffers) (us vs : List ℤ) where
  swept_same :
      (i m h j o l : ℕ)
      → SweepKeeps keeping w b ts i m h y us
      → SweepKeeps keeping w b ts j o l z vs
      → SameSweepKept (Swept i m h) y us (Swept j o l) z vs
  swept_same i m h j o l f g = record {
    answer = s.answer;
    buffers = s.buffers;
    totals = totals_same keeping w.lattice b.spins ts z.spins us vs f.valid.1.1.1.0 (rw s.buffers at f.totals) g.totals;
  }
    where
      s : SameSweep (Swept i m h) y (Swept j o l) z
      s = sweep_determined w b y z (Swept i m h) (Swept j o l) f.answers g.answers

  pub sweep_keep_determined :
      (a a' : SweepAnswer)
      → SweepKeepAnswers keeping w b ts a y us
      → SweepKeepAnswers keeping w b ts a' z vs
      → SameSweepKept a y us a' z vs
  sweep_keep_determined (Fault r) (Fault s) f g = record {
    answer = ap Fault (broken_unique (swept_rules keeping w b ts) r s f.why g.why);
    buffers = f.kept ∙ sym g.kept;
    totals = f.totals_kept ∙ sym g.totals_kept;
  }
  sweep_keep_determined (Fault r) (Swept i m h) f g = absurd (broken_not_kept (swept_rules keeping w b ts) r f.why g.valid)
  sweep_keep_determined (Swept i m h) (Fault s) f g = absurd (broken_not_kept (swept_rules keeping w b ts) s g.why f.valid)
  sweep_keep_determined (Swept i m h) (Swept j o l) f g = swept_same i m h j o l f g

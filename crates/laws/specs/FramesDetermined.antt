-- One text has one output.
use Rattle.std.specs.Prelude.{ℕ, ◌+◌, ◌*◌, ◌/◌, ◌%◌, ◌<◌, ◌≡◌, List, []}
use Rattle.std.proofs.Math.Path.{sym, ap}
use Rattle.std.proofs.Common.{◌∙◌, subst, inl, inr, mod-lt, div-lt_iff_lt-mul}
use Rattle.std.proofs.Math.Nat.{div-add-mod'}
use Rattle.std.proofs.Math.ListN.{get_or}
use Rattle.std.proofs.Math.Seq.{ext_get_or}
use Rattle.paper.specs.Answer.Cases.{Answer}
use Rattle.paper.specs.Panel.Input.{Buffers}
use Rattle.paper.specs.Refusal.Rule.{Kept, broken_unique, broken_not_kept}
use Rattle.paper.specs.Refusal.Verdict.{Verdict}
use Rattle.paper.specs.Answer.Move.{Answers, accepted_zero}
use Rattle.paper.specs.Answer.Frame.{frame_lattice, frame_call, frame_choices, frame_buffers, HasBack, frame_rules, result, refusal, FrameRuns, FrameAnswers}
use Rattle.laws.specs.Determined.{determined}
use Rattle.laws.specs.FrameKept.{frame_valid_of}

-- the backward table is determined
module _ (text : List ℕ) (some : 0 < (frame_lattice text []).d) where
  n : ℕ
  n = (frame_lattice text []).n

  d : ℕ
  d = (frame_lattice text []).d

  same : (a b : HasBack text) (j e : ℕ) → j < n → e < d → get_or a.bwd (j * d + e) 0 ≡ get_or b.bwd (j * d + e) 0
  unfolding n d
  same a b j e hj he =
      let h = a.inverse.here j e hj he in
      sym (b.inverse.there (get_or a.bwd (j * d + e) 0) e h.inside he).home ∙ ap (λ (q : ℕ). get_or b.bwd (q * d + e) 0) h.home

  back_unique : (a b : HasBack text) → a.bwd ≡ b.bwd
  unfolding n d
  back_unique a b = ext_get_or 0 a.bwd b.bwd (a.long ∙ sym b.long) (λ x l. at x (rw a.long at l))
    where
      at : (x : ℕ) → x < n * d → get_or a.bwd x 0 ≡ get_or b.bwd x 0
      at x l = rw (← div-add-mod' x d) (same a b (x / d) (x % d) ((div-lt_iff_lt-mul some).1 l) (mod-lt x some))

module _ (text : List ℕ) where
  -- what the text's move answers, with the backward table w
  abbrev Ran : List ℕ → Answer → Buffers → Type 0
  Ran w a after = Answers (frame_call text w) (frame_choices text) (frame_buffers text) a after

  -- an accepted answer's number says that all rules are kept
  pub kept_of : {out : List ℕ} → FrameRuns text out → Kept (frame_rules text)
  kept_of f = subst (Verdict (frame_rules text)) (accepted_zero f.accepted) f.valid

  runs_same : (out out' : List ℕ) → FrameRuns text out → FrameRuns text out' → out ≡ out'
  runs_same out out' f g = f.written ∙ (ap result same_after ∙ sym g.written)
    where
      some : 0 < (frame_lattice text []).d
      some = (frame_valid_of text (kept_of f)).sizes.d_low

      again : Ran f.back.bwd g.answer g.after
      again = subst (λ (w : List ℕ). Ran w g.answer g.after) (sym (back_unique text some f.back g.back)) g.answers

      same_after : f.after ≡ g.after
      same_after =
          (determined (frame_call text f.back.bwd) (frame_choices text) (frame_buffers text) f.after g.after f.answer g.answer
          f.answers again).buffers

pub frames_determined : (text out out' : List ℕ) → FrameAnswers text out → FrameAnswers text out' → out ≡ out'
frames_determined text out out' (inl f) (inl g) = f.written ∙ (ap refusal same_number ∙ sym g.written)
  where
    same_number : f.number ≡ g.number
    same_number = broken_unique (frame_rules text) f.number g.number f.why g.why
frames_determined text out out' (inl f) (inr g) = absurd (broken_not_kept (frame_rules text) f.number f.why (kept_of text g))
frames_determined text out out' (inr f) (inl g) = absurd (broken_not_kept (frame_rules text) g.number g.why (kept_of text f))
frames_determined text out out' (inr f) (inr g) = runs_same text out out' f g

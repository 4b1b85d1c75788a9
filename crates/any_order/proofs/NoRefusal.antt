-- In an accepted sweep no step of an unmasked task is refused, and its three steps, on its own rows, are the move on these.
use Rattle.std.specs.Prelude.{ℕ, zero, suc, ◌<◌, ◌≡◌, refl, Bool, false, List, length, ℤ}
use Rattle.std.proofs.Common.{sym, ◌∙◌, ap, subst}
use Rattle.paper.specs.Answer.Cases.{Answer, Answer.Refused, Answer.Idle, Answer.Held, Answer.Moved}
use Rattle.paper.specs.Panel.Input.{Call, Choices, Buffers, size}
use Rattle.paper.specs.Refusal.Rule.{Kept, broken_not_kept}
use Rattle.paper.specs.Refusal.Kept.{valid_kept}
use Rattle.paper.specs.Answer.Move.{Accepted, Accepted.idle, Accepted.held, Accepted.moved}
use Rattle.paper.specs.Answer.Totals.{kept_rules, kept_valid, swept_rules, KeepAnswers}
use Rattle.paper.specs.Answer.Task.{Sweep, tasks, masked, task_call, task_choices, areas}
use Rattle.laws.specs.AnswersLocal.{with_spins}
use Rattle.packing.specs.Bytes.{own_group}
use Rattle.packing.specs.Gathered.{group_rows, own_of}
use Rattle.task_steps.specs.Label.{label_rules, LabelAccepts, LabelAnswers}
use Rattle.task_steps.specs.Choose.{Found, bare_call, choose_rules, ChooseAnswers}
use Rattle.task_steps.specs.Write.{Shape, shape_of, Writing, writing_of, write_rules, WriteAnswers}
use Rattle.task_steps.specs.Found.{accepts}
use Rattle.task_steps.specs.Follow.{label_accepted, choose_accepted, write_accepted}
use Rattle.task_steps.specs.Three.{three_steps}
use Rattle.any_order.specs.Schedule.{Step.label, Step.choose, Step.write, Alone}
use Rattle.any_order.specs.Tasks.{Holding, found_in, writing_in, DoesLabel, DoesChoose, DoesWrite, DoesFor, Holds}
use Rattle.any_order.specs.Sound.{own_task_kept}
use Rattle.any_order.specs.NoRefusal.{Unrefused, NoneRefused}

-- ---- an answer where the rules are kept is no refusal
label_answer :
    (c : Call) (p : Choices) (b : Buffers) (blue : List ℕ) (a : Answer) (b₁ : Buffers) (blue₁ : List ℕ)
    → Kept (label_rules c p b blue)
    → LabelAnswers c p b blue a b₁ blue₁
    → Accepted a
label_answer c p b blue (Refused r) b₁ blue₁ k f = absurd (broken_not_kept (label_rules c p b blue) _ f.why k)
label_answer c p b blue Idle b₁ blue₁ k f = idle
label_answer c p b blue Held b₁ blue₁ k f = held
label_answer c p b blue Moved b₁ blue₁ k f = moved

choose_answer :
    (c : Call) (p : Choices) (xs : List ℤ) (f : Found) (area area₁ : List ℕ) (r : ℕ)
    → Kept (choose_rules c p xs f area)
    → ChooseAnswers c p xs f area r area₁
    → r ≡ 0
choose_answer c p xs f area area₁ zero k a = refl
choose_answer c p xs f area area₁ (suc r) k a = absurd (broken_not_kept (choose_rules c p xs f area) (suc r) a.why k)

write_answer :
    (keeping : Bool) (h : Shape) (l : Writing) (r : ℕ) (ys us : List ℤ) → Kept (write_rules keeping h l) → WriteAnswers keeping h l r ys us → r ≡ 0
write_answer keeping h l zero ys us k a = refl
write_answer keeping h l (suc r) ys us k a = absurd (broken_not_kept (write_rules keeping h l) (suc r) a.why k)

-- ---- the steps of a call on own rows whose rules are kept
module _
    (keeping : Bool) (c : Call) (p : Choices) (h₀ h₁ h₂ h₃ : Holding) (kept : Kept (kept_rules keeping c p h₀.buffers h₀.totals))
    (labelled : Kept (label_rules c p h₀.buffers h₀.blue)) (long : length h₀.area ≡ c.lattice.n) (d₁ : DoesLabel c p h₀ h₁)
  where
    label_unrefused : Accepted h₁.answered
    label_unrefused = label_answer c p h₀.buffers h₀.blue h₁.answered h₁.buffers h₁.blue labelled d₁.answers

    found : LabelAccepts c p h₀.buffers h₀.blue h₁.answered h₁.buffers h₁.blue
    found = accepts c p h₀.buffers h₁.buffers h₀.blue h₁.blue h₁.answered label_unrefused d₁.answers

    module _ (d₂ : DoesChoose c p h₁ h₂) where
      chooses : ChooseAnswers (bare_call c) p h₀.buffers.spins (found_in h₁) h₁.area d₂.r h₂.area
      chooses =
          subst (λ (xs : List ℤ). ChooseAnswers (bare_call c) p xs (found_in h₁) h₁.area d₂.r h₂.area) found.still d₂.answers

      choose_unrefused : d₂.r ≡ 0
      choose_unrefused =
          choose_answer (bare_call c) p h₀.buffers.spins (found_in h₁) h₁.area h₂.area d₂.r
          (choose_accepted found h₁.area (ap length d₁.area ∙ long)) chooses

      chosen : ChooseAnswers (bare_call c) p h₀.buffers.spins (found_in h₁) h₁.area 0 h₂.area
      chosen =
          subst (λ (r : ℕ). ChooseAnswers (bare_call c) p h₀.buffers.spins (found_in h₁) h₁.area r h₂.area) choose_unrefused chooses

      -- what the third is lent is what the first and second left
      lent : writing_in h₂ ≡ writing_of h₀.buffers.spins h₁.buffers.members h₂.area h₀.totals
      lent = cc (d₂.buffers, found.still, d₂.totals, d₁.totals)

      module _ (d₃ : DoesWrite keeping c h₂ h₃) where
        abbrev l : Writing
        l = writing_of h₀.buffers.spins h₁.buffers.members h₂.area h₀.totals

        writes : WriteAnswers keeping (shape_of c) l d₃.r h₃.buffers.spins h₃.totals
        writes = subst (λ (z : Writing). WriteAnswers keeping (shape_of c) z d₃.r h₃.buffers.spins h₃.totals) lent d₃.answers

        write_unrefused : d₃.r ≡ 0
        write_unrefused =
            write_answer keeping (shape_of c) l d₃.r h₃.buffers.spins h₃.totals
            (write_accepted found keeping h₀.totals kept h₁.area h₂.area chosen) writes

        written : WriteAnswers keeping (shape_of c) l 0 h₃.buffers.spins h₃.totals
        written = subst (λ (r : ℕ). WriteAnswers keeping (shape_of c) l r h₃.buffers.spins h₃.totals) write_unrefused writes

        left : with_spins h₁.buffers h₃.buffers.spins ≡ h₃.buffers
        left = sym (d₃.buffers ∙ ap (λ (z : Buffers). with_spins z h₃.buffers.spins) d₂.buffers)

        moves : c.lattice.s ≡ size c → c.group ≡ own_group (size c)
            → KeepAnswers keeping c p h₀.buffers h₀.totals h₁.answered h₃.buffers h₃.totals
        moves own group =
            subst (λ (z : Buffers). KeepAnswers keeping c p h₀.buffers h₀.totals h₁.answered z h₃.totals) left
            (three_steps keeping c p h₀.buffers h₁.buffers h₀.blue h₁.blue h₁.area h₂.area h₀.totals h₃.totals
            h₃.buffers.spins h₁.answered own group label_unrefused d₁.answers chosen written)

-- ---- those of an unmasked task of an accepted sweep
module _
    (keeping : Bool) (w : Sweep) (b : Buffers) (ts : List ℤ) (v : Kept (swept_rules keeping w b ts)) (k : ℕ) (h : k < tasks w)
    (e : masked w k ≡ false) (h₀ : Holding) (s₀ : Holds w b ts k h₀)
  where
    abbrev c : Call
    c = own_of (task_call w k)

    abbrev p : Choices
    p = task_choices w k

    starts_kept : Kept (kept_rules keeping c p h₀.buffers h₀.totals)
    starts_kept =
        subst (λ (z : Buffers). Kept (kept_rules keeping c p z h₀.totals)) (sym s₀.buffers)
        (subst (λ (us : List ℤ). Kept (kept_rules keeping c p (areas w b (group_rows (task_call w k) b.spins) k) us)) (sym s₀.totals)
        (own_task_kept keeping w b ts v k h e))

    label_kept : Kept (label_rules c p h₀.buffers h₀.blue)
    label_kept =
        label_accepted c p h₀.buffers h₀.blue s₀.blue
        (valid_kept c p h₀.buffers (kept_valid keeping c p h₀.buffers h₀.totals starts_kept))

    pub first_unrefused : (h₁ : Holding) (d₁ : DoesFor keeping w k label h₀ h₁) → Unrefused keeping w k label h₀ h₁ d₁
    first_unrefused h₁ d₁ = label_unrefused keeping c p h₀ h₁ h₁ h₁ starts_kept label_kept s₀.area d₁

    pub second_unrefused :
        (h₁ h₂ : Holding) → DoesFor keeping w k label h₀ h₁ → (d₂ : DoesFor keeping w k choose h₁ h₂) → Unrefused keeping w k choose h₁ h₂ d₂
    second_unrefused h₁ h₂ d₁ d₂ = choose_unrefused keeping c p h₀ h₁ h₂ h₂ starts_kept label_kept s₀.area d₁ d₂

    pub third_unrefused :
        (h₁ h₂ h₃ : Holding) → DoesFor keeping w k label h₀ h₁ → DoesFor keeping w k choose h₁ h₂ → (d₃ : DoesFor keeping w k write h₂ h₃)
        → Unrefused keeping w k write h₂ h₃ d₃
    third_unrefused h₁ h₂ h₃ d₁ d₂ d₃ = write_unrefused keeping c p h₀ h₁ h₂ h₃ starts_kept label_kept s₀.area d₁ d₂ d₃

    pub none_refused : (h₃ : Holding) (s : Alone (DoesFor keeping w k) h₀ h₃) → NoneRefused keeping w k h₀ h₃ s
    none_refused h₃ s = record {
      labels = first_unrefused s.h₁ s.labels;
      chooses = second_unrefused s.h₁ s.h₂ s.labels s.chooses;
      writes = third_unrefused s.h₁ s.h₂ h₃ s.labels s.chooses s.writes;
    }

    pub three_are_move :
        (h₃ : Holding) (s : Alone (DoesFor keeping w k) h₀ h₃)
        → KeepAnswers keeping (own_of (task_call w k)) (task_choices w k) h₀.buffers h₀.totals s.h₁.answered h₃.buffers h₃.totals
    three_are_move h₃ s =
        moves keeping c p h₀ s.h₁ s.h₂ h₃ starts_kept label_kept s₀.area s.labels s.chooses s.writes refl refl

-- An unmasked task of an accepted sweep that has done its three steps, on rows of its own, has done its move in the panel.
use Rattle.std.specs.Prelude.{ℕ, ◌<◌, ◌≡◌, Bool, false, List, ℤ}
use Rattle.std.proofs.Common.{sym, ◌∙◌, subst}
use Rattle.paper.specs.Answer.Cases.{Answer}
use Rattle.paper.specs.Panel.Input.{Call, Choices, Buffers}
use Rattle.paper.specs.Refusal.Rule.{Kept}
use Rattle.paper.specs.Answer.Move.{Accepted, Accepted.idle, Accepted.held, Accepted.moved}
use Rattle.paper.specs.Answer.Totals.{swept_rules, KeepAccepts, KeepAnswers}
use Rattle.paper.specs.Answer.Task.{Sweep, tasks, masked, task_call, task_choices, areas}
use Rattle.laws.specs.AnswersLocal.{with_spins}
use Rattle.packing.specs.Gathered.{group_rows, own_of}
use Rattle.own_rows.specs.PutBack.{group_totals, PutBack, PutTotals}
use Rattle.own_rows.specs.Totals.{own_keep_answers}
use Rattle.any_order.specs.Schedule.{Alone}
use Rattle.any_order.specs.Tasks.{Holding, DoesFor, Holds}
use Rattle.any_order.specs.Sound.{task_kept}
use Rattle.any_order.proofs.NoRefusal.{none_refused, three_are_move}

accepts :
    (keeping : Bool) (c : Call) (p : Choices) (b : Buffers) (ts : List ℤ) (a : Answer) (b' : Buffers) (us : List ℤ)
    → Accepted a
    → KeepAnswers keeping c p b ts a b' us
    → KeepAccepts keeping c p b ts a b' us
accepts keeping c p b ts a b' us idle f = f
accepts keeping c p b ts a b' us held f = f
accepts keeping c p b ts a b' us moved f = f

module _
    (keeping : Bool) (w : Sweep) (b : Buffers) (ts : List ℤ) (v : Kept (swept_rules keeping w b ts)) (k : ℕ) (h : k < tasks w)
    (e : masked w k ≡ false) (h₀ h₃ : Holding) (s₀ : Holds w b ts k h₀) (s : Alone (DoesFor keeping w k) h₀ h₃)
  where
    same_answer : h₃.answered ≡ s.h₁.answered
    same_answer = s.writes.answered ∙ s.chooses.answered

    accepted : Accepted h₃.answered
    accepted = subst Accepted (sym same_answer) (none_refused keeping w b ts v k h e h₀ s₀ h₃ s).labels

    on_own :
        KeepAnswers keeping (own_of (task_call w k)) (task_choices w k) (areas w b (group_rows (task_call w k) b.spins) k) (group_totals (task_call w k) ts)
        h₃.answered h₃.buffers h₃.totals
    on_own =
        subst (λ (z : Buffers). Leaves z (group_totals (task_call w k) ts) h₃.answered) s₀.buffers
        (subst (λ (z : List ℤ). Leaves h₀.buffers z h₃.answered) s₀.totals
        (subst (λ (z : Answer). Leaves h₀.buffers h₀.totals z) (sym same_answer) (three_are_move keeping w b ts v k h e h₀ s₀ h₃ s)))
      where
        Leaves : Buffers → List ℤ → Answer → Type 0
        Leaves z us a = KeepAnswers keeping (own_of (task_call w k)) (task_choices w k) z us a h₃.buffers h₃.totals

    pub own_totals : keeping ≡ false → h₃.totals ≡ group_totals (task_call w k) ts
    own_totals q =
        (accepts keeping (own_of (task_call w k)) (task_choices w k) (areas w b (group_rows (task_call w k) b.spins) k) (group_totals (task_call w k) ts)
        h₃.answered h₃.buffers h₃.totals accepted on_own).totals.left q

    pub in_panel :
        (ys us : List ℤ)
        → PutBack (task_call w k) b.spins h₃.buffers.spins ys
        → PutTotals (task_call w k) ts h₃.totals us
        → KeepAccepts keeping (task_call w k) (task_choices w k) (areas w b b.spins k) ts h₃.answered (with_spins h₃.buffers ys) us
    in_panel ys us p q =
        accepts keeping (task_call w k) (task_choices w k) (areas w b b.spins k) ts h₃.answered (with_spins h₃.buffers ys) us accepted
        (own_keep_answers keeping (task_call w k) (task_choices w k) (areas w b b.spins k) ts (task_kept keeping w b ts v k h e) h₃.buffers h₃.totals
        ys us p q h₃.answered accepted on_own)

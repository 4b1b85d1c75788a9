-- The three counts of a sweep. An unmasked task is counted as idle exactly if no site of it acts, as held exactly if its one component is held, and as
-- moved exactly if neither is so; and how the counts grow from task to task.
use Rattle.std.specs.Prelude.{ℕ, zero, suc, ◌+◌, ◌<◌, ◌≡◌, refl, ◌↔◌, ◌≢◌, Bool, true, false, not, cond, ◌&&◌, List, eqb, get_or, ℤ}
use Rattle.std.proofs.Common.{sym, ◌∙◌, ap, arith, eq-eqb, ne_eqb}
use Rattle.lemmas.specs.Bools.{never}
use Rattle.lemmas.specs.Counts.{bit, count_where, count_zero, count_ext, count_suc, count_no}
use Rattle.paper.specs.Answer.Cases.{Answer, Answer.Refused, Answer.Idle, Answer.Held, Answer.Moved}
use Rattle.paper.specs.Panel.Input.{Call, Choices, Buffers}
use Rattle.paper.specs.Panel.Takes.{one_cluster}
use Rattle.paper.specs.Site.Acting.{SomeActs, NoneActs}
use Rattle.paper.specs.Refusal.Rule.{Kept, broken_not_kept}
use Rattle.paper.specs.Refusal.Rules.{When, rules}
use Rattle.paper.specs.Answer.Move.{SeedHeld, Answers}
use Rattle.paper.specs.Answer.Task.{Sweep, tasks, masked, task_call, task_choices, areas, is_idle, is_moved, is_held, tasks_that}
use Rattle.paper.specs.Answer.Sweep.{Sweeps}
use Rattle.laws.specs.Determined.{not_both}
use Rattle.laws.specs.SweepTasks.{task_valid}

-- ---- what a move's answer says of its call
pub record HeldCall (c : Call) (xs : List ℤ) : Type 0 where
  pub some : SomeActs c xs
  pub one : one_cluster c.form ≡ true
  pub held : SeedHeld c xs

pub record FreeCall (c : Call) (xs : List ℤ) : Type 0 where
  pub some : SomeActs c xs
  pub free : When (one_cluster c.form) (SeedHeld c xs → ⊥)

module _ (c : Call) (p : Choices) (b b' : Buffers) (v : Kept (rules c p b)) where
  pub idle_says : (a : Answer) → Answers c p b a b' → (is_idle a ≡ true) ↔ NoneActs c b.spins
  idle_says (Refused r) f = absurd (broken_not_kept (rules c p b) r f.why v)
  idle_says Idle f = ((λ _. f.none), (λ _. refl))
  idle_says Held f = ((λ e. never e), (λ n. absurd (not_both c b.spins f.some n)))
  idle_says Moved f = ((λ e. never e), (λ n. absurd (not_both c b.spins f.some n)))

  pub held_says : (a : Answer) → Answers c p b a b' → (is_held a ≡ true) ↔ HeldCall c b.spins
  held_says (Refused r) f = absurd (broken_not_kept (rules c p b) r f.why v)
  held_says Idle f = ((λ e. never e), (λ h. absurd (not_both c b.spins h.some f.none)))
  held_says Held f = ((λ _. record { some = f.some; one = f.one; held = f.held }), (λ _. refl))
  held_says Moved f = ((λ e. never e), (λ h. absurd (f.free h.one h.held)))

  pub moved_says : (a : Answer) → Answers c p b a b' → (is_moved a ≡ true) ↔ FreeCall c b.spins
  moved_says (Refused r) f = absurd (broken_not_kept (rules c p b) r f.why v)
  moved_says Idle f = ((λ e. never e), (λ h. absurd (not_both c b.spins h.some f.none)))
  moved_says Held f = ((λ e. never e), (λ h. absurd (h.free f.one f.held)))
  moved_says Moved f = ((λ _. record { some = f.some; free = f.free }), (λ _. refl))

-- ---- and a sweep's tasks
-- the unmasked tasks below K whose answer is of the kind
abbrev pub count_to : (Answer → Bool) → Sweep → (ℕ → Answer) → ℕ → ℕ
count_to kind w f K = count_where (λ k. not (masked w k) && kind (f k)) K

once : (t : Bool) (a : Answer) → bit (t && is_idle a) + bit (t && is_moved a) + bit (t && is_held a) ≡ bit t
once false a = refl
once true (Refused r) = refl
once true Idle = refl
once true Held = refl
once true Moved = refl

all_once :
    (w : Sweep) (f : ℕ → Answer) (K : ℕ)
    → count_to is_idle w f K + count_to is_moved w f K + count_to is_held w f K ≡ count_where (λ k. not (masked w k)) K
unfolding count_where
all_once w f zero = refl
all_once w f (suc K) = omega (arith, all_once w f K, once (not (masked w K)) (f K))

module _ (w : Sweep) (b b' : Buffers) (i m h : ℕ) (s : Sweeps w b i m h b') where
  module _ (k : ℕ) (below : k < tasks w) (e : masked w k ≡ false) where
    valid : Kept (rules (task_call w k) (task_choices w k) (areas w b b.spins k))
    valid = task_valid w b s.valid k below e

    pub counted_idle : (is_idle (s.answered k) ≡ true) ↔ NoneActs (task_call w k) b.spins
    counted_idle =
        idle_says (task_call w k) (task_choices w k) (areas w b b.spins k) (areas w b' (s.each k below e).spins k) valid (s.answered k)
        (s.each k below e).answers

    pub counted_held : (is_held (s.answered k) ≡ true) ↔ HeldCall (task_call w k) b.spins
    counted_held =
        held_says (task_call w k) (task_choices w k) (areas w b b.spins k) (areas w b' (s.each k below e).spins k) valid (s.answered k)
        (s.each k below e).answers

    pub counted_moved : (is_moved (s.answered k) ≡ true) ↔ FreeCall (task_call w k) b.spins
    counted_moved =
        moved_says (task_call w k) (task_choices w k) (areas w b b.spins k) (areas w b' (s.each k below e).spins k) valid (s.answered k)
        (s.each k below e).answers

  -- a form that moves more than one component, or none, holds no task
  pub none_held : one_cluster w.form ≡ false → h ≡ 0
  none_held many = ap (λ (vs : List ℕ). get_or vs 2 0) s.counts ∙ count_zero _ (tasks w) (λ k l. at k l (masked w k) refl)
    where
      not_held : (t : Bool) → (t ≡ true → ⊥) → t ≡ false
      not_held true n = absurd (n refl)
      not_held false n = refl

      at : (k : ℕ) → k < tasks w → (t : Bool) → masked w k ≡ t → (not t && is_held (s.answered k)) ≡ false
      at k l true e = refl
      at k l false e = not_held (is_held (s.answered k)) (λ q. never (sym many ∙ ((counted_held k l e).0 q).one))

  -- each unmasked task is in one of the counts
  pub counts_all : i + m + h ≡ count_where (λ k. not (masked w k)) (tasks w)
  counts_all =
      let ei : i ≡ tasks_that is_idle w s.answered = ap (λ (vs : List ℕ). get_or vs 0 0) s.counts in
      let em : m ≡ tasks_that is_moved w s.answered = ap (λ (vs : List ℕ). get_or vs 1 0) s.counts in
      let eh : h ≡ tasks_that is_held w s.answered = ap (λ (vs : List ℕ). get_or vs 2 0) s.counts in
      omega (arith, ei, em, eh, all_once w s.answered (tasks w))

-- ---- from task to task
-- the tasks were answered f, and then the task K was answered a
abbrev pub and_then : (ℕ → Answer) → ℕ → Answer → ℕ → Answer
and_then f K a k = cond (eqb k K) a (f k)

module _ (f : ℕ → Answer) (K : ℕ) (a : Answer) where
  pub then_here : and_then f K a K ≡ a
  then_here = rw (eq-eqb K K refl) refl

  pub then_before : (k : ℕ) → k ≢ K → and_then f K a k ≡ f k
  then_before k n = rw (ne_eqb k K n) refl

  module _ (kind : Answer → Bool) (w : Sweep) where
    before : count_to kind w (and_then f K a) K ≡ count_to kind w f K
    before = count_ext _ _ K (λ k l. ap (λ (x : Answer). not (masked w k) && kind x) (then_before k (λ q. omega arith)))

    pub then_counts : masked w K ≡ false → count_to kind w (and_then f K a) (K + 1) ≡ count_to kind w f K + bit (kind a)
    then_counts e = count_suc _ K ∙ rw (before, e, then_here) refl

-- a masked task, whatever is said of it, changes no count
pub skipped_counts : (kind : Answer → Bool) (w : Sweep) (f : ℕ → Answer) (K : ℕ) → masked w K ≡ true → count_to kind w f (K + 1) ≡ count_to kind w f K
skipped_counts kind w f K e = count_no _ K (rw e refl)

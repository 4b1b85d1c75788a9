-- Whose a system is: of one unmasked task of the sweep, at one place of its group, or of none.
use Rattle.std.specs.Prelude.{ℕ, suc, ◌+◌, ◌*◌, ◌/◌, ◌%◌, ◌<◌, ◌≡◌, refl, ◌⊎◌, ◌≢◌, Bool, true, false, cond}
use Rattle.std.proofs.Common.{inl, inr, arith, mod-lt, div-lt_iff_lt-mul}
use Rattle.lemmas.specs.Places.{Placed, Unplaced, place}
use Rattle.lemmas.specs.Cells.{row_of, column_of_lem, cell_lt}
use Rattle.paper.specs.Panel.Input.{Call, size, system}
use Rattle.paper.specs.Answer.Task.{Sweep, tasks, masked, task_call}
use Rattle.paper.specs.Answer.Sweep.{Unmoved}

-- ---- a test of whether a system is in a group
abbrev found : {A B : Type 0} → A ⊎ B → Bool
found (inl a) = true
found (inr b) = false

pub is_in_group : Call → ℕ → Bool
is_in_group c t = found (place (size c) (system c) t)

pub in_group : (c : Call) (k : ℕ) → k < size c → is_in_group c (system c k) ≡ true
unfolding is_in_group
in_group c k h = go (place (size c) (system c) (system c k))
  where
    go : (q : Placed (size c) (system c) (system c k) ⊎ Unplaced (size c) (system c) (system c k)) → found q ≡ true
    go (inl q) = refl
    go (inr q) = absurd (q k h refl)

pub off_group : (c : Call) (t : ℕ) → ((k : ℕ) → k < size c → t ≢ system c k) → is_in_group c t ≡ false
unfolding is_in_group
off_group c t n = go (place (size c) (system c) t)
  where
    go : (q : Placed (size c) (system c) t ⊎ Unplaced (size c) (system c) t) → found q ≡ false
    go (inl q) = absurd (n q.0 q.1 q.2)
    go (inr q) = refl

-- ---- of all tasks
pub record Owned (w : Sweep) (t : ℕ) : Type 0 where
  pub task : ℕ
  pub below : task < tasks w
  pub unmasked : masked w task ≡ false
  pub place : ℕ
  pub inside : place < w.members
  pub is : t ≡ system (task_call w task) place

-- the system at the place x of all tasks' groups, one after another; of a masked task another than t
abbrev listed : Sweep → ℕ → ℕ → ℕ
listed w t x = cond (masked w (x / w.members)) (suc t) (system (task_call w (x / w.members)) (x % w.members))

pub whose : (w : Sweep) (t : ℕ) → 0 < w.members → Owned w t ⊎ Unmoved w t
whose w t some = go (place (tasks w * w.members) (listed w t) t)
  where
    at : (x : ℕ) → x < tasks w * w.members → (m : Bool) → masked w (x / w.members) ≡ m
        → t ≡ cond m (suc t) (system (task_call w (x / w.members)) (x % w.members)) → Owned w t
    at x h true e q = absurd (omega (arith, q))
    at x h false e q = record {
      task = x / w.members;
      below = (div-lt_iff_lt-mul some).1 h;
      unmasked = e;
      place = x % w.members;
      inside = mod-lt x some;
      is = q;
    }

    nowhere : Unplaced (tasks w * w.members) (listed w t) t → Unmoved w t
    nowhere u k x hk e hx q =
        u (k * w.members + x) (cell_lt (tasks w) w.members k x hk hx)
        (rw (row_of w.members k x hx, column_of_lem w.members k x hx, e) q)

    go : Placed (tasks w * w.members) (listed w t) t ⊎ Unplaced (tasks w * w.members) (listed w t) t → Owned w t ⊎ Unmoved w t
    go (inl q) = inl (at q.0 q.1 (masked w (q.0 / w.members)) refl q.2)
    go (inr q) = inr (nowhere q)

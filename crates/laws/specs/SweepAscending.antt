-- Tasks run one after another: a task that meets its own rows and areas as they were before the sweep does what it would do alone.
use Prim.Native.Nat.{ℕ, suc, ◌+◌, ◌*◌, ◌/◌, ◌%◌, ◌<◌, ◌≤◌}
use Rattle.std.specs.Prelude.{◌≡◌, ◌⊎◌, List, length, get_or, pos}
use Rattle.std.proofs.Math.Path.{refl}
use Rattle.std.proofs.Common.{sym, ◌∙◌, ap, inl, inr, mod-lt, le_antisymm}
use native.Mathlib.Omega.{arith}
use Rattle.std.proofs.Math.Decide.{dec_lt, dec_le}
use Rattle.std.proofs.Math.Nat.{div-add-mod', mul-le-mul_right, suc-mul}
use Rattle.std.proofs.Math.ListN.{get_or-eq_default}
use Rattle.std.proofs.Math.IntN.{ℤ}
use Rattle.lemmas.specs.Places.{Placed, place}
use Rattle.lemmas.specs.Cells.{row_of, tabulate, length_tabulate, tabulate_at, some_group}
use Rattle.paper.specs.Answer.Cases.{Answer}
use Rattle.paper.specs.Panel.Input.{Call, Buffers, pattern, spin, size, system}
use Rattle.paper.specs.Refusal.Rule.{Kept}
use Rattle.paper.specs.Answer.Move.{Answers, Accepted}
use Rattle.paper.specs.Answer.Task.{Sweep, groups, tasks, temperature_of, task_call, task_choices, areas}
use Rattle.paper.specs.Answer.Sweep.{sweep_rules, Done}
use Rattle.laws.specs.Unique.{Outside}
use Rattle.laws.specs.Local.{Agree}
use Rattle.laws.specs.AnswersLocal.{Rows, local}
use Rattle.laws.specs.SweepKept.{sweep_valid_of}
use Rattle.laws.specs.SweepTasks.{system_is, listed}

-- ---- two tasks have no system in common
at_most : (r a b u v : ℕ) → v < r → a * r + u ≡ b * r + v → a ≤ b
at_most r a b u v hv e = go (dec_le a b)
  where
    go : Dec (a ≤ b) → a ≤ b
    go (yes h) = h
    go (no h) = let l : suc b ≤ a = omega arith in absurd (omega (arith, mul-le-mul_right r l, suc-mul b r))

same_quotient : (r a b u v : ℕ) → u < r → v < r → a * r + u ≡ b * r + v → a ≡ b
same_quotient r a b u v hu hv e = le_antisymm (at_most r a b u v hv e) (at_most r b a v u hu (sym e))

module _ (w : Sweep) (b : Buffers) (v : Kept (sweep_rules w b)) where
  -- the place of a task's system among its temperature's order entries
  place_in : ℕ → ℕ → ℕ
  place_in k x = (k % groups w) * w.members + x

  within : (k x : ℕ) → k < tasks w → x < w.members → place_in k x < w.r
  unfolding place_in
  within k x h l = omega (
    arith,
    mul-le-mul_right w.members (mod-lt k (some_group w.t (groups w) k h)),
    suc-mul (k % groups w) w.members,
    div-add-mod' w.r w.members,
  )

  pub tasks_apart :
      (k m x y : ℕ)
      → k < tasks w
      → m < tasks w
      → x < w.members
      → y < w.members
      → system (task_call w k) x ≡ system (task_call w m) y
      → k ≡ m
  unfolding place_in
  tasks_apart k m x y hk hm hx hy e = rw (← div-add-mod' k (groups w), ← div-add-mod' m (groups w)) (cc (same_t, same_g))
    where
      index : temperature_of w k * w.r + (k % groups w) * w.members + x ≡ temperature_of w m * w.r + (m % groups w) * w.members + y
      index =
          (sweep_valid_of w b v).order.distinct _ _ (listed w b v k hk x hx) (listed w b v m hm y hy)
          (sym (system_is w b v k hk x hx) ∙ (e ∙ system_is w b v m hm y hy))

      same_t : k / groups w ≡ m / groups w
      same_t =
          same_quotient w.r (k / groups w) (m / groups w) (place_in k x) (place_in m y) (within k x hk hx) (within m y hm hy)
          (omega (arith, index))

      same_g : k % groups w ≡ m % groups w
      same_g =
          same_quotient w.members (k % groups w) (m % groups w) x y hx hy
          (omega (arith, index, ap (λ (q : ℕ). q * w.r) same_t))

-- ---- the group's rows of `to`, the other rows of xs
abbrev choose : {A B : Type 0} → A ⊎ B → ℤ → ℤ → ℤ
choose (inl a) x y = x
choose (inr b) x y = y

choose_zero : {A B : Type 0} (q : A ⊎ B) → choose q (pos 0) (pos 0) ≡ pos 0
choose_zero (inl a) = refl
choose_zero (inr b) = refl

-- the spin x of a system of the group, the spin y of another
abbrev pick_by : Call → ℕ → ℤ → ℤ → ℤ
pick_by c t x y = choose (place (size c) (system c) t) x y

merged : Call → List ℤ → List ℤ → List ℤ
merged c xs to = tabulate (length xs) (λ x. pick_by c (x / c.lattice.n) (get_or to x (pos 0)) (get_or xs x (pos 0)))

module _ (c : Call) (xs to : List ℤ) (same : length to ≡ length xs) where
  abbrev chosen_cell : ℕ → ℕ → ℤ
  chosen_cell t i = pick_by c t (spin c.lattice.n to t i) (spin c.lattice.n xs t i)

  cell : (t i : ℕ) → i < c.lattice.n → spin c.lattice.n (merged c xs to) t i ≡ chosen_cell t i
  unfolding merged
  cell t i hi = go (dec_lt (t * c.lattice.n + i) (length xs))
    where
      f : ℕ → ℤ
      f x = pick_by c (x / c.lattice.n) (get_or to x (pos 0)) (get_or xs x (pos 0))

      go : Dec (t * c.lattice.n + i < length xs) → get_or (tabulate (length xs) f) (t * c.lattice.n + i) (pos 0) ≡ chosen_cell t i
      go (yes h) =
          tabulate_at (length xs) f (t * c.lattice.n + i) h
          ∙ ap (λ (q : ℕ). pick_by c q (spin c.lattice.n to t i) (spin c.lattice.n xs t i)) (row_of c.lattice.n t i hi)
      go (no h) =
          let far : length xs ≤ t * c.lattice.n + i = omega arith in
          get_or-eq_default (tabulate (length xs) f) (pos 0) (omega (arith, length_tabulate (length xs) f))
          ∙ sym (ap (λ (x : ℤ). pick_by c t x (spin c.lattice.n xs t i)) (get_or-eq_default to (pos 0) (omega (arith, same)))
          ∙ (ap (λ (x : ℤ). pick_by c t (pos 0) x) (get_or-eq_default xs (pos 0) far) ∙ choose_zero (place (size c) (system c) t)))

  merged_rows : Rows c xs to (merged c xs to)
  unfolding merged
  merged_rows = record {
    long = length_tabulate (length xs) _;
    group = λ i hi k hk. cell (system c k) i hi ∙ inside i k hk (place (size c) (system c) (system c k));
    others = λ i t hi out. cell t i hi ∙ outside i t out (place (size c) (system c) t);
  }
    where
      inside :
          (i k : ℕ)
          → k < size c
          → (q : Placed (size c) (system c) (system c k) ⊎ Outside c (system c k))
          → choose q (pattern c to i k) (pattern c xs i k) ≡ pattern c to i k
      inside i k hk (inl q) = refl
      inside i k hk (inr q) = absurd (q k hk refl)

      outside :
          (i t : ℕ)
          → Outside c t
          → (q : Placed (size c) (system c) t ⊎ Outside c t)
          → choose q (spin c.lattice.n to t i) (spin c.lattice.n xs t i) ≡ spin c.lattice.n xs t i
      outside i t out (inl q) = absurd (out q.0 q.1 q.2)
      outside i t out (inr q) = refl

-- task k ran on the spins xs, whose rows of its group were still those before the sweep, and left ys; its rows stayed so until the end, b'
pub done :
    (w : Sweep) (b b' : Buffers) (k : ℕ) (a : Answer) (xs ys : List ℤ)
    → length b.spins ≡ length xs
    → length ys ≡ length xs
    → ((i : ℕ) → i < w.lattice.n → Agree w.members (pattern (task_call w k) b.spins i) (pattern (task_call w k) xs i))
    → Accepted a
    → Answers (task_call w k) (task_choices w k) (areas w b xs k) a (areas w b' ys k)
    → ((i x : ℕ) → i < w.lattice.n → x < w.members → pattern (task_call w k) b'.spins i x ≡ pattern (task_call w k) ys i x)
    → Done w b b' k a
done w b b' k a xs ys long long' own acc ans stays = record {
  spins = merged (task_call w k) b.spins ys;
  answers =
      local (task_call w k) (task_choices w k) (areas w b xs k) (areas w b' ys k) b.spins long own a acc ans
      (merged (task_call w k) b.spins ys) rows;
  rows = λ i x hi hx. stays i x hi hx ∙ sym (rows.group i hi x hx);
}
  where
    rows : Rows (task_call w k) b.spins ys (merged (task_call w k) b.spins ys)
    rows = merged_rows (task_call w k) b.spins ys (long' ∙ sym long)

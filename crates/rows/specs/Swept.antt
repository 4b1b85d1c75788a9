-- A sweep by computing: perm, SW, one site and four temperatures of two replicas. Task 0 is idle, task 1 moves, task 2 moves by the identity and
-- task 3 is masked.
use Rattle.std.specs.Prelude.{ℕ, zero, suc, ◌≤◌, ◌<◌, ◌≡◌, refl, ◌⊎◌, true, false, not, List, [], ◌∷◌, get_or, ℤ, pos}
use Rattle.std.proofs.Common.{sym, ◌∙◌, inl, inr, arith}
use Rattle.std.proofs.Math.Decide.{dec_lt}
use Rattle.std.proofs.lemmas.Bool.{not-true}
use Rattle.std.proofs.Math.ListN.{get_or-eq_default}
use Rattle.std.specs.Float.{nan}
use Rattle.lemmas.specs.Counts.{count_where}
use Rattle.lemmas.specs.Cells.{table, only_column}
use Rattle.lemmas.specs.Bools.{never, every}
use Rattle.paper.specs.declared.Mode.TheVariants.{Perm}
use Rattle.paper.specs.declared.Form.TheVariants.{Sw}
use Rattle.paper.specs.Answer.Cases.{Answer, Answer.Idle, Answer.Moved}
use Rattle.paper.specs.Answer.Cases.{SweepAnswer, SweepAnswer.Swept}
use Rattle.paper.specs.Panel.Input.{Buffers, spin, pattern, system}
use Rattle.paper.specs.Site.Acting.{differs, acts}
use Rattle.paper.specs.Site.Bonds.{holds}
use Rattle.paper.specs.Component.Sizes.{size_of, is_first}
use Rattle.paper.specs.Move.Moving.{has_one, reached, final}
use Rattle.paper.specs.Answer.Task.{Sweep, masked, task_call, task_choices, areas}
use Rattle.paper.specs.Answer.Sweep.{Done, Unmoved, SweepAnswers}
use Rattle.paper.specs.Answer.Same.{SameSwept}
use Rattle.paper.specs.Rows.Cases.{+, -, line}
use Rattle.laws.specs.Decided.{Decided, eq, same, is, either, all, some, any}
use Rattle.laws.specs.ByAnswer.{goes_by, rests_by}
use Rattle.laws.specs.SweepDetermined.{SameSweep, sweep_determined}
use Rattle.laws.specs.SweepVerdicts.{sweep_accepted_by}
use Rattle.laws.specs.SweepUntaken.{sweep_untaken}

-- eight systems of one site, joined to itself
abbrev sweep : Sweep
sweep = record {
  mode = Perm;
  form = Sw;
  lattice = line 1 8 (0 ∷ []) (0 ∷ []) [];
  pins = 0 ∷ [];
  systems = 8;
  t = 4;
  r = 2;
  members = 2;
  order = 0 ∷ 1 ∷ 2 ∷ 3 ∷ 4 ∷ 5 ∷ 6 ∷ 7 ∷ [];
  masks = 0 ∷ 0 ∷ 0 ∷ 1 ∷ [];
  temperatures = [];
  cuts = [];
  references = [];
  seeds = [];
  choices = 1 ∷ 0 ∷ 1 ∷ 0 ∷ 0 ∷ 1 ∷ 9 ∷ 9 ∷ [];
  greys = [];
}

abbrev before : Buffers
before = record {
  spins = + ∷ + ∷ + ∷ - ∷ + ∷ - ∷ - ∷ - ∷ [];
  labels = 9 ∷ 9 ∷ 9 ∷ 9 ∷ [];
  grey_labels = [];
  counts = 9 ∷ 9 ∷ 9 ∷ 9 ∷ 9 ∷ 9 ∷ 9 ∷ 9 ∷ [];
  sizes = 9 ∷ 9 ∷ 9 ∷ 9 ∷ 9 ∷ 9 ∷ 9 ∷ 9 ∷ 9 ∷ 9 ∷ 9 ∷ 9 ∷ 9 ∷ 9 ∷ 9 ∷ 9 ∷ [];
  members = [];
  found = 9 ∷ 9 ∷ 9 ∷ 9 ∷ [];
  grey_found = [];
}

-- task 1 exchanged the systems 2 and 3, and task 3's areas are as they were
abbrev after : Buffers
after = record {
  spins = + ∷ + ∷ - ∷ + ∷ + ∷ - ∷ - ∷ - ∷ [];
  labels = 0 ∷ 0 ∷ 0 ∷ 9 ∷ [];
  grey_labels = [];
  counts = 0 ∷ 0 ∷ 0 ∷ 1 ∷ 0 ∷ 1 ∷ 9 ∷ 9 ∷ [];
  sizes = 0 ∷ 0 ∷ 0 ∷ 0 ∷ 1 ∷ 0 ∷ 0 ∷ 0 ∷ 1 ∷ 0 ∷ 0 ∷ 0 ∷ 9 ∷ 9 ∷ 9 ∷ 9 ∷ [];
  members = [];
  found = 1 ∷ 1 ∷ 1 ∷ 9 ∷ [];
  grey_found = [];
}

-- task k's rows after the sweep are those of ys, by computing
abbrev same_row : List ℤ → ℕ → ℕ → ℕ → Type 0
same_row ys k i x = pattern (task_call sweep k) after.spins i x ≡ pattern (task_call sweep k) ys i x

abbrev rows_of : (k : ℕ) (ys : List ℤ) → Decided ((i : ℕ) → i < 1 → (x : ℕ) → x < 2 → same_row ys k i x)
rows_of k ys = all 1 (λ i. all 2 (λ x. same (pattern (task_call sweep k) after.spins i x) (pattern (task_call sweep k) ys i x)))

-- task k's areas before, and after with the spins ys
abbrev lent : ℕ → Buffers
lent k = areas sweep before before.spins k

abbrev left : List ℤ → ℕ → Buffers
left ys k = areas sweep after ys k

task0 : Done sweep before after 0 Idle
unfolding table every any holds acts differs size_of is_first count_where has_one reached final
task0 = record {
  spins = before.spins;
  answers = rests_by (task_call sweep 0) (task_choices sweep 0) (lent 0) (left before.spins 0) [] [] refl (λ _. (refl, refl)) refl refl;
  rows = λ i x hi hx. (rows_of 0 before.spins).holds refl i hi x hx;
}

task1 : Done sweep before after 1 Moved
unfolding table every any holds acts differs size_of is_first count_where has_one reached final
task1 = record {
  spins = after.spins;
  answers = goes_by (task_call sweep 1) (task_choices sweep 1) (lent 1) (left after.spins 1) [] [] refl (λ _. (refl, refl)) refl;
  rows = λ i x hi hx. refl;
}

task2 : Done sweep before after 2 Moved
unfolding table every any holds acts differs size_of is_first count_where has_one reached final
task2 = record {
  spins = before.spins;
  answers = goes_by (task_call sweep 2) (task_choices sweep 2) (lent 2) (left before.spins 2) [] [] refl (λ _. (refl, refl)) refl;
  rows = λ i x hi hx. (rows_of 2 before.spins).holds refl i hi x hx;
}

abbrev answered : ℕ → Answer
answered zero = Idle
answered (suc k) = Moved

each : (k : ℕ) → k < 4 → masked sweep k ≡ false → Done sweep before after k (answered k)
each zero h e = task0
each (suc zero) h e = task1
each (suc (suc zero)) h e = task2
each (suc (suc (suc zero))) h e = never (sym e)
each (suc (suc (suc (suc k)))) h e = absurd (omega arith)

skipped : (k : ℕ) → k < 4 → masked sweep k ≡ true → areas sweep after before.spins k ≡ areas sweep before before.spins k
skipped zero h e = never e
skipped (suc zero) h e = never e
skipped (suc (suc zero)) h e = never e
skipped (suc (suc (suc zero))) h e = refl
skipped (suc (suc (suc (suc k)))) h e = absurd (omega arith)

-- each system is in the group of a task 0 to 2, or keeps its spin
abbrev Grouped : ℕ → Type 0
Grouped t = (k : ℕ) × (k < 3) × ((x : ℕ) × (x < 2) × (t ≡ system (task_call sweep k) x))

abbrev Kept1 : ℕ → Type 0
Kept1 t = get_or after.spins t (pos 0) ≡ get_or before.spins t (pos 0)

abbrev grouped_or_kept : (t : ℕ) → Decided (Grouped t ⊎ Kept1 t)
grouped_or_kept t =
    either (some 3 (λ k. some 2 (λ x. eq t (system (task_call sweep k) x)))) (same (get_or after.spins t (pos 0)) (get_or before.spins t (pos 0)))

others : (i t : ℕ) → i < 1 → Unmoved sweep t → spin 1 after.spins t i ≡ spin 1 before.spins t i
unfolding table every any
others i t hi out = rw (only_column t i hi) (go (dec_lt t 8))
  where
    open' : (k : ℕ) → k < 3 → masked sweep k ≡ false
    open' k h = not-true (masked sweep k) ((all 3 (λ k. is (not (masked sweep k)))).holds refl k h)

    at : Grouped t ⊎ Kept1 t → Kept1 t
    at (inl r) = absurd (out r.0 r.2.0 (omega (arith, r.1)) (open' r.0 r.1) r.2.1 r.2.2)
    at (inr r) = r

    go : Dec (t < 8) → Kept1 t
    go (yes h) = at ((all 8 grouped_or_kept).holds refl t h)
    go (no h) = get_or-eq_default after.spins (pos 0) far ∙ sym (get_or-eq_default before.spins (pos 0) far)
      where
        far : 8 ≤ t
        far = omega arith

-- one task was idle, two moved and none was held; the masked task is in no count
pub swept : SweepAnswers sweep before (Swept 1 2 0) after
unfolding table every any acts differs count_where
swept = record {
  valid = sweep_accepted_by sweep before refl;
  answered = answered;
  counts = refl;
  lengths = record { spins = refl; labels = refl; counts = refl; sizes = refl; grey_labels = refl; members = refl; found = refl; grey_found = refl };
  each = each;
  skipped = skipped;
  others = others;
  kept = record {
    labels = λ e. never (sym e);
    grey_labels = λ _. refl;
    counts = λ e. never (sym e);
    sizes = λ e. never (sym e);
    members = λ _. refl;
    found = λ e. never (sym e);
    grey_found = λ _. refl;
  };
}

pub swept_only : (a : SweepAnswer) (z : Buffers) → SweepAnswers sweep before a z → SameSweep (Swept 1 2 0) after a z
swept_only a z h = sweep_determined sweep before after z (Swept 1 2 0) a swept h

-- other choices of the masked task, and other inputs that perm does not take: the same answer
abbrev apart : Sweep
apart = record {
  mode = Perm;
  form = Sw;
  lattice = line 1 8 (0 ∷ []) (0 ∷ []) (pos 7 ∷ []);
  pins = 0 ∷ [];
  systems = 8;
  t = 4;
  r = 2;
  members = 2;
  order = 0 ∷ 1 ∷ 2 ∷ 3 ∷ 4 ∷ 5 ∷ 6 ∷ 7 ∷ [];
  masks = 0 ∷ 0 ∷ 0 ∷ 1 ∷ [];
  temperatures = nan ∷ [];
  cuts = nan ∷ [];
  references = 5 ∷ [];
  seeds = 5 ∷ [];
  choices = 1 ∷ 0 ∷ 1 ∷ 0 ∷ 0 ∷ 1 ∷ 0 ∷ 0 ∷ [];
  greys = 5 ∷ [];
}

choices_same : (k : ℕ) → k < 4 → masked sweep k ≡ false → (task_choices apart k).choices ≡ (task_choices sweep k).choices
choices_same zero h e = refl
choices_same (suc zero) h e = refl
choices_same (suc (suc zero)) h e = refl
choices_same (suc (suc (suc zero))) h e = never (sym e)
choices_same (suc (suc (suc (suc k)))) h e = absurd (omega arith)

apart_same : SameSwept sweep apart
apart_same = record {
  mode = refl;
  form = refl;
  panel = record { n = refl; d = refl; s = refl; fwd = refl; bwd = refl; couplings = λ t. never t };
  pins = refl;
  systems = refl;
  t = refl;
  r = refl;
  members = refl;
  order = refl;
  masks = refl;
  temperatures = λ t. never t;
  cuts = λ t. never t;
  references = λ t. never t;
  seeds = λ t. never t;
  choices = λ _. refl;
  greys = λ t. never t;
  each = λ k h e. record {
    call = record {
      mode = refl;
      form = refl;
      panel = record { n = refl; d = refl; s = refl; fwd = refl; bwd = refl; couplings = λ t. never t };
      pins = refl;
      members = refl;
      systems = λ x l. refl;
      temperature = λ t. never t;
      cuts = λ t. never t;
      reference = λ t. never t;
      seed = λ t. never t;
    };
    choices = record { choices = λ _. choices_same k h e; greys = λ t. never t };
  };
}

pub swept_apart : SweepAnswers apart before (Swept 1 2 0) after
swept_apart = (sweep_untaken apart_same before (Swept 1 2 0) after).0 swept

-- The forms that label: what choosing asks, and that to observe leaves every column.
use Rattle.std.specs.Prelude.{ℕ, ◌≤◌, ◌<◌, ◌≡◌, refl, Bool, true, false, List, [], length, ℤ}
use Rattle.std.proofs.Common.{sym, ◌∙◌, arith}
use Rattle.lemmas.specs.Bools.{never}
use Rattle.paper.specs.declared.Task.{Task}
use Rattle.paper.specs.Panel.Input.{Call, Choices, pattern, size}
use Rattle.paper.specs.Panel.Made.{call_of, choices_of}
use Rattle.paper.specs.Panel.Takes.{moves, takes_greys, takes_seed}
use Rattle.paper.specs.Move.Moving.{reached, final}
use Rattle.paper.specs.Refusal.Rules.{When}
use Rattle.laws.specs.Entries.{reached_moves}
use Rattle.columns.specs.Column.{Columns, column_ext}
use Rattle.choose.specs.Chosen.{Tallyable}
use Rattle.moves.specs.Given.{Given, Keys}
use Rattle.task_choose.specs.Asked.{Asks}

-- a form that moves takes a label for each site, and in CMR a grey one
pub record LabelledAsks (t : Task) (xs : List ℤ) (pins choices greys labels grey_labels area : List ℕ) : Type 0 where
  pub asks : Asks (call_of t [] [] pins [] []) (choices_of choices greys) xs
  pub seeded : When (takes_seed (call_of t [] [] pins [] [])) (t.seed < t.n)
  pub keys : When (moves t.form) (Keys t.n labels)
  pub grey_keys : When (takes_greys (call_of t [] [] pins [] [])) (Keys t.n grey_labels)
  pub area_long : length area ≡ t.n

-- what the choices of a form that moves lean on
pub given : (c : Call) (p : Choices) (xs : List ℤ) → Asks c p xs → When (takes_seed c) (c.seed < c.lattice.n) → moves c.form ≡ true → Given c p xs
given c p xs a seeded moving = record {
  ranged = a.ranged;
  spins = a.spins;
  choices = a.choices_long;
  greys = a.greys_long;
  chosen = a.chosen;
  seeded = seeded;
  moving = moving;
}

-- and what the sizes of their components are counted from
pub tallyable : {n : ℕ} {pins labels tally : List ℕ} → n ≤ 4096 → length pins ≡ n → Keys n labels → length tally ≡ n → Tallyable pins labels tally
tallyable few pinned keys long = record {
  few = omega arith;
  holdable = record {
    labelled = keys.long ∙ sym pinned;
    tallied = long ∙ sym pinned;
    below = λ i h. rw pinned (keys.below i (rw pinned at h));
  };
}

-- ---- to observe
module _ (c : Call) (p : Choices) (xs : List ℤ) (l g : List ℕ) (resting : moves c.form ≡ false) where
  unreached : (i : ℕ) → reached c xs l i ≡ false
  unreached i = go (reached c xs l i) refl
    where
      go : (b : Bool) → reached c xs l i ≡ b → b ≡ false
      go true e = never (sym resting ∙ reached_moves c xs l i e)
      go false e = refl

  final_rests : (i k : ℕ) → final c p xs l g i k ≡ pattern c xs i k
  unfolding final
  final_rests i k = rw (resting, unreached i)

  pub columns_rest : {n : ℕ} {cols : List ℕ} → Columns n (size c) (pattern c xs) cols → Columns n (size c) (final c p xs l g) cols
  columns_rest w = record {
    long = w.long;
    at = λ i h. w.at i h ∙ column_ext (size c) (pattern c xs i) (final c p xs l g i) (λ k _. sym (final_rests i k));
  }

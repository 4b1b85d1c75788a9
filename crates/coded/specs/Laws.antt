-- A move by numbers is the move by their rows, and so is a sweep. So whatever holds of calls by rows holds of these: demand 3, totals, locality.
use Rattle.std.specs.Prelude.{ℕ, ◌≡◌, ◌↔◌, Bool, true, false, List, ℤ}
use Rattle.std.proofs.Common.{sym, subst}
use Rattle.lemmas.specs.Bools.{never}
use Rattle.paper.specs.Answer.Cases.{Answer}
use Rattle.paper.specs.Answer.Cases.{SweepAnswer}
use Rattle.paper.specs.Panel.Input.{Call, Choices, Buffers, size}
use Rattle.paper.specs.Panel.Made.{choices_of}
use Rattle.paper.specs.Answer.Task.{Sweep}
use Rattle.paper.specs.Answer.Totals.{KeepAnswers, SweepKeepAnswers}
use Rattle.laws.specs.KeepDetermined.{SameKept, SameSweepKept}
use Rattle.spelling.specs.Laws.{Rows, rows_are}
use Rattle.coded.specs.Answer.{CodedAnswers}
use Rattle.coded.specs.Sweep.{with_choices, SweepCodedAnswers}
use Rattle.coded.specs.Determined.{overlap_step_by_determined, overlap_update_by_determined}

-- ---- a move

-- by rows it is the call as it was
pub plain : (keeping : Bool) (c : Call) (p : Choices) (b : Buffers) (ts : List ℤ) (a : Answer) (b' : Buffers) (ts' : List ℤ)
    → CodedAnswers false keeping c p b ts a b' ts' ↔ KeepAnswers keeping c p b ts a b' ts'
plain keeping c p b ts a b' ts' = (λ k. k.five (λ e. never e), λ k. record { five = λ _. k; other = λ n. absurd (n (λ e. never e)) })

module _ (keeping : Bool) (c : Call) (vs xs greys : List ℕ) (b : Buffers) (ts : List ℤ) (five : size c ≡ 5) (w : Rows vs xs) where
  -- refused calls included
  pub by_rows : (a : Answer) (b' : Buffers) (ts' : List ℤ)
      → CodedAnswers true keeping c (choices_of vs greys) b ts a b' ts' ↔ CodedAnswers false keeping c (choices_of xs greys) b ts a b' ts'
  by_rows a b' ts' = (
    λ k. (plain keeping c (choices_of xs greys) b ts a b' ts').1 (subst Is (rows_are vs xs w) (k.five (λ _. five))),
    λ k. record {
      five = λ _. subst Is (sym (rows_are vs xs w)) ((plain keeping c (choices_of xs greys) b ts a b' ts').0 k);
      other = λ n. absurd (n (λ _. five));
    },
  )
    where
      Is : List ℕ → Type 0
      Is zs = KeepAnswers keeping c (choices_of zs greys) b ts a b' ts'

  -- one answer, one content of every buffer and one of the totals
  pub by_rows_same : (a a' : Answer) (y z : Buffers) (us us' : List ℤ)
      → CodedAnswers true keeping c (choices_of vs greys) b ts a y us
      → CodedAnswers false keeping c (choices_of xs greys) b ts a' z us'
      → SameKept a y us a' z us'
  by_rows_same a a' y z us us' f g =
      overlap_step_by_determined false keeping c (choices_of xs greys) b ts y z us us' a a' ((by_rows a y us).0 f) g

-- ---- a sweep

pub sweep_plain : (keeping : Bool) (w : Sweep) (b : Buffers) (ts : List ℤ) (a : SweepAnswer) (b' : Buffers) (ts' : List ℤ)
    → SweepCodedAnswers false keeping w b ts a b' ts' ↔ SweepKeepAnswers keeping w b ts a b' ts'
sweep_plain keeping w b ts a b' ts' = (λ k. k.five (λ e. never e), λ k. record { five = λ _. k; other = λ n. absurd (n (λ e. never e)) })

module _ (keeping : Bool) (s : Sweep) (vs xs : List ℕ) (b : Buffers) (ts : List ℤ) (five : s.members ≡ 5) (w : Rows vs xs) where
  pub sweep_by_rows : (a : SweepAnswer) (b' : Buffers) (ts' : List ℤ)
      → SweepCodedAnswers true keeping (with_choices vs s) b ts a b' ts' ↔ SweepCodedAnswers false keeping (with_choices xs s) b ts a b' ts'
  sweep_by_rows a b' ts' = (
    λ k. (sweep_plain keeping (with_choices xs s) b ts a b' ts').1 (subst Is (rows_are vs xs w) (k.five (λ _. five))),
    λ k. record {
      five = λ _. subst Is (sym (rows_are vs xs w)) ((sweep_plain keeping (with_choices xs s) b ts a b' ts').0 k);
      other = λ n. absurd (n (λ _. five));
    },
  )
    where
      Is : List ℕ → Type 0
      Is zs = SweepKeepAnswers keeping (with_choices zs s) b ts a b' ts'

  pub sweep_by_rows_same : (a a' : SweepAnswer) (y z : Buffers) (us us' : List ℤ)
      → SweepCodedAnswers true keeping (with_choices vs s) b ts a y us
      → SweepCodedAnswers false keeping (with_choices xs s) b ts a' z us'
      → SameSweepKept a y us a' z us'
  sweep_by_rows_same a a' y z us us' f g =
      overlap_update_by_determined false keeping (with_choices xs s) b ts y z us us' a a' ((sweep_by_rows a y us).0 f) g

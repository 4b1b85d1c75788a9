-- The sweep has one answer, and leaves one content of every buffer and of the totals.
use Rattle.std.specs.Prelude.{Bool, List, ℤ, ◌≡◌, Result}
use Rattle.paper.specs.declared.Refusal.{Refusal}
use Rattle.paper.specs.declared.Counts.{Counts}
use Rattle.paper.specs.Answer.Cases.{sweep_answer_of, sweep_answer_of_injective}
use Rattle.paper.specs.Answer.Cases.{SweepAnswer}
use Rattle.paper.specs.Panel.Input.{Buffers}
use Rattle.paper.specs.Answer.Task.{Sweep}
use Rattle.paper.specs.Answer.Totals.{SweepKeepAnswers}
use Rattle.laws.specs.KeepDetermined.{SameSweepKept, sweep_keep_determined}

pub overlap_update_determined :
    (keeping : Bool) (w : Sweep) (b : Buffers) (ts : List ℤ) (y z : Buffers) (us vs : List ℤ) (a a' : SweepAnswer)
    → SweepKeepAnswers keeping w b ts a y us
    → SweepKeepAnswers keeping w b ts a' z vs
    → SameSweepKept a y us a' z vs
overlap_update_determined = sweep_keep_determined

pub overlap_update_result_determined :
    (keeping : Bool) (w : Sweep) (b : Buffers) (ts : List ℤ) (y z : Buffers) (us vs : List ℤ) (a a' : Result Counts Refusal)
    → SweepKeepAnswers keeping w b ts (sweep_answer_of a) y us
    → SweepKeepAnswers keeping w b ts (sweep_answer_of a') z vs
    → a ≡ a'
overlap_update_result_determined keeping w b ts y z us vs a a' f g =
    sweep_answer_of_injective a a' (sweep_keep_determined keeping w b ts y z us vs (sweep_answer_of a) (sweep_answer_of a') f g).answer

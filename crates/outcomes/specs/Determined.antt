-- One more answer leaves one count of each kind, and the counts are told in one way.
use Rattle.std.specs.Prelude.{◌≡◌}
use Rattle.std.proofs.Common.{sym, ◌∙◌}
use Rattle.lemmas.specs.Determined.{one_value}
use Rattle.paper.specs.declared.Counts.{Counts}
use Rattle.paper.specs.Answer.Cases.{Answer}
use Rattle.paper.specs.Answer.Cases.{SweepAnswer, SweepAnswer.Swept, sweep_answer_by, sweep_answer_by_injective}
use Rattle.outcomes.specs.declared.Outcomes.{Outcomes}
use Rattle.outcomes.specs.Adding.{Added}

pub add_determined : (t : Outcomes) (a : Answer) (x y : Outcomes) → Added t a x → Added t a y → x ≡ y
add_determined t a x y p q = λ i. record { idle = idle i; moved = moved i; held = held i }
  where
    idle : x.idle ≡ y.idle
    idle = p.idle ∙ sym q.idle

    moved : x.moved ≡ y.moved
    moved = p.moved ∙ sym q.moved

    held : x.held ≡ y.held
    held = p.held ∙ sym q.held

pub told_determined : (t : Outcomes) (a b : SweepAnswer) → a ≡ Swept t.idle t.moved t.held → b ≡ Swept t.idle t.moved t.held → a ≡ b
told_determined t a b = one_value

-- and of one result
pub told_result_determined : (t : Outcomes) (a b : Counts)
    → sweep_answer_by a ≡ Swept t.idle t.moved t.held → sweep_answer_by b ≡ Swept t.idle t.moved t.held → a ≡ b
told_result_determined t a b p q = sweep_answer_by_injective a b (told_determined t (sweep_answer_by a) (sweep_answer_by b) p q)

-- How tight the promises are: for one input they allow one result.
use Rattle.std.specs.Prelude.{ℕ, ◌≡◌, Bool, List, ℤ, Float}
use Rattle.std.proofs.Common.{sym, ◌∙◌}
use Rattle.paper.specs.declared.Task.{Task}
use Rattle.judge.specs.declared.Rule.{Rule}
use Rattle.judge.specs.Judged.{Prepared}
use Rattle.judge.specs.Drawn.{judged_on}

pub prepare_determined : (t : Task) (grey : Bool) (xs : List ℤ) (r r' : Rule) → Prepared t grey xs r → Prepared t grey xs r' → r ≡ r'
prepare_determined t grey xs r r' p q =
    let task = p.task ∙ sym q.task in
    let colour = p.grey ∙ sym q.grey in
    let sampler = p.sampler ∙ sym q.sampler in
    let byte = p.gauge ∙ sym q.gauge in
    λ i. record { task = task i; grey = colour i; sampler = sampler i; gauge = byte i }

pub judge_determined :
    (r : Rule) (js : List ℤ) (cuts : List Float) (i e x y : ℕ) (b b' : Bool)
    → b ≡ judged_on r js cuts i e x y → b' ≡ judged_on r js cuts i e x y → b ≡ b'
judge_determined r js cuts i e x y b b' p q = p ∙ sym q

-- One result: what the promise allows for one input is one answer, and no two results are one answer.
use Rattle.std.specs.Prelude.{ℕ, ◌≡◌, Result}
use Rattle.paper.specs.declared.Refusal.{Refusal}
use Rattle.label.specs.Labelling.{labelling_of, labelling_of_injective}
use Rattle.label.specs.Entry.{Request, Lent, Answers}
use Rattle.label.specs.Determined.{components_determined}

pub components_result_determined : (r : Request) (b y z : Lent) (a a' : Result (Unit {0}) Refusal)
    → Answers r b (labelling_of a) y → Answers r b (labelling_of a') z → a ≡ a'
components_result_determined r b y z a a' p q =
    labelling_of_injective a a' (components_determined r b y z (labelling_of a) (labelling_of a') p q).answer

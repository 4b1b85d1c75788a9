-- A move's promise allows one answer and one content of every buffer.
use Rattle.paper.specs.Answer.Cases.{Answer}
use Rattle.std.specs.Prelude.{◌≡◌, Result}
use Rattle.paper.specs.declared.Refusal.{Refusal}
use Rattle.paper.specs.declared.Outcome.{Outcome}
use Rattle.paper.specs.Answer.Cases.{answer_of, answer_of_injective}
use Rattle.paper.specs.Panel.Input.{Call, Choices, Buffers}
use Rattle.paper.specs.Answer.Move.{Answers}
use Rattle.laws.specs.Determined.{Same, determined}

pub houdayer_step_determined : (c : Call) (p : Choices) (b y z : Buffers) (a a' : Answer) → Answers c p b a y → Answers c p b a' z → Same a y a' z
houdayer_step_determined = determined

pub jorg_step_determined : (c : Call) (p : Choices) (b y z : Buffers) (a a' : Answer) → Answers c p b a y → Answers c p b a' z → Same a y a' z
jorg_step_determined = determined

pub cmr_step_determined : (c : Call) (p : Choices) (b y z : Buffers) (a a' : Answer) → Answers c p b a y → Answers c p b a' z → Same a y a' z
cmr_step_determined = determined

-- of each of the three
pub step_result_determined : (c : Call) (p : Choices) (b y z : Buffers) (a a' : Result Outcome Refusal)
    → Answers c p b (answer_of a) y → Answers c p b (answer_of a') z → a ≡ a'
step_result_determined c p b y z a a' f g = answer_of_injective a a' (determined c p b y z (answer_of a) (answer_of a') f g).answer

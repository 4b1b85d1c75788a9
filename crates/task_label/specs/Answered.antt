-- From the verdict of the tests, and what was found, to the step's answer.
use Rattle.std.specs.Prelude.{◌≡◌, refl, true, false, List, ℕ, ℤ}
use Rattle.paper.specs.Answer.Cases.{Answer, Answer.Refused, Answer.Idle, Answer.Held, Answer.Moved}
use Rattle.paper.specs.Panel.Input.{graph, Call, Choices, Buffers}
use Rattle.paper.specs.Panel.Takes.{grows_by, labels_by}
use Rattle.paper.specs.Site.Bonds.{holds}
use Rattle.paper.specs.Component.Members.{Members}
use Rattle.paper.specs.Refusal.Rule.{Kept, Broken}
use Rattle.paper.specs.Refusal.Rules.{When}
use Rattle.paper.specs.Answer.Move.{Seen, SeenAll}
use Rattle.lemmas.specs.Bools.{never}
use Rattle.laws.specs.Forms.{not_grows}
use Rattle.grow.specs.Task.{Outputs, with_outputs}
use Rattle.task_steps.specs.Label.{takes_blue, label_rules, Says, LabelAccepts, LabelAnswers}
use Rattle.task_label.specs.Grown.{GrownLeaves, grown_seen}
use Rattle.task_label.specs.Labelled.{labelled_seen}

pub refused_by : (c : Call) (p : Choices) (b : Buffers) (blue : List ℕ) (r : ℕ) → Broken (label_rules c p b blue) r → LabelAnswers c p b blue (Refused r) b blue
refused_by c p b blue r w = record { why = w; kept = refl; blue_kept = refl }

module _ (c : Call) (p : Choices) (b : Buffers) (blue : List ℕ) (k : Kept (label_rules c p b blue)) (b' : Buffers) (blue' : List ℕ)
    (still : b'.spins ≡ b.spins) (seen : Seen c b b') (sites : When (takes_blue c) (Members (graph c) (holds c b.spins) c.seed blue'))
    (left : takes_blue c ≡ false → blue' ≡ blue)
  where
    accepts : (a : Answer) → Says c b.spins a → LabelAccepts c p b blue a b' blue'
    accepts a s = record { valid = k; says = s; still = still; seen = seen; blue_sites = sites; blue_left = left }

    answers : (a : Answer) → Says c b.spins a → LabelAnswers c p b blue a b' blue'
    answers (Refused r) s = absurd s
    answers Idle s = accepts Idle s
    answers Held s = accepts Held s
    answers Moved s = accepts Moved s

pub grown_answers :
    (c : Call) (p : Choices) (o : Outputs) (xs : List ℤ) (members blue members' blue' : List ℕ) (a : Answer) → grows_by c.form ≡ true
    → Kept (label_rules c p (with_outputs o xs members) blue) → GrownLeaves c xs blue a members' blue'
    → LabelAnswers c p (with_outputs o xs members) blue a (with_outputs o xs members') blue'
grown_answers c p o xs members blue members' blue' a g k w =
    answers c p (with_outputs o xs members) blue k (with_outputs o xs members') blue' refl (grown_seen o g w) w.blue_sites w.blue_left a w.says

pub labelled_answers :
    (c : Call) (p : Choices) (b b' : Buffers) (blue : List ℕ) (a : Answer) → labels_by c.form ≡ true → Kept (label_rules c p b blue)
    → b'.spins ≡ b.spins → Says c b.spins a → SeenAll c b b' → LabelAnswers c p b blue a b' blue
labelled_answers c p b b' blue a l k still s w =
    answers c p b blue k b' blue still (labelled_seen l w) (λ e. never (none e)) (λ _. refl) a s
  where
    none : takes_blue c ≡ true → false ≡ true
    none e = rw (not_grows c.form l) at e

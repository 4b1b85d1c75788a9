-- The first step of a task, on its own rows: it tests what the move tests and writes what the move writes beside the spins (14/14).
use Rattle.std.specs.Prelude.{ℕ, ◌≡◌, Bool, true, false, ◌&&◌, List, [], ◌∷◌, length, ℤ}
use Rattle.paper.specs.Answer.Cases.{Answer, Answer.Refused, Answer.Idle, Answer.Held, Answer.Moved}
use Rattle.paper.specs.Panel.Input.{graph, Call, Choices, Buffers}
use Rattle.paper.specs.Panel.Takes.{grows_by, one_cluster, takes_greys}
use Rattle.paper.specs.Site.Acting.{SomeActs, NoneActs}
use Rattle.paper.specs.Site.Bonds.{holds}
use Rattle.paper.specs.Component.Members.{Members}
use Rattle.paper.specs.Refusal.Rule.{Rule, rule, Kept, Broken}
use Rattle.paper.specs.Refusal.Rules.{When, More, rules_with}
use Rattle.paper.specs.Answer.Number.{number}
use Rattle.paper.specs.Answer.Move.{Seen, SeedHeld}

-- CMR's members do not tell which of them the blue bonds join to the seed: the step that grows hands these over, a byte for each site
abbrev pub takes_blue : Call → Bool
takes_blue c = grows_by c.form && takes_greys c

abbrev pub blue_ask : Call → List ℕ → More
blue_ask c blue = record { lengths = rule 2 (When (takes_blue c) (length blue ≡ c.lattice.n)) ∷ []; couplings = []; last = [] }

-- the move's refusals in their order
abbrev pub label_rules : Call → Choices → Buffers → List ℕ → List Rule
label_rules c p b blue = rules_with (blue_ask c blue) c p b

-- some site acts, and the one component that the form would move is held; is not held
pub record SaysHeld (c : Call) (xs : List ℤ) : Type 0 where
  pub some : SomeActs c xs
  pub one : one_cluster c.form ≡ true
  pub held : SeedHeld c xs

pub record SaysMoved (c : Call) (xs : List ℤ) : Type 0 where
  pub some : SomeActs c xs
  pub free : When (one_cluster c.form) (SeedHeld c xs → ⊥)

-- what the move will answer
abbrev pub Says : Call → List ℤ → Answer → Type 0
Says c xs (Refused r) = ⊥
Says c xs Idle = NoneActs c xs
Says c xs Held = SaysHeld c xs
Says c xs Moved = SaysMoved c xs

-- refused with the number r: nothing is written
pub record LabelRefuses (c : Call) (p : Choices) (b : Buffers) (blue : List ℕ) (r : ℕ) (b' : Buffers) (blue' : List ℕ) : Type 0 where
  pub why : Broken (label_rules c p b blue) r
  pub kept : b' ≡ b
  pub blue_kept : blue' ≡ blue

-- else the move's outputs are, and no spin
pub record LabelAccepts (c : Call) (p : Choices) (b : Buffers) (blue : List ℕ) (a : Answer) (b' : Buffers) (blue' : List ℕ) : Type 0 where
  pub valid : Kept (label_rules c p b blue)
  pub says : Says c b.spins a
  pub still : b'.spins ≡ b.spins
  pub seen : Seen c b b'
  pub blue_sites : When (takes_blue c) (Members (graph c) (holds c b.spins) c.seed blue')
  pub blue_left : takes_blue c ≡ false → blue' ≡ blue

-- the answer a may be given to the first step of the call c with the choices p, the lent buffers b and the area blue, which then hold b' and blue'
abbrev pub LabelAnswers : Call → Choices → Buffers → List ℕ → Answer → Buffers → List ℕ → Type 0
LabelAnswers c p b blue (Refused r) b' blue' = LabelRefuses c p b blue (number (Refused r)) b' blue'
LabelAnswers c p b blue Idle b' blue' = LabelAccepts c p b blue Idle b' blue'
LabelAnswers c p b blue Held b' blue' = LabelAccepts c p b blue Held b' blue'
LabelAnswers c p b blue Moved b' blue' = LabelAccepts c p b blue Moved b' blue'

-- What a move answers, for every input, and what every lent buffer then holds.
use Rattle.std.specs.Prelude.{◌≡◌, refl, Bool, true, false, cond, List, ℕ, ◌<◌, ℤ}
use Rattle.lemmas.specs.Stores.{Cleared}
use Rattle.paper.specs.Answer.Cases.{Answer, Answer.Refused, Answer.Idle, Answer.Held, Answer.Moved}
use Rattle.paper.specs.Answer.Number.{number}
use Rattle.paper.specs.Panel.Input.{graph, Call, Choices, Buffers, pinned}
use Rattle.paper.specs.Panel.Takes.{is_cmr, one_cluster, grows_by, labels_by, takes_greys}
use Rattle.paper.specs.Site.Acting.{acts, SomeActs, NoneActs}
use Rattle.paper.specs.Site.Bonds.{holds, holds_grey}
use Rattle.paper.specs.Component.Labels.{Joined, Numbered}
use Rattle.paper.specs.Component.Members.{Members}
use Rattle.paper.specs.Component.Sizes.{Counted, Largest}
use Rattle.paper.specs.Move.Moving.{Moves}
use Rattle.paper.specs.Refusal.Rule.{Broken}
use Rattle.paper.specs.Refusal.Rules.{When, rules}
use Rattle.paper.specs.Refusal.Verdict.{Verdict}

-- every component: labels, counts and sizes are those of the spins before the move. Numbered are all components, idle ones too. Counted are those that
-- act, which in CMR are all: a component acts as its smallest site does
pub record SeenAll (c : Call) (b b' : Buffers) : Type 0 where
  pub labels : Numbered (graph c) (holds c b.spins) b'.labels b'.found
  pub grey_labels : When (takes_greys c) (Numbered (graph c) (holds_grey c b.spins) b'.grey_labels b'.grey_found)
  pub grey_kept : takes_greys c ≡ false → b'.grey_labels ≡ b.grey_labels
  pub grey_found_kept : takes_greys c ≡ false → b'.grey_found ≡ b.grey_found
  pub counts : Counted (acts c b.spins) b'.labels b'.counts
  pub sizes : Largest (acts c b.spins) b'.labels b'.sizes
  pub members_kept : b'.members ≡ b.members

-- the bonds that lead from one member to another: in CMR the grey ones
abbrev pub member_bonds : Call → List ℤ → ℕ → ℕ → Bool
member_bonds c xs = cond (is_cmr c.mode) (holds_grey c xs) (holds c xs)

-- the seed's component: its members on the spins before the move. If the seed does not act it has none
pub record SeenOne (c : Call) (b b' : Buffers) : Type 0 where
  pub members : When (acts c b.spins c.seed) (Members (graph c) (member_bonds c b.spins) c.seed b'.members)
  pub none : acts c b.spins c.seed ≡ false → Cleared c.lattice.n b'.members
  pub labels_kept : b'.labels ≡ b.labels
  pub grey_kept : b'.grey_labels ≡ b.grey_labels
  pub counts_kept : b'.counts ≡ b.counts
  pub sizes_kept : b'.sizes ≡ b.sizes
  pub found_kept : b'.found ≡ b.found
  pub grey_found_kept : b'.grey_found ≡ b.grey_found

-- what is written beside the spins
pub record Seen (c : Call) (b b' : Buffers) : Type 0 where
  pub all : When (labels_by c.form) (SeenAll c b b')
  pub one : When (grows_by c.form) (SeenOne c b b')

-- refused with the number r: nothing is written
pub record Refuses (c : Call) (p : Choices) (b : Buffers) (r : ℕ) (b' : Buffers) : Type 0 where
  pub why : Broken (rules c p b) r
  pub kept : b' ≡ b

-- idle: no site acts
pub record Rests (c : Call) (p : Choices) (b b' : Buffers) : Type 0 where
  pub valid : Verdict (rules c p b) (number Idle)
  pub none : NoneActs c b.spins
  pub still : b'.spins ≡ b.spins
  pub seen : Seen c b b'

-- the seed's component, in CMR the blue one, has a pinned site
pub record SeedHeld (c : Call) (xs : List ℤ) : Type 0 where
  pub site : ℕ
  pub below : site < c.lattice.n
  pub pin : pinned c site ≡ true
  pub joined : Joined (graph c) (holds c xs) c.seed site

-- held: the seed's component, the one that the form would move, is held
pub record Stays (c : Call) (p : Choices) (b b' : Buffers) : Type 0 where
  pub valid : Verdict (rules c p b) (number Held)
  pub some : SomeActs c b.spins
  pub one : one_cluster c.form ≡ true
  pub held : SeedHeld c b.spins
  pub still : b'.spins ≡ b.spins
  pub seen : Seen c b b'

-- moved with the members as bytes. In CMR these are of the grey component: the sites of the blue one, which are flipped first, are not written
pub record Turns (c : Call) (p : Choices) (xs : List ℤ) (members : List ℕ) (ys : List ℤ) : Type 0 where
  pub blue : List ℕ
  pub joined : Members (graph c) (holds c xs) c.seed blue
  pub moved : Moves c p xs blue members ys

-- any other accepted call. To observe moves no site
pub record Goes (c : Call) (p : Choices) (b b' : Buffers) : Type 0 where
  pub valid : Verdict (rules c p b) (number Moved)
  pub some : SomeActs c b.spins
  pub free : When (one_cluster c.form) (SeedHeld c b.spins → ⊥)
  pub moved : When (labels_by c.form) (Moves c p b.spins b'.labels b'.grey_labels b'.spins)
  pub turned : When (grows_by c.form) (Turns c p b.spins b'.members b'.spins)
  pub seen : Seen c b b'

-- the answer a may be given to the call c with the choices p and the lent buffers b, which then hold b'
abbrev pub Answers : Call → Choices → Buffers → Answer → Buffers → Type 0
Answers c p b (Refused r) b' = Refuses c p b (number (Refused r)) b'
Answers c p b Idle b' = Rests c p b b'
Answers c p b Held b' = Stays c p b b'
Answers c p b Moved b' = Goes c p b b'

-- an answer that is no refusal
pub data Accepted : Answer → Type 0 where
  idle : Accepted Idle
  held : Accepted Held
  moved : Accepted Moved

-- has the number 0
pub accepted_zero : {a : Answer} → Accepted a → number a ≡ 0
accepted_zero idle = refl
accepted_zero held = refl
accepted_zero moved = refl

-- Demand 3 of document 00: the pair, perm, gperm and two-replica houd moves act as a group. Each part below cites its clause. The moves are those
-- of demand 2: `Answers` is what the public moves ensure. An accepted move has tested that its systems' spins are +1 or -1, systems distinct and
-- neighbour tables inverse; other rows it does not look at (12/14). Read from the top; Theorem.antt proves `Demand3` for every call of these modes, and
-- `Boundary`; NamedRows.antt says the same where other rows change between the moves, and Teams.antt of a team's calls.
use Rattle.std.specs.Prelude.{ℕ, zero, suc, ◌+◌, ◌*◌, ◌/◌, ◌%◌, ◌<◌, ◌≡◌, ◌≢◌, ◌↔◌, true, false, cond, List, [], eqb, get_or, ℤ, pos, negsuc}
use Rattle.lemmas.specs.Cells.{table}
use Rattle.paper.specs.declared.Mode.{Mode}
use Rattle.paper.specs.declared.Mode.TheVariants.{Houd, Pair, Perm, Gperm, Jorg, Cmr}
use Rattle.paper.specs.declared.Form.TheVariants.{Sw, Wolff}
use Rattle.paper.specs.Answer.Cases.{Answer.Refused, Answer.Idle, Answer.Held, Answer.Moved}
use Rattle.paper.specs.Panel.Input.{graph, Call, Choices, Buffers, pattern, spin, size, system}
use Rattle.paper.specs.Panel.Takes.{is_perm, moves, entries}
use Rattle.paper.specs.Site.Acting.{acts}
use Rattle.paper.specs.Site.Bonds.{holds}
use Rattle.paper.specs.Site.Energy.{bond_sum}
use Rattle.paper.specs.Component.Labels.{Joined, Numbered}
use Rattle.paper.specs.Component.Sizes.{label_of}
use Rattle.paper.specs.Move.Moving.{chosen, reached, Moves}
use Rattle.paper.specs.Refusal.Rules.{Exact, Chosen, NotIdentity, perm_row}
use Rattle.paper.specs.Answer.Move.{Answers}
use Rattle.paper.specs.Answer.Same.{SameTaken}
use Rattle.laws.specs.Local.{Agree}
use Rattle.paper.specs.Rows.Cases.{houd4, no_choices, before12, after12}

-- ---- which moves: "the pair, perm, gperm and two-replica houd moves", for any number of sites, directions and systems and any group size m
abbrev pub Reversible : Mode → ℕ → Type 0
Reversible Houd m = m ≡ 2
Reversible Pair m = Unit {0}
Reversible Perm m = Unit {0}
Reversible Gperm m = Unit {0}
Reversible Jorg m = ⊥
Reversible Cmr m = ⊥

-- a move of the call c, choosing p, that is not refused; b are the lent buffers before it and b' after it
pub data Move (c : Call) (p : Choices) (b b' : Buffers) : Type 0 where
  idle : Answers c p b Idle b' → Move c p b b'
  held : Answers c p b Held b' → Move c p b b'
  moved : Answers c p b Moved b' → Move c p b b'

-- "such" a move: of any call on c's panel, with the same pins, with "the same mode, group, form, gauge site and seed", as far as these are taken. So two
-- such moves may differ in couplings, temperature and cuts, in group entries past N, in SW in the seed, outside gperm in the site, and in choices that
-- are not taken
pub record Such (c : Call) (p : Choices) (b b' : Buffers) : Type 0 where
  pub call : Call
  pub choices : Choices
  pub same : SameTaken c p call choices
  pub move : Move call choices b b'

-- ---- "A move keeps the active sites, the components and, for every bond, the sum over the group of the product of its end spins."
pub record Keeps (c : Call) (b b' : Buffers) : Type 0 where
  pub acting : (i : ℕ) → i < c.lattice.n → acts c b'.spins i ≡ acts c b.spins i
  -- the components: two sites are joined after the move just if they were before it; their numbers and how many there are, as the move wrote them,
  -- are right for both
  pub components :
      (i j : ℕ)
      → i < c.lattice.n
      → j < c.lattice.n
      → Joined (graph c) (holds c b'.spins) i j ↔ Joined (graph c) (holds c b.spins) i j
  pub labels_before : Numbered (graph c) (holds c b.spins) b'.labels b'.found
  pub labels_after : Numbered (graph c) (holds c b'.spins) b'.labels b'.found
  -- every bond (i, e): also one that joins a site to itself, and each of two that join one pair
  pub sums : (i e : ℕ) → i < c.lattice.n → e < c.lattice.d → bond_sum c b'.spins i e ≡ bond_sum c b.spins i e
  -- "Other systems keep their bytes."
  pub others :
      (i t : ℕ)
      → i < c.lattice.n
      → ((k : ℕ) → k < size c → t ≢ system c k)
      → spin c.lattice.n b'.spins t i ≡ spin c.lattice.n b.spins t i

-- the group's rows of xs are those of ys: the other systems' rows hold anything
abbrev pub SameRows : Call → List ℤ → List ℤ → Type 0
SameRows c xs ys = (i : ℕ) → i < c.lattice.n → Agree (size c) (pattern c xs i) (pattern c ys i)

-- ---- "choosing p and then q on a component": `chosen c p l k` is the place that p makes of the place k on the component with the number l. A flip
-- makes of each place its partner; with two replicas of opposite spins that is what houd's negation does

-- r is "k to p(q(k))" there; and on every component that moves, by the numbers l of the spins xs. Entries that no such component has are free
abbrev pub ComposedAt : Call → Choices → Choices → Choices → ℕ → Type 0
ComposedAt c p q r l = (k : ℕ) → k < size c → chosen c r l k ≡ chosen c p l (chosen c q l k)

pub record Composed (c : Call) (xs : List ℤ) (l : List ℕ) (p q r : Choices) : Type 0 where
  pub is : (i : ℕ) → i < c.lattice.n → reached c xs l i ≡ true → ComposedAt c p q r (label_of l i)

-- "p(q(k)) is k for every k"
abbrev pub CancelsAt : Call → Choices → Choices → ℕ → Type 0
CancelsAt c p q l = (k : ℕ) → k < size c → chosen c p l (chosen c q l k) ≡ k

pub record Cancels (c : Call) (xs : List ℤ) (l : List ℕ) (p q : Choices) : Type 0 where
  pub is : (i : ℕ) → i < c.lattice.n → reached c xs l i ≡ true → CancelsAt c p q (label_of l i)

-- two such moves, choosing p and then q: the second is lent the spins that the first left, and its other buffers hold anything
pub record Two (c : Call) (p q : Choices) (b b' d d' : Buffers) : Type 0 where
  pub first : Such c p b b'
  pub second : Such c q d d'
  pub handed : d.spins ≡ b'.spins

-- component numbers and how many there are, counts and sizes
pub record SameOutputs (b' d' : Buffers) : Type 0 where
  pub labels : d'.labels ≡ b'.labels
  pub found : d'.found ≡ b'.found
  pub counts : d'.counts ≡ b'.counts
  pub sizes : d'.sizes ≡ b'.sizes

-- ---- choices as buffers: permutations of which row r sends k to f r k. SW has a row for each number of a component, Wolff one
abbrev pub perms_of : Call → (ℕ → ℕ → ℕ) → List ℕ
perms_of c f = table (entries c.form c.lattice.n * size c) (λ x. f (x / size c) (x % size c))

-- flips of which that of the component l is f l
abbrev pub flips_of : Call → (ℕ → ℕ) → List ℕ
flips_of c f = table c.lattice.n f

-- k to p(q(k)); "Pair and houd choices add modulo 2"
abbrev pub composite : Call → Choices → Choices → Choices
composite c p q = record {
  choices =
      cond (is_perm c.mode) (perms_of c (λ r k. perm_row c p r (perm_row c q r k)))
      (flips_of c (λ l. (get_or p.choices l 0 + get_or q.choices l 0) % 2));
  greys = [];
}

-- a place among the first m that f sends to v
unfoldable pub place_of : ℕ → (ℕ → ℕ) → ℕ → ℕ
place_of zero f v = 0
place_of (suc m) f v = cond (eqb (f m) v) m (place_of m f v)

-- the inverses: of permutations, the other way round; of flips, the same flips
abbrev pub inverse : Call → Choices → Choices
inverse c p = record { choices = cond (is_perm c.mode) (perms_of c (λ r k. place_of (size c) (perm_row c p r) k)) p.choices; greys = [] }

-- the identity: permutations 0 to N - 1, flips 0
abbrev pub identity : Call → Choices
identity c = record { choices = cond (is_perm c.mode) (perms_of c (λ r k. k)) (flips_of c (λ l. 0)); greys = [] }

-- every such move choosing r is accepted on the buffers b, and all leave the same; it leaves the spins ys
pub record Outcome (c : Call) (r : Choices) (b : Buffers) : Type 0 where
  pub after : Buffers
  pub move : {a : Call} {o : Choices} → SameTaken c r a o → Move a o b after

pub record Leaves (c : Call) (r : Choices) (b : Buffers) (ys : List ℤ) : Type 0 where
  pub outcome : Outcome c r b
  pub bytes : outcome.after.spins ≡ ys

-- ---- the demand
pub record Demand3 (c : Call) : Type 0 where
  pub keeps : {p : Choices} {b b' : Buffers} → Such c p b b' → Keeps c b b'
  -- after a move the next is accepted, with the same gauge site and seed: only its own choices and its buffers' lengths must be right, and of the spins
  -- the group's rows be as they were left
  pub next : {p q : Choices} {b b' d : Buffers} → Such c p b b' → SameRows c d.spins b'.spins → Exact c q d → Chosen c q → Outcome c q d
  -- and it writes the same component numbers and how many there are, the same counts and the same sizes
  pub outputs : {p q : Choices} {b b' d d' : Buffers} → Two c p q b b' d d' → SameOutputs b' d'
  -- "Two moves .. choosing p and then q on a component, leave the spin bytes of one such move choosing k to p(q(k))": on that component
  pub composes_at :
      {p q r : Choices} {b b' d d' e e' : Buffers}
      → Two c p q b b' d d'
      → Such c r e e'
      → e.spins ≡ b.spins
      → (i k : ℕ)
      → i < c.lattice.n
      → k < size c
      → ComposedAt c p q r (label_of b'.labels i)
      → pattern c d'.spins i k ≡ pattern c e'.spins i k
  -- on all components that move: all bytes
  pub composes :
      {p q r : Choices} {b b' d d' e e' : Buffers}
      → Two c p q b b' d d'
      → Such c r e e'
      → e.spins ≡ b.spins
      → Composed c b.spins b'.labels p q r
      → d'.spins ≡ e'.spins
  -- SW: that one move is always there
  pub one_sw : {p q : Choices} {b b' d d' : Buffers} → c.form ≡ Sw → Two c p q b b' d d' → Leaves c (composite c p q) b d'.spins
  -- Wolff "refuses the identity": it is there for every other composite of permutations
  pub one_wolff :
      {p q : Choices} {b b' d d' : Buffers}
      → c.form ≡ Wolff
      → is_perm c.mode ≡ true
      → Two c p q b b' d d'
      → NotIdentity (size c) (λ k. perm_row c p 0 (perm_row c q 0 k))
      → Leaves c (composite c p q) b d'.spins
  -- "where p(q(k)) is k for every k .. the two moves restore the bytes": on one component; on all
  pub restores_at :
      {p q : Choices} {b b' d d' : Buffers}
      → Two c p q b b' d d'
      → (i k : ℕ)
      → i < c.lattice.n
      → k < size c
      → CancelsAt c p q (label_of b'.labels i)
      → pattern c d'.spins i k ≡ pattern c b.spins i k
  pub restores : {p q : Choices} {b b' d d' : Buffers} → Two c p q b b' d d' → Cancels c b.spins b'.labels p q → d'.spins ≡ b.spins
  -- ".. or the mode takes no choice": Wolff of pair and houd
  pub restores_wolff :
      {p q : Choices} {b b' d d' : Buffers}
      → c.form ≡ Wolff
      → is_perm c.mode ≡ false
      → Two c p q b b' d d'
      → d'.spins ≡ b.spins
  -- "inverses restore all spin bytes": where p was accepted its inverses are, on what it left, and restore; and so does any move choosing them
  pub inverse_there : {p : Choices} {b b' : Buffers} → moves c.form ≡ true → Such c p b b' → Leaves c (inverse c p) b' b.spins
  pub inverse_restores : {p : Choices} {b b' d d' : Buffers} → moves c.form ≡ true → Two c p (inverse c p) b b' d d' → d'.spins ≡ b.spins
  -- SW has the identity: it is accepted where any choice is, and changes no byte
  pub identity_there : {p : Choices} {b b' : Buffers} → c.form ≡ Sw → Such c p b b' → Leaves c (identity c) b b.spins
  pub identity_still : {b b' : Buffers} → c.form ≡ Sw → Such c (identity c) b b' → b'.spins ≡ b.spins

-- ---- the boundary: houd of four replicas is not among them. As row 12 of document 01's table defines it, it changes a bond sum; as a call it is refused
pub record Boundary : Type 0 where
  pub moves : Moves houd4 no_choices before12.spins after12.labels after12.grey_labels after12.spins
  pub refused : Answers houd4 no_choices before12 (Refused 15) before12
  pub before : bond_sum houd4 before12.spins 0 0 ≡ pos 2
  pub after : bond_sum houd4 after12.spins 0 0 ≡ negsuc 1
  pub not_kept : Keeps houd4 before12 after12 → ⊥

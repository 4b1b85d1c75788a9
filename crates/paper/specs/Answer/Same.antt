-- What two moves, or two sweeps, must share to be answered alike: all that their mode and form take, and no more.
use Rattle.std.specs.Prelude.{ℕ, ◌<◌, ◌≡◌, false, cond, length}
use Rattle.paper.specs.declared.Mode.{Mode}
use Rattle.paper.specs.Answer.Cases.{Answer, Answer.Refused, Answer.Idle, Answer.Held, Answer.Moved}
use Rattle.paper.specs.Panel.Input.{Lattice, Call, Choices, Buffers, size, system}
use Rattle.paper.specs.Panel.Takes.{grows_by, labels_by, draws_bonds, takes_cuts, takes_choices, takes_greys, takes_grey_labels, takes_reference, takes_seed}
use Rattle.paper.specs.Refusal.Rules.{When}
use Rattle.paper.specs.Answer.Task.{Sweep, tasks, masked, task_call, task_choices}
use Rattle.paper.specs.Answer.Sweep.{common}

pub record SamePanel (mode : Mode) (g h : Lattice) : Type 0 where
  pub n : h.n ≡ g.n
  pub d : h.d ≡ g.d
  pub s : h.s ≡ g.s
  pub fwd : h.fwd ≡ g.fwd
  pub bwd : h.bwd ≡ g.bwd
  pub couplings : When (draws_bonds mode) (h.couplings ≡ g.couplings)

-- group entries from N on are not taken
pub record SameCall (c a : Call) : Type 0 where
  pub mode : a.mode ≡ c.mode
  pub form : a.form ≡ c.form
  pub panel : SamePanel c.mode c.lattice a.lattice
  pub pins : a.pins ≡ c.pins
  pub members : size a ≡ size c
  pub systems : (k : ℕ) → k < size c → system a k ≡ system c k
  pub temperature : When (takes_cuts c) (a.temperature ≡ c.temperature)
  pub cuts : When (takes_cuts c) (a.cuts ≡ c.cuts)
  pub reference : When (takes_reference c) (a.reference ≡ c.reference)
  pub seed : When (takes_seed c) (a.seed ≡ c.seed)

pub record SameChoices (c : Call) (p o : Choices) : Type 0 where
  pub choices : When (takes_choices c) (o.choices ≡ p.choices)
  pub greys : When (takes_greys c) (o.greys ≡ p.greys)

-- the call c choosing p and the call a choosing o: they have the same answers (Law/UntakenAnswers.antt)
pub record SameTaken (c : Call) (p : Choices) (a : Call) (o : Choices) : Type 0 where
  pub call : SameCall c a
  pub choices : SameChoices c p o

-- lent buffers: the spins are taken; of those that are written only how long they are
pub record SameLent (c : Call) (b d : Buffers) : Type 0 where
  pub spins : d.spins ≡ b.spins
  pub labels : When (labels_by c.form) (length d.labels ≡ length b.labels)
  pub grey_labels : When (takes_grey_labels c) (length d.grey_labels ≡ length b.grey_labels)
  pub counts : When (labels_by c.form) (length d.counts ≡ length b.counts)
  pub sizes : When (labels_by c.form) (length d.sizes ≡ length b.sizes)
  pub members : When (grows_by c.form) (length d.members ≡ length b.members)
  pub found : When (labels_by c.form) (length d.found ≡ length b.found)
  pub grey_found : When (takes_grey_labels c) (length d.grey_found ≡ length b.grey_found)

-- the buffers d after an answer by which such buffers came to hold b': a refusal keeps d; else the same is written, and what is not written stays
-- d's own
abbrev pub written : Call → Buffers → Buffers → Buffers
written c d b' = record {
  spins = b'.spins;
  labels = cond (labels_by c.form) b'.labels d.labels;
  grey_labels = cond (takes_grey_labels c) b'.grey_labels d.grey_labels;
  counts = cond (labels_by c.form) b'.counts d.counts;
  sizes = cond (labels_by c.form) b'.sizes d.sizes;
  members = cond (grows_by c.form) b'.members d.members;
  found = cond (labels_by c.form) b'.found d.found;
  grey_found = cond (takes_grey_labels c) b'.grey_found d.grey_found;
}

abbrev pub left : Call → Answer → Buffers → Buffers → Buffers
left c (Refused r) d b' = d
left c Idle d b' = written c d b'
left c Held d b' = written c d b'
left c Moved d b' = written c d b'

-- two sweeps: every order entry, mask byte and temperature is tested, and how long the areas are; what the areas hold is taken of unmasked tasks only
pub record SameSwept (w v : Sweep) : Type 0 where
  pub mode : v.mode ≡ w.mode
  pub form : v.form ≡ w.form
  pub panel : SamePanel w.mode w.lattice v.lattice
  pub pins : v.pins ≡ w.pins
  pub systems : v.systems ≡ w.systems
  pub t : v.t ≡ w.t
  pub r : v.r ≡ w.r
  pub members : v.members ≡ w.members
  pub order : v.order ≡ w.order
  pub masks : v.masks ≡ w.masks
  pub temperatures : When (takes_cuts (common w)) (v.temperatures ≡ w.temperatures)
  pub cuts : When (takes_cuts (common w)) (length v.cuts ≡ length w.cuts)
  pub references : When (takes_reference (common w)) (length v.references ≡ length w.references)
  pub seeds : When (takes_seed (common w)) (length v.seeds ≡ length w.seeds)
  pub choices : When (takes_choices (common w)) (length v.choices ≡ length w.choices)
  pub greys : When (takes_greys (common w)) (length v.greys ≡ length w.greys)
  pub each : (k : ℕ) → k < tasks w → masked w k ≡ false → SameTaken (task_call w k) (task_choices w k) (task_call v k) (task_choices v k)

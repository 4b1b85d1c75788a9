-- What no row of document 01 pins: values, the order of the refusals, and what a sweep and a move read.
use Rattle.std.specs.Prelude.{ℕ, ◌^◌, ◌≡◌, refl, Bool, true, false, [], ◌∷◌, List, pos, negsuc, ℤ, Float, get_or}
use Rattle.std.proofs.Common.{arith}
use Rattle.std.specs.Float.{nan, inf, binary32}
use Rattle.std.specs.Float.Ieee.{round, mul, div, lt, le, of_int}
use Rattle.lemmas.specs.Sums.{sum}
use Rattle.lemmas.specs.Bools.{never}
use Rattle.lemmas.specs.Counts.{count_where}
use Rattle.paper.specs.declared.BondKind.TheVariants.{Red}
use Rattle.paper.specs.Site.Bonds.{whole, sampler_of, jorg_holds, grey_holds, holds, holds_grey}
use Rattle.paper.specs.Site.Energy.{energy}
use Rattle.paper.specs.Move.Moving.{other, partner, permute, reached_by, has_one, reached, after, after_grey, final}
use Rattle.paper.specs.Refusal.Rules.{HoudOfTwo, Warm, is_cut, rules}
use Rattle.paper.specs.Rows.Cases.{+, -, of, row, line, first}
use Rattle.paper.specs.declared.Mode.{Mode}
use Rattle.paper.specs.declared.Mode.TheVariants.{Houd, Pair, Perm, Cmr}
use Rattle.paper.specs.declared.Form.TheVariants.{Sw, Wolff, Observe, Grow}
use Rattle.paper.specs.Answer.Cases.{Answer.Idle, Answer.Held, Answer.Moved}
use Rattle.paper.specs.Answer.Cases.{SweepAnswer.Swept}
use Rattle.paper.specs.Answer.Cases.{MeterAnswer.Energy}
use Rattle.paper.specs.Panel.Input.{Graph, graph, Call, Choices, Buffers}
use Rattle.paper.specs.Panel.Takes.{one_cluster, grows_by}
use Rattle.paper.specs.Site.Acting.{acts, pair_differs, differs}
use Rattle.paper.specs.Component.Labels.{Labels}
use Rattle.paper.specs.Component.Members.{Members}
use Rattle.paper.specs.Component.Sizes.{size_of, is_first, of_size, at_least, Counted, Largest}
use Rattle.paper.specs.Refusal.Rule.{Rule}
use Rattle.paper.specs.Answer.Number.{number, sweep_number, meter_number}
use Rattle.paper.specs.Answer.Move.{SeenAll, SeenOne, member_bonds, Stays}
use Rattle.paper.specs.Answer.Task.{Sweep, tasks, temperature_of, masked, is_idle, is_moved, is_held, tasks_that}
use Rattle.paper.specs.Answer.Sweep.{Sweeps, task_rules, sweep_rules}

-- the `f32` nearest to a / b
abbrev ratio : ℕ → ℕ → Float
ratio a b = round binary32 false a b

-- temperatures: 1/1024 and 1,048,576 are in range, the next `f32` below the one and above the other are not, and nor are these
pub record Temperatures : Type 0 where
  pub low : Warm (ratio 1 1024)
  pub high : Warm (ratio 1048576 1)
  pub below : Warm (ratio 16777215 (2 ^ 34)) → ⊥
  pub above : Warm (ratio 8388609 8) → ⊥
  pub zero : Warm (whole 0) → ⊥
  pub none : Warm nan → ⊥
  pub endless : Warm (inf false) → ⊥

pub temperatures : Temperatures
unfolding round div le of_int
temperatures = record { low = refl; high = refl; below = never; above = never; zero = never; none = never; endless = never }

-- cuts: 0, -0 and the smallest positive number are, below 0, infinite and no number are not
pub record Cuts : Type 0 where
  pub zero : is_cut (whole 0) ≡ true
  pub minus_zero : is_cut (round binary32 true 0 1) ≡ true
  pub smallest : is_cut (ratio 1 (2 ^ 149)) ≡ true
  pub negative : is_cut (round binary32 true 1 (2 ^ 149)) ≡ false
  pub endless : is_cut (inf false) ≡ false
  pub none : is_cut nan ≡ false

pub cuts : Cuts
unfolding round of_int
cuts = record { zero = refl; minus_zero = refl; smallest = refl; negative = refl; endless = refl; none = refl }

-- pair exchanges every pair, and not the last of an odd number
pub record Exchanges : Type 0 where
  pub even : row 4 (permute (partner 4) (of (+ ∷ - ∷ + ∷ - ∷ []))) ≡ - ∷ + ∷ - ∷ + ∷ []
  pub odd : row 3 (permute (partner 3) (of (+ ∷ - ∷ + ∷ []))) ≡ - ∷ + ∷ + ∷ []

pub exchanges : Exchanges
unfolding row other
exchanges = record { even = refl; odd = refl }

-- bonds
pub record Bonds : Type 0 where
  -- Jörg: a pair that agrees at one end adds nothing
  pub one_end : jorg_holds (pos 3) 2 (of (+ ∷ - ∷ [])) (of (+ ∷ + ∷ [])) (sampler_of (whole 2)) (whole 0) ≡ false
  -- a red bond of strength 5 at T = 4: 2/T times 5 is 2.5, so 4/T is ruled out
  pub red_by_two : grey_holds (Red (whole 5)) (sampler_of (whole 4)) (whole 3) ≡ false
  -- 4/T is rounded before it is multiplied: at T = 3 the product with 3 is 4, and the cut 4 makes no bond
  pub rounded_first : jorg_holds (pos 3) 2 (of (+ ∷ - ∷ [])) (of (+ ∷ - ∷ [])) (sampler_of (whole 3)) (whole 4) ≡ false

pub bonds : Bonds
unfolding sum mul div lt of_int
bonds = record { one_end = refl; red_by_two = refl; rounded_first = refl }

-- energies: a bond of a site to itself counts, and each of two bonds of one pair does
pub record Energies : Type 0 where
  pub itself : energy (line 1 1 (0 ∷ []) (0 ∷ []) (pos 5 ∷ [])) (- ∷ []) 0 ≡ negsuc 4
  pub twice : energy (line 2 1 (1 ∷ 0 ∷ []) (1 ∷ 0 ∷ []) (pos 3 ∷ pos 4 ∷ [])) (+ ∷ - ∷ []) 0 ≡ pos 7
  -- the second of two systems
  pub second : energy (line 1 2 (0 ∷ []) (0 ∷ []) (pos 5 ∷ [])) (+ ∷ - ∷ []) 1 ≡ negsuc 4

pub energies : Energies
unfolding sum
energies = record { itself = refl; twice = refl; second = refl }

-- which components SW reaches: flips move those of two sites and more, permutations every one, and neither looks at the seed, which may be no site.
-- Grow reaches the sites whose byte is 1
pub record Reaches : Type 0 where
  pub flips_two : reached_by Sw Pair 0 (0 ∷ 0 ∷ []) 1 ≡ true
  pub flips_single : reached_by Sw Pair 0 (0 ∷ []) 0 ≡ false
  pub permutes_single : reached_by Sw Perm 0 (0 ∷ []) 0 ≡ true
  pub seedless : reached_by Sw Perm 4096 (0 ∷ []) 0 ≡ true
  pub grown : reached_by Grow Pair 1 (1 ∷ 1 ∷ 0 ∷ []) 0 ≡ true
  pub not_grown : reached_by Grow Pair 1 (1 ∷ 1 ∷ 0 ∷ []) 2 ≡ false

pub reaches : Reaches
unfolding size_of count_where
reaches = record { flips_two = refl; flips_single = refl; permutes_single = refl; seedless = refl; grown = refl; not_grown = refl }

-- CMR on two sites with row 9's bond between them, (+,+) and (+,-): it is red, so it joins grey components and no blue ones
abbrev cmr : Call
cmr = record {
  mode = Cmr;
  form = Sw;
  lattice = line 2 2 (1 ∷ 0 ∷ []) (1 ∷ 0 ∷ []) (pos 5 ∷ pos 5 ∷ []);
  pins = 0 ∷ 0 ∷ [];
  group = first 2;
  temperature = whole 4;
  cuts = whole 2 ∷ whole 2 ∷ [];
  reference = 0;
  seed = 0;
}

abbrev red : List ℤ
red = + ∷ + ∷ + ∷ - ∷ []

-- the grey number 1 flips the first replica
abbrev grey_one : Choices
grey_one = record { choices = []; greys = 1 ∷ [] }

pub record Greys : Type 0 where
  pub not_blue : holds cmr red 0 0 ≡ false
  pub grey : holds_grey cmr red 0 0 ≡ true
  pub member : member_bonds cmr red 0 0 ≡ true
  -- of what the blue flip left at site 0, (-,-), and not of what was there before
  pub second : row 2 (after_grey cmr grey_one red (0 ∷ 0 ∷ []) 0 (of (- ∷ - ∷ []))) ≡ + ∷ - ∷ []

pub greys : Greys
unfolding holds holds_grey acts has_one reached size_of count_where row mul div lt of_int
greys = record { not_blue = refl; grey = refl; member = refl; second = refl }

-- what is counted: of the same two sites, each alone, pair counts the second, which acts, and CMR counts both
abbrev pair : Call
pair = record {
  mode = Pair;
  form = Sw;
  lattice = cmr.lattice;
  pins = 0 ∷ 0 ∷ [];
  group = first 2;
  temperature = whole 4;
  cuts = [];
  reference = 0;
  seed = 0;
}

pub record Counts : Type 0 where
  pub one : of_size (acts pair red) (0 ∷ 1 ∷ []) 1 ≡ 1
  pub one_size : at_least (acts pair red) (0 ∷ 1 ∷ []) 1 ≡ 1
  pub both : of_size (acts cmr red) (0 ∷ 1 ∷ []) 1 ≡ 2
  pub both_sizes : at_least (acts cmr red) (0 ∷ 1 ∷ []) 1 ≡ 2
  -- the mark of the smallest site decides
  pub smallest : of_size (acts pair red) (0 ∷ 0 ∷ []) 2 ≡ 0
  -- a component is known by its smallest site, which need not have that site's number
  pub numbered : of_size (λ i. true) (0 ∷ 0 ∷ 1 ∷ 1 ∷ []) 2 ≡ 2

pub counts : Counts
unfolding acts pair_differs size_of is_first count_where
counts = record { one = refl; one_size = refl; both = refl; both_sizes = refl; smallest = refl; numbered = refl }

-- numbers rise with the smallest sites and not with the last ones: of two components, the first and the third site and the second alone, the first is 0
pub by_smallest : (t : Graph) (holding : ℕ → ℕ → Bool) (found : ℕ) → t.n ≡ 3 → Labels t holding (1 ∷ 0 ∷ 1 ∷ []) found → ⊥
unfolding is_first count_where
by_smallest t holding found e w = absurd (omega (arith, w.rising 0 1 (omega arith) (omega (arith, e)) refl refl))

-- a choice is found by its component's number: of three sites the third, alone, is the component 1, and has the second entry
abbrev pinned_to : Mode → List ℕ → Call
pinned_to mode pins = record {
  mode = mode;
  form = Sw;
  lattice = line 3 2 (1 ∷ 0 ∷ 2 ∷ []) (1 ∷ 0 ∷ 2 ∷ []) [];
  pins = pins;
  group = first 2;
  temperature = whole 4;
  cuts = [];
  reference = 0;
  seed = 0;
}

abbrev perm : Call
perm = pinned_to Perm (0 ∷ 0 ∷ 0 ∷ [])

abbrev second : Choices
second = record { choices = 0 ∷ 1 ∷ 1 ∷ 0 ∷ 0 ∷ 1 ∷ []; greys = [] }

pub record Chosen : Type 0 where
  pub by_number : row 2 (after perm second (+ ∷ + ∷ + ∷ - ∷ - ∷ - ∷ []) (0 ∷ 0 ∷ 1 ∷ []) 2) ≡ - ∷ + ∷ []
  pub not_others : row 2 (after perm second (+ ∷ + ∷ + ∷ - ∷ - ∷ - ∷ []) (0 ∷ 0 ∷ 1 ∷ []) 1) ≡ + ∷ - ∷ []

pub chosen : Chosen
unfolding acts differs has_one reached size_of count_where row
chosen = record { by_number = refl; not_others = refl }

-- and a grey number by its grey component's, whatever the blue one's is
abbrev grey_second : Choices
grey_second = record { choices = []; greys = 0 ∷ 1 ∷ [] }

-- the flip that the blue component 1 takes, and the grey component 0 does not
abbrev blue_second : Choices
blue_second = record { choices = 0 ∷ 1 ∷ []; greys = 0 ∷ 0 ∷ [] }

pub record GreyChosen : Type 0 where
  pub grey : row 2 (after_grey cmr grey_second red (1 ∷ 1 ∷ []) 0 (of (- ∷ - ∷ []))) ≡ + ∷ - ∷ []
  pub blue : row 2 (final cmr blue_second red (1 ∷ 1 ∷ []) (0 ∷ 0 ∷ []) 0) ≡ - ∷ - ∷ []

pub grey_chosen : GreyChosen
unfolding acts has_one reached size_of count_where row final
grey_chosen = record { grey = refl; blue = refl }

-- a component with a pinned site does not move, at any of its sites, and a pin holds no other component. By permutations that exchange both replicas on
-- each component, of sites that all act
abbrev exchanged : Choices
exchanged = record { choices = 1 ∷ 0 ∷ 1 ∷ 0 ∷ 1 ∷ 0 ∷ []; greys = [] }

abbrev apart : List ℤ
apart = + ∷ + ∷ + ∷ - ∷ - ∷ - ∷ []

-- CMR: every blue flip, and the grey number 1
abbrev both_blue : Choices
both_blue = record { choices = 1 ∷ 1 ∷ []; greys = 1 ∷ 1 ∷ [] }

pub record Pinned : Type 0 where
  pub itself : row 2 (final (pinned_to Perm (0 ∷ 1 ∷ 0 ∷ [])) exchanged apart (0 ∷ 0 ∷ 1 ∷ []) [] 1) ≡ + ∷ - ∷ []
  pub whole_component : row 2 (final (pinned_to Perm (0 ∷ 1 ∷ 0 ∷ [])) exchanged apart (0 ∷ 0 ∷ 1 ∷ []) [] 0) ≡ + ∷ - ∷ []
  pub no_other : row 2 (final (pinned_to Perm (0 ∷ 1 ∷ 0 ∷ [])) exchanged apart (0 ∷ 0 ∷ 1 ∷ []) [] 2) ≡ - ∷ + ∷ []
  pub none : row 2 (final perm exchanged apart (0 ∷ 0 ∷ 1 ∷ []) [] 1) ≡ - ∷ + ∷ []
  -- CMR, three sites of one grey component: the blue one of the first two is not held and flips, the grey one is held by the third and does not
  pub blue_flips : row 2 (final (pinned_to Cmr (0 ∷ 0 ∷ 1 ∷ [])) both_blue apart (0 ∷ 0 ∷ 1 ∷ []) (0 ∷ 0 ∷ 0 ∷ []) 0) ≡ - ∷ + ∷ []
  -- and with the first site pinned both are held
  pub blue_held : row 2 (final (pinned_to Cmr (1 ∷ 0 ∷ 0 ∷ [])) both_blue apart (0 ∷ 0 ∷ 1 ∷ []) (0 ∷ 0 ∷ 0 ∷ []) 1) ≡ + ∷ - ∷ []

pub pins : Pinned
unfolding acts differs has_one reached size_of count_where row final
pins = record { itself = refl; whole_component = refl; no_other = refl; none = refl; blue_flips = refl; blue_held = refl }

-- a held answer is given by the forms that move one component alone, and is counted as held, and as nothing else
pub held_one : (c : Call) (p : Choices) (b b' : Buffers) → Stays c p b b' → one_cluster c.form ≡ true
held_one c p b b' s = s.one

-- the members of a held component are written like those of any other
pub held_members :
    (c : Call) (p : Choices) (b b' : Buffers)
    → Stays c p b b'
    → grows_by c.form ≡ true
    → acts c b.spins c.seed ≡ true
    → Members (graph c) (member_bonds c b.spins) c.seed b'.members
held_members c p b b' s g e = (s.seen.one g).members e

pub record Kinds : Type 0 where
  pub held : is_held Held ≡ true
  pub not_moved : is_moved Held ≡ false
  pub not_idle : is_idle Held ≡ false
  pub moved : is_moved Moved ≡ true
  pub moved_not_held : is_held Moved ≡ false

pub kinds : Kinds
kinds = record { held = refl; not_moved = refl; not_idle = refl; moved = refl; moved_not_held = refl }

-- and that is what a move's counts and sizes are of
pub acting_counted :
    (c : Call) (b b' : Buffers)
    → SeenAll c b b'
    → Counted (acts c b.spins) b'.labels b'.counts × Largest (acts c b.spins) b'.labels b'.sizes
acting_counted c b b' s = (s.counts, s.sizes)

-- an answer that is no refusal has the number 0
pub record Numbers : Type 0 where
  pub idle : number Idle ≡ 0
  pub held : number Held ≡ 0
  pub moved : number Moved ≡ 0
  pub swept : (idle moved held : ℕ) → sweep_number (Swept idle moved held) ≡ 0
  pub metered : (e : ℤ) → meter_number (Energy e) ≡ 0

pub numbers : Numbers
numbers = record { idle = refl; held = refl; moved = refl; swept = λ idle moved held. refl; metered = λ e. refl }

-- the refusals in their order; a sweep's are followed by those of its tasks
abbrev in_order : List Rule → List ℕ
in_order [] = []
in_order (r ∷ rs) = r.number ∷ in_order rs

pub record Orders : Type 0 where
  pub move : (c : Call) (p : Choices) (b : Buffers) → in_order (rules c p b) ≡ 1 ∷ 15 ∷ 2 ∷ 3 ∷ 4 ∷ 4 ∷ 5 ∷ 6 ∷ 7 ∷ 8 ∷ 9 ∷ 10 ∷ []
  pub sweep :
      (w : Sweep) (b : Buffers)
      → in_order (sweep_rules w b) ≡ 1 ∷ 15 ∷ 2 ∷ 3 ∷ 4 ∷ 4 ∷ 5 ∷ 6 ∷ 7 ∷ 9 ∷ in_order (task_rules w b (tasks w))

pub orders : Orders
orders = record { move = λ c p b. refl; sweep = λ w b. refl }

-- houd of three is refused where it moves, in every such form; of two it is not, nor where it observes, nor pair of any number
pub record HoudGoes : Type 0 where
  pub sw : HoudOfTwo Houd Sw 3 → ⊥
  pub wolff : HoudOfTwo Houd Wolff 3 → ⊥
  pub grow : HoudOfTwo Houd Grow 3 → ⊥
  pub two : HoudOfTwo Houd Sw 2
  pub observed : HoudOfTwo Houd Observe 8
  pub pair : HoudOfTwo Pair Sw 8

pub houd_goes : HoudGoes
houd_goes = record {
  sw = λ h. absurd (omega (arith, h refl));
  wolff = λ h. absurd (omega (arith, h refl));
  grow = λ h. absurd (omega (arith, h refl));
  two = λ _. omega arith;
  observed = λ e. never e;
  pair = λ e. never e;
}

-- a mask byte 1 masks, and 0 does not
pub record Masks (w : Sweep) (k : ℕ) : Type 0 where
  pub one : get_or w.masks (temperature_of w k) 0 ≡ 1 → masked w k ≡ true
  pub zero : get_or w.masks (temperature_of w k) 0 ≡ 0 → masked w k ≡ false

pub masks : (w : Sweep) (k : ℕ) → Masks w k
masks w k = record { one = λ e. rw e refl; zero = λ e. rw e refl }

-- a sweep's first count is of idle tasks, its second of those that are neither idle nor held, its third of held ones
pub tasks_counted :
    (w : Sweep) (b b' : Buffers) (idle moved held : ℕ) (s : Sweeps w b idle moved held b')
    → idle ∷ moved ∷ held ∷ [] ≡ tasks_that is_idle w s.answered ∷ tasks_that is_moved w s.answered ∷ tasks_that is_held w s.answered ∷ []
tasks_counted w b b' idle moved held s = s.counts

-- bonds are judged on the spins before the move: what it leaves in the spins does not matter to the labels, counts and sizes, nor to the members
abbrev with_spins : Buffers → List ℤ → Buffers
with_spins b ys = record {
  spins = ys;
  labels = b.labels;
  grey_labels = b.grey_labels;
  counts = b.counts;
  sizes = b.sizes;
  members = b.members;
  found = b.found;
  grey_found = b.grey_found;
}

pub judged_before :
    (c : Call) (b b' : Buffers) (ys : List ℤ)
    → SeenAll c b b'
    → SeenAll c b (with_spins b' ys)
judged_before c b b' ys s = record {
  labels = s.labels;
  grey_labels = s.grey_labels;
  grey_kept = s.grey_kept;
  grey_found_kept = s.grey_found_kept;
  counts = s.counts;
  sizes = s.sizes;
  members_kept = s.members_kept;
}

pub grown_before : (c : Call) (b b' : Buffers) (ys : List ℤ) → SeenOne c b b' → SeenOne c b (with_spins b' ys)
grown_before c b b' ys s = record {
  members = s.members;
  none = s.none;
  labels_kept = s.labels_kept;
  grey_kept = s.grey_kept;
  counts_kept = s.counts_kept;
  sizes_kept = s.sizes_kept;
  found_kept = s.found_kept;
  grey_found_kept = s.grey_found_kept;
}

-- The refusals 1 to 10 and 15, as the rules that an accepted input keeps, in their order. A rule asks only of what the mode and form take.
use Rattle.std.specs.Prelude.{ℕ, ◌+◌, ◌*◌, ◌≤◌, ◌<◌, ◌≡◌, ◌⊎◌, Bool, true, false, not, ◌&&◌, ◌||◌, List, [], ◌∷◌, ◌++◌, eqb, length, get_or, ℤ, pos, negsuc, nat_abs, Float}
use Rattle.std.specs.Float.{nan, inf, fin, binary32}
use Rattle.std.specs.Float.Ieee.{div, le}
use Rattle.paper.specs.declared.Group.{Group}
use Rattle.paper.specs.declared.Mode.{Mode}
use Rattle.paper.specs.declared.Form.{Form}
use Rattle.paper.specs.declared.Lengths.{Lengths}
use Rattle.paper.specs.Panel.Input.{Call, Choices, Buffers, size, member, spin}
use Rattle.paper.specs.Panel.Takes.{is_houd, is_cmr, moves, one_cluster, grows_by, labels_by, draws_bonds, choices_by, greys_by, grey_labels_by, entries, choice_bytes}
use Rattle.paper.specs.Panel.Takes.{takes_cuts, takes_flips, takes_perms, takes_greys, takes_reference, takes_seed}
use Rattle.paper.specs.Site.Acting.{acts, SomeActs}
use Rattle.paper.specs.Site.Bonds.{whole}
use Rattle.paper.specs.Refusal.Rule.{Rule, rule}

-- of an input that is taken
abbrev pub When : Bool → Type 0 → Type 0
When taken P = taken ≡ true → P

-- n sites, d directions, s systems
pub record Sizes (n d s : ℕ) : Type 0 where
  pub n_low : 1 ≤ n
  pub n_high : n ≤ 4096
  pub d_low : 1 ≤ d
  pub d_high : d ≤ 4
  pub s_low : 1 ≤ s
  pub s_high : s ≤ 64

-- a group of m systems; CMR takes two only
pub record Ranged (n d s : ℕ) (mode : Mode) (m : ℕ) : Type 0 where
  pub lattice : Sizes n d s
  pub size_low : 2 ≤ m
  pub size_high : m ≤ 8
  pub cmr_two : When (is_cmr mode) (m ≡ 2)

-- houd moves groups of two alone: with more it changes the group's energy. To observe any number goes
abbrev pub HoudOfTwo : Mode → Form → ℕ → Type 0
HoudOfTwo mode form m = When (is_houd mode && moves form) (m ≤ 2)

-- the exact lengths, for n sites, d directions, s systems and a group of m
pub record Fits (mode : Mode) (form : Form) (n d s m : ℕ) (l : Lengths) : Type 0 where
  pub spins : l.spins ≡ s * n
  pub fwd : l.fwd ≡ n * d
  pub bwd : l.bwd ≡ n * d
  pub pins : l.pins ≡ n
  pub couplings : When (draws_bonds mode) (l.couplings ≡ n * d)
  pub cuts : When (draws_bonds mode) (l.cuts ≡ n * d)
  pub choices : When (choices_by mode form) (l.choices ≡ choice_bytes mode form n m)
  pub greys : When (greys_by mode form) (l.greys ≡ entries form n)
  pub labels : When (labels_by form) (l.labels ≡ n)
  pub grey_labels : When (grey_labels_by mode form) (l.grey_labels ≡ n)
  pub counts : When (labels_by form) (l.counts ≡ n + 1)
  pub sizes : When (labels_by form) (l.sizes ≡ 4)
  pub members : When (grows_by form) (l.members ≡ n)
  pub found : When (labels_by form) (l.found ≡ 1)
  pub grey_found : When (grey_labels_by mode form) (l.grey_found ≡ 1)

abbrev pub lengths_of : Call → Choices → Buffers → Lengths
lengths_of c p b = record {
  spins = length b.spins;
  fwd = length c.lattice.fwd;
  bwd = length c.lattice.bwd;
  pins = length c.pins;
  couplings = length c.lattice.couplings;
  cuts = length c.cuts;
  choices = length p.choices;
  greys = length p.greys;
  labels = length b.labels;
  grey_labels = length b.grey_labels;
  counts = length b.counts;
  sizes = length b.sizes;
  members = length b.members;
  found = length b.found;
  grey_found = length b.grey_found;
}

abbrev pub Exact : Call → Choices → Buffers → Type 0
Exact c p b = Fits c.mode c.form c.lattice.n c.lattice.d c.lattice.s (size c) (lengths_of c p b)

-- a spin is +1 or -1
abbrev pub Spin : ℤ → Type 0
Spin z = (z ≡ pos 1) ⊎ (z ≡ negsuc 0)

-- the systems that a call names, by their places: a move its group's, a sweep all of its order's
pub record Names : Type 0 where
  pub count : ℕ
  pub at : ℕ → ℕ

abbrev pub group_names : Group → Names
group_names g = record { count = g.len; at = member g }

abbrev pub order_names : List ℕ → Names
order_names order = record { count = length order; at = λ k. get_or order k 0 }

abbrev pub one_name : ℕ → Names
one_name t = record { count = 1; at = λ k. t }

-- t is one of the s systems, and is named
pub record Named (s : ℕ) (names : Names) (t : ℕ) : Type 0 where
  pub place : ℕ
  pub below : place < names.count
  pub is : names.at place ≡ t
  pub inside : t < s

abbrev pub AllSystems : ℕ → ℕ → Type 0
AllSystems s t = t < s

-- the rows of those systems hold spins; other rows are not looked at
abbrev pub Spins : ℕ → (ℕ → Type 0) → List ℤ → Type 0
Spins n Which xs = (t i : ℕ) → Which t → i < n → Spin (spin n xs t i)

-- the neighbour of site i by the table a is a site, and the table b leads back from it
pub record Back (n d : ℕ) (a b : List ℕ) (i e : ℕ) : Type 0 where
  pub inside : get_or a (i * d + e) 0 < n
  pub home : get_or b (get_or a (i * d + e) 0 * d + e) 0 ≡ i

pub record Inverse (n d : ℕ) (fwd bwd : List ℕ) : Type 0 where
  pub there : (i e : ℕ) → i < n → e < d → Back n d fwd bwd i e
  pub here : (i e : ℕ) → i < n → e < d → Back n d bwd fwd i e

-- a pin byte is 0 or 1
abbrev pub Pins : List ℕ → Type 0
Pins ps = (i : ℕ) → i < length ps → get_or ps i 0 ≤ 1

-- no two of the first m are equal
abbrev pub Distinct : ℕ → (ℕ → ℕ) → Type 0
Distinct m f = (a b : ℕ) → a < m → b < m → f a ≡ f b → a ≡ b

-- the systems that are named are among s, and none stands twice
pub record Listed (s : ℕ) (names : Names) : Type 0 where
  pub below : (k : ℕ) → k < names.count → names.at k < s
  pub distinct : Distinct names.count names.at

-- of a group, entries past its length are not looked at
abbrev pub Grouped : ℕ → Group → Type 0
Grouped s g = Listed s (group_names g)

abbrev pub SmallCouplings : List ℤ → Type 0
SmallCouplings js = (k : ℕ) → k < length js → nat_abs (get_or js k (pos 0)) ≤ 1000000

-- from 1/1024 to 1,048,576; no number at all is in no range
abbrev pub Warm : Float → Type 0
Warm t = (le (div binary32 (whole 1) (whole 1024)) t && le t (whole 1048576)) ≡ true

-- finite and at least 0; -0 is 0
abbrev pub is_cut : Float → Bool
is_cut nan = false
is_cut (inf s) = false
is_cut (fin s m e) = not s || eqb m 0

abbrev pub Cuts : List Float → Type 0
Cuts xs = (k : ℕ) → k < length xs → is_cut (get_or xs k nan) ≡ true

-- p is a permutation of the numbers below m
pub record Permutes (m : ℕ) (p : ℕ → ℕ) : Type 0 where
  pub within : (k : ℕ) → k < m → p k < m
  pub distinct : Distinct m p

-- p moves some number below m
pub record NotIdentity (m : ℕ) (p : ℕ → ℕ) : Type 0 where
  pub place : ℕ
  pub below : place < m
  pub moved : p place ≡ place → ⊥

-- the entry r, a permutation; every entry is tested, also one that no component uses
abbrev pub perm_row : Call → Choices → ℕ → ℕ → ℕ
perm_row c p r k = get_or p.choices (r * size c + k) 0

pub record Chosen (c : Call) (p : Choices) : Type 0 where
  pub perms : When (takes_perms c) ((r : ℕ) → r < entries c.form c.lattice.n → Permutes (size c) (perm_row c p r))
  pub not_identity_lem : When (takes_perms c && one_cluster c.form) (NotIdentity (size c) (perm_row c p 0))
  pub flips : When (takes_flips c) ((r : ℕ) → r < c.lattice.n → get_or p.choices r 0 ≤ 1)
  pub greys : When (takes_greys c) ((r : ℕ) → r < entries c.form c.lattice.n → get_or p.greys r 0 ≤ 3)
  pub grey_some : When (takes_greys c && one_cluster c.form) (1 ≤ get_or p.greys 0 0)
  pub reference : When (takes_reference c) (c.reference < c.lattice.n)

-- CMR's sites all act
pub record Seeded (c : Call) (xs : List ℤ) : Type 0 where
  pub below : When (takes_seed c) (c.seed < c.lattice.n)
  pub acting : When (takes_seed c) (SomeActs c xs → acts c xs c.seed ≡ true)

-- 8, 9 and 10
abbrev pub choice_rules : Call → Choices → List ℤ → List Rule
choice_rules c p xs = rule 8 (When (takes_cuts c) (Cuts c.cuts)) ∷ rule 9 (Chosen c p) ∷ rule 10 (Seeded c xs) ∷ []

-- what a call may ask beyond that: beside the lengths, beside the couplings, and last
pub record More : Type 1 where
  pub lengths : List Rule
  pub couplings : List Rule
  pub last : List Rule

abbrev pub no_more : More
no_more = record { lengths = []; couplings = []; last = [] }

-- the refusals in their order
abbrev pub rules_with : More → Call → Choices → Buffers → List Rule
rules_with m c p b =
    rule 1 (Ranged c.lattice.n c.lattice.d c.lattice.s c.mode (size c))
    ∷ rule 15 (HoudOfTwo c.mode c.form (size c))
    ∷ rule 2 (Exact c p b)
    ∷ (m.lengths ++ (
    rule 3 (Spins c.lattice.n (Named c.lattice.s (group_names c.group)) b.spins)
    ∷ rule 4 (Inverse c.lattice.n c.lattice.d c.lattice.fwd c.lattice.bwd)
    ∷ rule 4 (Pins c.pins)
    ∷ rule 5 (Grouped c.lattice.s c.group)
    ∷ rule 6 (When (takes_cuts c) (SmallCouplings c.lattice.couplings))
    ∷ (m.couplings ++ (
    rule 7 (When (takes_cuts c) (Warm c.temperature))
    ∷ (choice_rules c p b.spins ++ m.last)))))

abbrev pub rules : Call → Choices → Buffers → List Rule
rules = rules_with no_more

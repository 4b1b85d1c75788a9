-- A vendor's spins before and after a perm or gperm move of one group (13/14): when the pair is accepted, and what is then written.
use Rattle.std.specs.Prelude.{ℕ, ◌*◌, ◌<◌, ◌≡◌, true, false, cond, List, [], ◌∷◌, length, get_or, ℤ}
use Rattle.paper.specs.declared.Mode.{Mode}
use Rattle.paper.specs.declared.Form.TheVariants.{Observe}
use Rattle.paper.specs.declared.Keeps.TheVariants.{Nothing}
use Rattle.paper.specs.declared.Task.{Task}
use Rattle.paper.specs.Panel.Input.{Call, Pattern, graph, pattern, pinned, size}
use Rattle.paper.specs.Panel.Made.{call_of}
use Rattle.paper.specs.Panel.Takes.{is_perm, is_gperm, takes_reference}
use Rattle.paper.specs.Site.Acting.{acts}
use Rattle.paper.specs.Site.Bonds.{holds}
use Rattle.paper.specs.Component.Labels.{Labels}
use Rattle.paper.specs.Component.Sizes.{label_of}
use Rattle.paper.specs.Move.Moving.{permute, gauged, has_one}
use Rattle.paper.specs.Refusal.Rule.{Rule, rule, Broken}
use Rattle.paper.specs.Refusal.Rules.{When, Ranged, AllSystems, Spins, Inverse, Pins, Permutes}
use Rattle.paper.specs.Refusal.Verdict.{Verdict}
use Rattle.orders.specs.Words.{word_at, Before}
use Rattle.packing.specs.Bytes.{own_group}
use Rattle.vendor.specs.Checked.{Checked, Checked.Refused, Checked.No, Checked.Yes}

-- ---- the call that is asked: an observation of the rows before, which stand in the group's order. Of the task its form, what it keeps, the systems that it
-- names and how many there are are not looked at
abbrev pub asked : Task → Task
asked t = record {
  mode = t.mode;
  form = Observe;
  keeps = Nothing;
  n = t.n;
  d = t.d;
  s = t.group.len;
  group = own_group t.group.len;
  temperature = t.temperature;
  reference = t.reference;
  seed = t.seed;
}

abbrev pub asked_by : Task → List ℕ → List ℕ → List ℕ → Call
asked_by t fwd bwd pins = call_of (asked t) fwd bwd pins [] []

-- ---- one component: the sites with the label r, by the labels l of the spins before, xs. The spins after are ys

-- what the permutation q makes of the pattern f by the mode's rule, with the pattern P at the reference site before
abbrev pub turned_by : Mode → Pattern → (ℕ → ℕ) → Pattern → Pattern
turned_by mode P q f k = cond (is_gperm mode) (gauged P q f k) (permute q f k)

-- q turns before into after on the component
pub record Explains (c : Call) (xs ys : List ℤ) (l : List ℕ) (r : ℕ) (q : ℕ → ℕ) : Type 0 where
  pub permutes : Permutes (size c) q
  pub turns : (i k : ℕ) → i < c.lattice.n → k < size c → label_of l i ≡ r
      → pattern c ys i k ≡ turned_by c.mode (pattern c xs c.reference) q (pattern c xs i) k

-- some permutation does
pub record Explained (c : Call) (xs ys : List ℤ) (l : List ℕ) (r : ℕ) : Type 0 where
  pub by : ℕ → ℕ
  pub explains : Explains c xs ys l r by

-- the component acts before
pub record ActsIn (c : Call) (xs : List ℤ) (l : List ℕ) (r : ℕ) : Type 0 where
  pub site : ℕ
  pub below : site < c.lattice.n
  pub label : label_of l site ≡ r
  pub does : acts c xs site ≡ true

abbrev pub Unchanged : Call → List ℤ → List ℤ → ℕ → Type 0
Unchanged c xs ys i = (k : ℕ) → k < size c → pattern c ys i k ≡ pattern c xs i k

-- it is not at fault: if it acts some permutation turns before into after, a site that does not act is equal, and a held component is unchanged
pub record Fair (c : Call) (xs ys : List ℤ) (l : List ℕ) (r : ℕ) : Type 0 where
  pub acting : ActsIn c xs l r → Explained c xs ys l r
  pub idle : (i : ℕ) → i < c.lattice.n → label_of l i ≡ r → acts c xs i ≡ false → Unchanged c xs ys i
  pub held : has_one (pinned c) l r ≡ true → (i : ℕ) → i < c.lattice.n → label_of l i ≡ r → Unchanged c xs ys i

-- ---- what is written: n rows of a permutation each, by component number

-- q is the smallest, as a word, of the permutations that explain the component
pub record Smallest (c : Call) (xs ys : List ℤ) (l : List ℕ) (r : ℕ) (q : ℕ → ℕ) : Type 0 where
  pub explains : Explains c xs ys l r q
  pub none_before : (p : ℕ → ℕ) → Explains c xs ys l r p → Before (size c) p q → ⊥

-- row r: of a component that acts the smallest; of all others, and past the last component, 0 to N - 1
pub record RowOf (c : Call) (xs ys : List ℤ) (l rows : List ℕ) (r : ℕ) : Type 0 where
  pub acting : ActsIn c xs l r → Smallest c xs ys l r (word_at (size c) rows r)
  pub other : (ActsIn c xs l r → ⊥) → (k : ℕ) → k < size c → word_at (size c) rows r k ≡ k

-- ---- the refusals in their order: those of the observation, and what is asked of the spins after and of the rows

pub record Lent (c : Call) (xs ys : List ℤ) (rows : List ℕ) : Type 0 where
  pub before : length xs ≡ size c * c.lattice.n
  pub after : length ys ≡ size c * c.lattice.n
  pub fwd : length c.lattice.fwd ≡ c.lattice.n * c.lattice.d
  pub bwd : length c.lattice.bwd ≡ c.lattice.n * c.lattice.d
  pub pins : length c.pins ≡ c.lattice.n
  pub rows_long : length rows ≡ c.lattice.n * size c

abbrev pub vendor_rules : Call → List ℤ → List ℤ → List ℕ → List Rule
vendor_rules c xs ys rows =
    rule 1 (Ranged c.lattice.n c.lattice.d c.lattice.s c.mode (size c))
    ∷ rule 1 (is_perm c.mode ≡ true)
    ∷ rule 2 (Lent c xs ys rows)
    ∷ rule 3 (Spins c.lattice.n (AllSystems (size c)) xs)
    ∷ rule 3 (Spins c.lattice.n (AllSystems (size c)) ys)
    ∷ rule 4 (Inverse c.lattice.n c.lattice.d c.lattice.fwd c.lattice.bwd)
    ∷ rule 4 (Pins c.pins)
    ∷ rule 9 (When (takes_reference c) (c.reference < c.lattice.n))
    ∷ []

-- ---- the answer: its number, a refusal's or 0, and its values, the component at fault

abbrev pub number : Checked → ℕ
number (Refused k) = k
number (No r) = 0
number Yes = 0

abbrev pub values : Checked → List ℕ
values (Refused k) = []
values (No r) = r ∷ []
values Yes = []

-- refused with the number k: nothing is written
pub record Refuses (c : Call) (xs ys : List ℤ) (rows : List ℕ) (k : ℕ) (rows' : List ℕ) : Type 0 where
  pub why : Broken (vendor_rules c xs ys rows) k
  pub kept : rows' ≡ rows

-- no: r is the smallest number of a component at fault, and nothing is written
pub record Denies (c : Call) (xs ys : List ℤ) (rows : List ℕ) (r : ℕ) (rows' : List ℕ) : Type 0 where
  pub valid : Verdict (vendor_rules c xs ys rows) (number (No r))
  pub labels : List ℕ
  pub found : ℕ
  pub numbered : Labels (graph c) (holds c xs) labels found
  pub component : get_or (values (No r)) 0 0 < found
  pub fault : Fair c xs ys labels r → ⊥
  pub first : (s : ℕ) → s < r → Fair c xs ys labels s
  pub kept : rows' ≡ rows

-- accepted: no component is at fault, and every row is written
pub record Accepts (c : Call) (xs ys : List ℤ) (rows rows' : List ℕ) : Type 0 where
  pub valid : Verdict (vendor_rules c xs ys rows) (number Yes)
  pub labels : List ℕ
  pub found : ℕ
  pub numbered : Labels (graph c) (holds c xs) labels found
  pub fair : (r : ℕ) → r < found → Fair c xs ys labels r
  pub long : length rows' ≡ length rows
  pub written : (r : ℕ) → r < c.lattice.n → RowOf c xs ys labels rows' r

-- the answer a may be given to the call c with the spins xs before and ys after and the lent rows, which then hold rows'
abbrev pub VendorAnswers : Call → List ℤ → List ℤ → List ℕ → Checked → List ℕ → Type 0
VendorAnswers c xs ys rows (Refused k) rows' = Refuses c xs ys rows (number (Refused k)) rows'
VendorAnswers c xs ys rows (No r) rows' = Denies c xs ys rows r rows'
VendorAnswers c xs ys rows Yes rows' = Accepts c xs ys rows rows'

-- The second step of a task, on its own rows: from what the first left, the column of each site after the move. No row is written (14/14).
use Rattle.std.specs.Prelude.{ℕ, zero, suc, ◌*◌, ◌≤◌, ◌<◌, ◌≡◌, Bool, true, false, cond, ◌&&◌, ◌||◌, List, [], ◌∷◌, eqb, length, get_or, ℤ}
use Rattle.paper.specs.declared.Form.{Form}
use Rattle.paper.specs.Panel.Input.{Call, Choices, size}
use Rattle.paper.specs.Panel.Made.{lattice_of}
use Rattle.paper.specs.Panel.Takes.{is_cmr, grows_by, labels_by, moves, takes_choices, takes_greys, takes_grey_labels, takes_seed, entries, choice_bytes}
use Rattle.paper.specs.Move.Moving.{final}
use Rattle.paper.specs.Refusal.Rule.{Rule, rule, Kept, Broken}
use Rattle.paper.specs.Refusal.Rules.{When, Ranged, HoudOfTwo, group_names, Named, Spins, Pins, Chosen}
use Rattle.columns.specs.Column.{column_of}
use Rattle.task_steps.specs.Label.{takes_blue}

-- what the first step found: of the forms that label the two lists of labels, of the one that grows the members, and in CMR which of them are blue
pub record Found : Type 0 where
  pub labels : List ℕ
  pub grey_labels : List ℕ
  pub members : List ℕ
  pub blue : List ℕ

abbrev pub found_of : List ℕ → List ℕ → List ℕ → List ℕ → Found
found_of labels grey_labels members blue = record { labels = labels; grey_labels = grey_labels; members = members; blue = blue }

-- the call as this step is told of it: it takes no neighbours, couplings or cuts
abbrev pub bare_call : Call → Call
bare_call c = record {
  mode = c.mode;
  form = c.form;
  lattice = lattice_of c.lattice.n c.lattice.d c.lattice.s [] [] [];
  pins = c.pins;
  group = c.group;
  temperature = c.temperature;
  cuts = [];
  reference = c.reference;
  seed = c.seed;
}

-- the two lists by which a move knows a site's component and its grey one
abbrev pub first_of : Call → Found → List ℕ
first_of c f = cond (grows_by c.form) (cond (is_cmr c.mode) f.blue f.members) f.labels

abbrev pub second_of : Call → Found → List ℕ
second_of c f = cond (grows_by c.form) f.members f.grey_labels

-- to observe moves nothing, and takes no labels here
abbrev pub takes_labels : Call → Bool
takes_labels c = labels_by c.form && moves c.form

pub record ChooseExact (c : Call) (p : Choices) (xs : List ℤ) (f : Found) (area : List ℕ) : Type 0 where
  pub spins : length xs ≡ c.lattice.s * c.lattice.n
  pub pins : length c.pins ≡ c.lattice.n
  pub choices : When (takes_choices c) (length p.choices ≡ choice_bytes c.mode c.form c.lattice.n (size c))
  pub greys : When (takes_greys c) (length p.greys ≡ entries c.form c.lattice.n)
  pub labels : When (takes_labels c) (length f.labels ≡ c.lattice.n)
  pub grey_labels : When (takes_grey_labels c) (length f.grey_labels ≡ c.lattice.n)
  pub members : When (grows_by c.form) (length f.members ≡ c.lattice.n)
  pub blue : When (takes_blue c) (length f.blue ≡ c.lattice.n)
  pub area_long : length area ≡ c.lattice.n

-- labels are numbers below n, marks are 0 or 1; whether they are those of the rows is not asked
pub record Told (c : Call) (f : Found) : Type 0 where
  pub labels : When (takes_labels c) ((i : ℕ) → i < c.lattice.n → get_or f.labels i 0 < c.lattice.n)
  pub grey_labels : When (takes_grey_labels c) ((i : ℕ) → i < c.lattice.n → get_or f.grey_labels i 0 < c.lattice.n)
  pub members : When (grows_by c.form) ((i : ℕ) → i < c.lattice.n → get_or f.members i 0 ≤ 1)
  pub blue : When (takes_blue c) ((i : ℕ) → i < c.lattice.n → get_or f.blue i 0 ≤ 1)

-- of the seed, that it is a site
abbrev pub choose_rules : Call → Choices → List ℤ → Found → List ℕ → List Rule
choose_rules c p xs f area =
    rule 1 (Ranged c.lattice.n c.lattice.d c.lattice.s c.mode (size c))
    ∷ rule 15 (HoudOfTwo c.mode c.form (size c))
    ∷ rule 2 (ChooseExact c p xs f area)
    ∷ rule 3 (Spins c.lattice.n (Named c.lattice.s (group_names c.group)) xs)
    ∷ rule 4 (Pins c.pins)
    ∷ rule 9 (Chosen c p)
    ∷ rule 9 (Told c f)
    ∷ rule 10 (When (takes_seed c) (c.seed < c.lattice.n))
    ∷ []

-- the form that grows has columns at its members alone, the others at all sites
abbrev pub has_column : Form → List ℕ → ℕ → Bool
has_column form members i = labels_by form || eqb (get_or members i 0) 1

-- the area has the column that the move makes of each site by these lists
pub record ChooseAccepts (c : Call) (p : Choices) (xs : List ℤ) (f : Found) (area area' : List ℕ) : Type 0 where
  pub valid : Kept (choose_rules c p xs f area)
  pub long : length area' ≡ length area
  pub chosen : (i : ℕ) → i < c.lattice.n → has_column c.form f.members i ≡ true
      → get_or area' i 0 ≡ column_of (size c) (final c p xs (first_of c f) (second_of c f) i)
  pub left : (i : ℕ) → i < c.lattice.n → has_column c.form f.members i ≡ false → get_or area' i 0 ≡ get_or area i 0

pub record ChooseRefuses (c : Call) (p : Choices) (xs : List ℤ) (f : Found) (area : List ℕ) (r : ℕ) (area' : List ℕ) : Type 0 where
  pub why : Broken (choose_rules c p xs f area) r
  pub kept : area' ≡ area

-- the number r may be answered, 0 or a refusal, with the rows xs and the lent area, which then holds area'
abbrev pub ChooseAnswers : Call → Choices → List ℤ → Found → List ℕ → ℕ → List ℕ → Type 0
ChooseAnswers c p xs f area zero area' = ChooseAccepts c p xs f area area'
ChooseAnswers c p xs f area (suc r) area' = ChooseRefuses c p xs f area (suc r) area'

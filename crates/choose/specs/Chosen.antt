-- What each site's column becomes, from the labels and the lent choices.
use Rattle.std.specs.Prelude.{ℕ, ◌*◌, ◌≤◌, ◌<◌, ◌≡◌, refl, Bool, true, not, cond, ◌&&◌, List, eqb, length, get_or}
use Rattle.std.proofs.Common.{◌∙◌, ap, arith, eq-eqb}
use Rattle.lemmas.specs.Counts.{count_pos}
use Rattle.paper.specs.declared.Form.{Form}
use Rattle.paper.specs.declared.Mode.{Mode}
use Rattle.paper.specs.Panel.Takes.{is_sw, one_cluster, moves, entries}
use Rattle.paper.specs.Component.Sizes.{label_of, size_of, Sized}
use Rattle.paper.specs.Component.Marks.{Flags}
use Rattle.paper.specs.Move.Moving.{flip_by, perm_at, grey_at, grey_bit, flip_some, reached_by, has_one}
use Rattle.columns.specs.Column.{shown, column_of}
use Rattle.columns.specs.Gauge.{permuted_by}

-- entry i of ys is f i, for each entry of xs
pub record Becomes (f : ℕ → ℕ) (xs ys : List ℕ) : Type 0 where
  pub long : length ys ≡ length xs
  pub at : (i : ℕ) → i < length xs → get_or ys i 0 ≡ f i

-- the columns of all sites, with a mark of each that moves and its label
pub record Sites (reached labels cols : List ℕ) : Type 0 where
  pub marked : length reached ≡ length cols
  pub labelled : length labels ≡ length cols
  pub below : (i : ℕ) → i < length cols → get_or labels i 0 < length cols

-- a byte of a mark for each site, as a test
abbrev pub is_one : List ℕ → ℕ → Bool
is_one xs i = eqb (get_or xs i 0) 1

-- a site is one of those that have its label
pub has_itself : (l : List ℕ) (i : ℕ) → i < length l → 0 < size_of l (label_of l i)
unfolding size_of
has_itself l i h = count_pos (λ j. eqb (label_of l j) (label_of l i)) (length l) i h (eq-eqb (label_of l i) (label_of l i) refl)

-- ---- which components are held

-- what `hold_back` is lent: for each site a pin and a label, and as many numbers, one for each label
pub record Holdable (pins labels tally : List ℕ) : Type 0 where
  pub labelled : length labels ≡ length pins
  pub tallied : length tally ≡ length pins
  pub below : (i : ℕ) → i < length pins → get_or labels i 0 < length pins

-- the number of the label r becomes 0 where a site with that label is pinned
abbrev pub held_back : List ℕ → List ℕ → List ℕ → ℕ → ℕ
held_back pins labels tally r = cond (has_one (is_one pins) labels r) 0 (get_or tally r 0)

-- the number is the size of a component that is not held, and 0 of one that is
pub record Freed (pins l tally : List ℕ) : Type 0 where
  pub long : length tally ≡ length l
  pub each : (r : ℕ) → r < length l → get_or tally r 0 ≡ cond (has_one (is_one pins) l r) 0 (size_of l r)

-- so it is once sizes are held back
pub freed : {pins l old new : List ℕ} → Sized l old → Becomes (held_back pins l old) old new → Freed pins l new
freed {pins} {l} s b = record {
  long = b.long ∙ s.long;
  each = λ r h. b.at r (omega (arith, s.long)) ∙ ap (λ (x : ℕ). cond (has_one (is_one pins) l r) 0 x) (s.each r h);
}

-- what `tally_free` is lent: labels that need not be those of any bonds. No number of sites overflows
pub record Tallyable (pins labels tally : List ℕ) : Type 0 where
  pub few : length pins ≤ 4096
  pub holdable : Holdable pins labels tally

-- ---- which sites move

-- what `reach` is lent: a mark of each site that acts, its label, how many sites have each label that is not held, and the seed of one component
pub record Marked (form : Form) (seed : ℕ) (acts labels tally reached : List ℕ) : Type 0 where
  pub labelled : length labels ≡ length acts
  pub below : (i : ℕ) → i < length acts → get_or labels i 0 < length acts
  pub pins : List ℕ
  pub sized : Freed pins labels tally
  pub seeded : one_cluster form ≡ true → seed < length acts
  pub lent : length reached ≡ length acts

abbrev pub reached_at : Form → Mode → ℕ → List ℕ → List ℕ → List ℕ → ℕ → Bool
reached_at form mode seed pins acts labels i =
    is_one acts i && (reached_by form mode seed labels i && not (has_one (is_one pins) labels (label_of labels i)))

-- a mark of each, for the pins by which the tally was held back
abbrev pub Reached : Form → Mode → ℕ → List ℕ → List ℕ → List ℕ → List ℕ → Type 0
Reached form mode seed acts labels tally ys =
    (pins : List ℕ) → Freed pins labels tally → Flags (length acts) (reached_at form mode seed pins acts labels) ys

-- ---- flips

-- only SW is lent flips
pub record Flips (form : Form) (reached labels flips cols : List ℕ) : Type 0 where
  pub sites : Sites reached labels cols
  pub lent : is_sw form ≡ true → length flips ≡ length cols

-- the table has what a flip makes of each column
abbrev pub flipped_at : Form → List ℕ → List ℕ → List ℕ → List ℕ → List ℕ → ℕ → ℕ
flipped_at form reached labels flips table cols i =
    cond (is_one reached i && flip_by form flips (label_of labels i)) (get_or table (get_or cols i 0) 0) (get_or cols i 0)

-- ---- grey numbers

-- a column of two systems, with the spins flipped that a grey number's bits name
abbrev pub greyed : ℕ → ℕ → ℕ
greyed grey column = column_of 2 (flip_some (grey_bit grey) (shown column))

-- the column is of two systems, and the number is 0 to 3
pub record Grey (grey column : ℕ) : Type 0 where
  pub small : grey ≤ 3
  pub two : column < 4

-- one number for each component in SW and one in all in Wolff
pub record Greys (form : Form) (reached labels greys cols : List ℕ) : Type 0 where
  pub sites : Sites reached labels cols
  pub moving : moves form ≡ true
  pub lent : length greys ≡ entries form (length cols)
  pub small : (x : ℕ) → x < length greys → get_or greys x 0 ≤ 3
  pub two : (i : ℕ) → i < length cols → get_or cols i 0 < 4

abbrev pub greyed_at : Form → List ℕ → List ℕ → List ℕ → List ℕ → ℕ → ℕ
greyed_at form reached labels greys cols i = cond (is_one reached i) (greyed (grey_at form greys (label_of labels i)) (get_or cols i 0)) (get_or cols i 0)

-- ---- permutations

-- m places for each component in SW and m in all in Wolff
pub record Perms (form : Form) (m : ℕ) (reached labels perms cols : List ℕ) : Type 0 where
  pub sites : Sites reached labels cols
  pub moving : moves form ≡ true
  pub few : m ≤ 8
  pub lent : length perms ≡ entries form (length cols) * m
  pub places : (x : ℕ) → x < length perms → get_or perms x 0 < m

abbrev pub permuted_at : Form → ℕ → ℕ → List ℕ → List ℕ → List ℕ → List ℕ → ℕ → ℕ
permuted_at form m gauge reached labels perms cols i =
    cond (is_one reached i) (permuted_by m gauge (perm_at form m perms (label_of labels i)) (get_or cols i 0)) (get_or cols i 0)

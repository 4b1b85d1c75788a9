-- CMR moves by computing (not rows of document 01): SW and Wolff.
use Rattle.std.specs.Prelude.{ℕ, refl, List, [], ◌∷◌, ℤ, pos, Float}
use Rattle.std.proofs.Common.{sym}
use Rattle.std.specs.Float.Ieee.{mul, div, lt, le, of_int, round}
use Rattle.lemmas.specs.Counts.{count_where}
use Rattle.lemmas.specs.Cells.{table}
use Rattle.lemmas.specs.Bools.{never, every}
use Rattle.paper.specs.declared.Mode.TheVariants.{Cmr}
use Rattle.paper.specs.declared.Form.{Form}
use Rattle.paper.specs.declared.Form.TheVariants.{Sw, Wolff}
use Rattle.paper.specs.Answer.Cases.{Answer.Moved}
use Rattle.paper.specs.Panel.Input.{Lattice, Call, Choices, Buffers}
use Rattle.paper.specs.Site.Acting.{acts}
use Rattle.paper.specs.Site.Bonds.{whole, holds, holds_grey}
use Rattle.paper.specs.Component.Sizes.{size_of, is_first}
use Rattle.paper.specs.Move.Moving.{has_one, reached, final}
use Rattle.paper.specs.Answer.Move.{Answers}
use Rattle.paper.specs.Rows.Cases.{+, -, decimal, line, first}
use Rattle.laws.specs.Decided.{any}
use Rattle.laws.specs.ByAnswer.{goes_by}

-- a call on a lattice of two systems, with cuts for its bonds
abbrev pub pinning : List ℕ → Form → Lattice → Float → List Float → Call
pinning pins form lattice temperature cuts = record {
  mode = Cmr;
  form = form;
  lattice = lattice;
  pins = pins;
  group = first 2;
  temperature = temperature;
  cuts = cuts;
  reference = 0;
  seed = 0;
}

abbrev cmr : Form → Lattice → Float → List Float → Call
cmr form lattice = pinning (table lattice.n (λ k. 0)) form lattice

abbrev pub choosing : List ℕ → List ℕ → Choices
choosing flips greys = record { choices = flips; greys = greys }

-- the outputs hold anything before the move
abbrev pub buffers : List ℤ → List ℕ → List ℕ → List ℕ → List ℕ → ℕ → ℕ → Buffers
buffers spins labels grey_labels counts sizes found grey_found = record {
  spins = spins;
  labels = labels;
  grey_labels = grey_labels;
  counts = counts;
  sizes = sizes;
  members = [];
  found = found ∷ [];
  grey_found = grey_found ∷ [];
}

abbrev ring : List ℤ → Lattice
ring couplings = line 3 2 (1 ∷ 2 ∷ 0 ∷ []) (2 ∷ 0 ∷ 1 ∷ []) couplings

abbrev before3 : List ℤ → Buffers
before3 spins = buffers spins (9 ∷ 9 ∷ 9 ∷ []) (9 ∷ 9 ∷ 9 ∷ []) (9 ∷ 9 ∷ 9 ∷ 9 ∷ []) (9 ∷ 9 ∷ 9 ∷ 9 ∷ []) 9 9

-- a ring of four with two blue bonds, a red one between them, and none. Sites 2 and 3 get both flips: blue at their blue component's number, 1, and
-- grey at their grey component's, 0
abbrev mixed : Call
mixed =
    cmr Sw (line 4 2 (1 ∷ 2 ∷ 3 ∷ 0 ∷ []) (3 ∷ 0 ∷ 1 ∷ 2 ∷ []) (pos 1 ∷ pos 1 ∷ pos 1 ∷ pos 0 ∷ []))
    (whole 1) (whole 3 ∷ whole 1 ∷ whole 3 ∷ whole 0 ∷ [])

abbrev mixed_choices : Choices
mixed_choices = choosing (0 ∷ 1 ∷ 0 ∷ 0 ∷ []) (2 ∷ 0 ∷ 0 ∷ 0 ∷ [])

abbrev mixed_before : Buffers
mixed_before =
    buffers (+ ∷ + ∷ + ∷ + ∷ + ∷ + ∷ - ∷ - ∷ []) (9 ∷ 9 ∷ 9 ∷ 9 ∷ []) (9 ∷ 9 ∷ 9 ∷ 9 ∷ []) (9 ∷ 9 ∷ 9 ∷ 9 ∷ 9 ∷ []) (9 ∷ 9 ∷ 9 ∷ 9 ∷ []) 9 9

abbrev mixed_after : Buffers
mixed_after =
    buffers (+ ∷ + ∷ - ∷ - ∷ - ∷ - ∷ - ∷ - ∷ []) (0 ∷ 0 ∷ 1 ∷ 1 ∷ []) (0 ∷ 0 ∷ 0 ∷ 0 ∷ []) (0 ∷ 0 ∷ 2 ∷ 0 ∷ 0 ∷ []) (2 ∷ 2 ∷ 0 ∷ 0 ∷ []) 2 1

pub both_flips : Answers mixed mixed_choices mixed_before Moved mixed_after
unfolding every any holds holds_grey acts size_of is_first count_where has_one reached final table mul div lt le of_int
both_flips = goes_by mixed mixed_choices mixed_before mixed_after (0 ∷ 0 ∷ 0 ∷ 2 ∷ []) (0 ∷ 0 ∷ 1 ∷ 2 ∷ []) refl (λ e. never (sym e)) refl

-- ---- bonds judged on the spins before the blue flip: on the flipped spins the grey components would be one
abbrev rejudged : Form → Call
rejudged form = cmr form (ring (pos 1 ∷ pos 1 ∷ pos 1 ∷ [])) (whole 4) (decimal 5 1 ∷ decimal 5 1 ∷ decimal 5 1 ∷ [])

abbrev rejudged_after : Buffers
rejudged_after = buffers (+ ∷ + ∷ - ∷ - ∷ - ∷ - ∷ []) (0 ∷ 0 ∷ 1 ∷ []) (0 ∷ 0 ∷ 1 ∷ []) (0 ∷ 1 ∷ 1 ∷ 0 ∷ []) (2 ∷ 1 ∷ 0 ∷ 0 ∷ []) 2 2

pub judged_before_sw :
    Answers (rejudged Sw) (choosing (1 ∷ 0 ∷ 0 ∷ []) (1 ∷ 0 ∷ 0 ∷ [])) (before3 (+ ∷ + ∷ - ∷ + ∷ + ∷ - ∷ [])) Moved rejudged_after
unfolding every any holds holds_grey acts size_of is_first count_where has_one reached final table mul div lt le of_int round
judged_before_sw =
    goes_by (rejudged Sw) (choosing (1 ∷ 0 ∷ 0 ∷ []) (1 ∷ 0 ∷ 0 ∷ [])) (before3 (+ ∷ + ∷ - ∷ + ∷ + ∷ - ∷ [])) rejudged_after
    (0 ∷ 0 ∷ 0 ∷ []) (0 ∷ 0 ∷ 0 ∷ []) refl (λ e. never (sym e)) refl

pub judged_before_wolff : Answers (rejudged Wolff) (choosing [] (1 ∷ [])) (before3 (+ ∷ + ∷ - ∷ + ∷ + ∷ - ∷ [])) Moved rejudged_after
unfolding every any holds holds_grey acts size_of is_first count_where has_one reached final table mul div lt le of_int round
judged_before_wolff =
    goes_by (rejudged Wolff) (choosing [] (1 ∷ [])) (before3 (+ ∷ + ∷ - ∷ + ∷ + ∷ - ∷ [])) rejudged_after
    (0 ∷ 0 ∷ 0 ∷ []) (0 ∷ 0 ∷ 0 ∷ []) refl (λ e. never (sym e)) refl

-- ---- one site, a bond to itself: Wolff moves it, twice where both its components flip it; SW does not. The answer is never idle
abbrev alone : Form → Call
alone form = cmr form (line 1 2 (0 ∷ []) (0 ∷ []) (pos 0 ∷ [])) (whole 1) (whole 0 ∷ [])

abbrev single : List ℤ → Buffers
single spins = buffers spins (0 ∷ []) (0 ∷ []) (0 ∷ 1 ∷ []) (1 ∷ 0 ∷ 0 ∷ 0 ∷ []) 1 1

pub flipped_twice : Answers (alone Wolff) (choosing [] (3 ∷ [])) (single (+ ∷ + ∷ [])) Moved (single (+ ∷ + ∷ []))
unfolding every any holds holds_grey acts size_of is_first count_where has_one reached final table mul div lt le of_int
flipped_twice = goes_by (alone Wolff) (choosing [] (3 ∷ [])) (single (+ ∷ + ∷ [])) (single (+ ∷ + ∷ [])) (0 ∷ []) (0 ∷ []) refl (λ e. never (sym e)) refl

pub second_alone : Answers (alone Wolff) (choosing [] (1 ∷ [])) (single (+ ∷ + ∷ [])) Moved (single (+ ∷ - ∷ []))
unfolding every any holds holds_grey acts size_of is_first count_where has_one reached final table mul div lt le of_int
second_alone = goes_by (alone Wolff) (choosing [] (1 ∷ [])) (single (+ ∷ + ∷ [])) (single (+ ∷ - ∷ [])) (0 ∷ []) (0 ∷ []) refl (λ e. never (sym e)) refl

pub sw_leaves_single : Answers (alone Sw) (choosing (1 ∷ []) (1 ∷ [])) (single (+ ∷ + ∷ [])) Moved (single (+ ∷ + ∷ []))
unfolding every any holds holds_grey acts size_of is_first count_where has_one reached final table mul div lt le of_int
sw_leaves_single =
    goes_by (alone Sw) (choosing (1 ∷ []) (1 ∷ [])) (single (+ ∷ + ∷ [])) (single (+ ∷ + ∷ [])) (0 ∷ []) (0 ∷ []) refl (λ e. never (sym e)) refl

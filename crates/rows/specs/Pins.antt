-- Pinned sites by computing (not rows of document 01): what is held, and what moves beside it. Two systems, A and B, in each.
use Rattle.std.specs.Prelude.{ℕ, refl, List, [], ◌∷◌, ℤ, pos}
use Rattle.std.proofs.Common.{sym}
use Rattle.std.specs.Float.Ieee.{mul, div, lt, le, of_int}
use Rattle.lemmas.specs.Counts.{count_where}
use Rattle.lemmas.specs.Bools.{never, every}
use Rattle.paper.specs.declared.Mode.{Mode}
use Rattle.paper.specs.declared.Mode.TheVariants.{Pair, Perm}
use Rattle.paper.specs.declared.Form.{Form}
use Rattle.paper.specs.declared.Form.TheVariants.{Sw, Wolff}
use Rattle.paper.specs.Answer.Cases.{Answer.Idle, Answer.Held, Answer.Moved}
use Rattle.paper.specs.Panel.Input.{Lattice, Call, Choices, Buffers}
use Rattle.paper.specs.Site.Acting.{differs, pair_differs, acts}
use Rattle.paper.specs.Site.Bonds.{whole, holds, holds_grey}
use Rattle.paper.specs.Component.Sizes.{size_of, is_first}
use Rattle.paper.specs.Move.Moving.{other, has_one, reached, final}
use Rattle.paper.specs.Answer.Move.{Answers}
use Rattle.paper.specs.Rows.Cases.{+, -, line, first, buffers, no_choices}
use Rattle.laws.specs.Decided.{any}
use Rattle.laws.specs.ByAnswer.{goes_by, stays_by, rests_by}
use Rattle.rows.specs.Cmr.{pinning, choosing}
use Rattle.rows.specs.Cmr

abbrev pinned : Mode → Form → Lattice → List ℕ → Call
pinned mode form lattice pins = record {
  mode = mode;
  form = form;
  lattice = lattice;
  pins = pins;
  group = first 2;
  temperature = whole 1;
  cuts = [];
  reference = 0;
  seed = 0;
}

-- two sites with two bonds between them; A = ++ and B = --, so both act. The first move of them is lent anything
abbrev twins : List ℕ → Call
twins = pinned Pair Wolff (line 2 2 (1 ∷ 0 ∷ []) (1 ∷ 0 ∷ []) [])

abbrev written : Buffers
written = buffers (+ ∷ + ∷ - ∷ - ∷ []) (0 ∷ 0 ∷ []) (0 ∷ 0 ∷ 1 ∷ []) (2 ∷ 0 ∷ 0 ∷ 0 ∷ []) 1

-- the seed is site 0, and site 1 is pinned: held. No spin changes, and the outputs are written
pub held : Answers (twins (0 ∷ 1 ∷ [])) no_choices (buffers (+ ∷ + ∷ - ∷ - ∷ []) (9 ∷ 9 ∷ []) (9 ∷ 9 ∷ 9 ∷ []) (9 ∷ 9 ∷ 9 ∷ 9 ∷ []) 9) Held written
unfolding every any holds acts pair_differs size_of is_first count_where other has_one reached final
held =
    stays_by (twins (0 ∷ 1 ∷ [])) no_choices (buffers (+ ∷ + ∷ - ∷ - ∷ []) (9 ∷ 9 ∷ []) (9 ∷ 9 ∷ 9 ∷ []) (9 ∷ 9 ∷ 9 ∷ 9 ∷ []) 9) written
    (0 ∷ 0 ∷ []) [] refl (λ _. (refl, refl)) refl refl

-- no site acts: idle, pinned or not
abbrev still : Buffers
still = buffers (+ ∷ + ∷ + ∷ + ∷ []) (0 ∷ 1 ∷ []) (0 ∷ 0 ∷ 0 ∷ []) (0 ∷ 0 ∷ 0 ∷ 0 ∷ []) 2

pub idle_first : Answers (twins (1 ∷ 1 ∷ [])) no_choices still Idle still
unfolding every any holds acts pair_differs size_of is_first count_where other has_one reached final
idle_first = rests_by (twins (1 ∷ 1 ∷ [])) no_choices still still [] [] refl (λ _. (refl, refl)) refl refl

-- a pinned site that does not act holds only itself: site 1, A and B alike there
abbrev beside : List ℤ → Buffers
beside spins = buffers spins (0 ∷ 1 ∷ []) (0 ∷ 1 ∷ 0 ∷ []) (1 ∷ 0 ∷ 0 ∷ 0 ∷ []) 2

pub rests_beside : Answers (twins (0 ∷ 1 ∷ [])) no_choices (beside (+ ∷ + ∷ - ∷ + ∷ [])) Moved (beside (- ∷ + ∷ + ∷ + ∷ []))
unfolding every any holds acts pair_differs size_of is_first count_where other has_one reached final
rests_beside =
    goes_by (twins (0 ∷ 1 ∷ [])) no_choices (beside (+ ∷ + ∷ - ∷ + ∷ [])) (beside (- ∷ + ∷ + ∷ + ∷ [])) [] [] refl (λ _. (refl, refl)) refl

-- perm, SW: sites 0 and 1 are held by site 1, and site 2, joined to itself, exchanges. The answer is moved, also where all is held
abbrev three : List ℕ → Call
three = pinned Perm Sw (line 3 2 (1 ∷ 0 ∷ 2 ∷ []) (1 ∷ 0 ∷ 2 ∷ []) [])

abbrev exchanges : Choices
exchanges = record { choices = 1 ∷ 0 ∷ 1 ∷ 0 ∷ 1 ∷ 0 ∷ []; greys = [] }

abbrev three_of : List ℤ → Buffers
three_of spins = buffers spins (0 ∷ 0 ∷ 1 ∷ []) (0 ∷ 1 ∷ 1 ∷ 0 ∷ []) (2 ∷ 1 ∷ 0 ∷ 0 ∷ []) 2

pub other_moves : Answers (three (0 ∷ 1 ∷ 0 ∷ [])) exchanges (three_of (+ ∷ + ∷ + ∷ - ∷ - ∷ - ∷ [])) Moved (three_of (+ ∷ + ∷ - ∷ - ∷ - ∷ + ∷ []))
unfolding every any holds acts differs size_of is_first count_where has_one reached final
other_moves =
    goes_by (three (0 ∷ 1 ∷ 0 ∷ [])) exchanges (three_of (+ ∷ + ∷ + ∷ - ∷ - ∷ - ∷ [])) (three_of (+ ∷ + ∷ - ∷ - ∷ - ∷ + ∷ []))
    (0 ∷ 0 ∷ 0 ∷ []) [] refl (λ _. (refl, refl)) refl

pub all_held : Answers (three (1 ∷ 0 ∷ 1 ∷ [])) exchanges (three_of (+ ∷ + ∷ + ∷ - ∷ - ∷ - ∷ [])) Moved (three_of (+ ∷ + ∷ + ∷ - ∷ - ∷ - ∷ []))
unfolding every any holds acts differs size_of is_first count_where has_one reached final
all_held =
    goes_by (three (1 ∷ 0 ∷ 1 ∷ [])) exchanges (three_of (+ ∷ + ∷ + ∷ - ∷ - ∷ - ∷ [])) (three_of (+ ∷ + ∷ + ∷ - ∷ - ∷ - ∷ []))
    (0 ∷ 0 ∷ 0 ∷ []) [] refl (λ _. (refl, refl)) refl

-- CMR, Wolff: A = ++ and B = +-. The blue component is site 0 alone, the grey one has both sites, and the grey number flips A
abbrev grey : List ℕ → Call
grey pins = pinning pins Wolff (line 2 2 (1 ∷ 0 ∷ []) (1 ∷ 0 ∷ []) (pos 5 ∷ pos 0 ∷ [])) (whole 4) (whole 2 ∷ whole 2 ∷ [])

abbrev grey_of : List ℤ → Buffers
grey_of spins = Cmr.buffers spins (0 ∷ 1 ∷ []) (0 ∷ 0 ∷ []) (0 ∷ 2 ∷ 0 ∷ []) (1 ∷ 1 ∷ 0 ∷ 0 ∷ []) 2 1

-- only the grey one is held, by site 1: the blue flip stands
pub blue_stands : Answers (grey (0 ∷ 1 ∷ [])) (choosing [] (1 ∷ [])) (grey_of (+ ∷ + ∷ + ∷ - ∷ [])) Moved (grey_of (- ∷ + ∷ - ∷ - ∷ []))
unfolding every any holds holds_grey acts size_of is_first count_where has_one reached final mul div lt le of_int
blue_stands =
    goes_by (grey (0 ∷ 1 ∷ [])) (choosing [] (1 ∷ [])) (grey_of (+ ∷ + ∷ + ∷ - ∷ [])) (grey_of (- ∷ + ∷ - ∷ - ∷ []))
    [] (0 ∷ 0 ∷ []) refl (λ e. never (sym e)) refl

-- the blue one is held, by site 0: nothing moves
pub blue_held : Answers (grey (1 ∷ 0 ∷ [])) (choosing [] (1 ∷ [])) (grey_of (+ ∷ + ∷ + ∷ - ∷ [])) Held (grey_of (+ ∷ + ∷ + ∷ - ∷ []))
unfolding every any holds holds_grey acts size_of is_first count_where has_one reached final mul div lt le of_int
blue_held =
    stays_by (grey (1 ∷ 0 ∷ [])) (choosing [] (1 ∷ [])) (grey_of (+ ∷ + ∷ + ∷ - ∷ [])) (grey_of (+ ∷ + ∷ + ∷ - ∷ []))
    [] (0 ∷ 0 ∷ []) refl (λ e. never (sym e)) refl refl

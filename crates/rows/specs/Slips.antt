-- Moves by computing (not rows of document 01) that shut out its slips. Two systems, A and B, in each.
use Rattle.std.specs.Prelude.{ℕ, refl, List, [], ◌∷◌, ℤ, pos}
use Rattle.std.specs.Float.Ieee.{mul, div, lt, le, of_int, round}
use Rattle.lemmas.specs.Sums.{sum}
use Rattle.lemmas.specs.Counts.{count_where}
use Rattle.lemmas.specs.Cells.{table}
use Rattle.lemmas.specs.Bools.{every}
use Rattle.paper.specs.declared.Mode.TheVariants.{Pair, Perm, Gperm, Jorg}
use Rattle.paper.specs.declared.Form.{Form}
use Rattle.paper.specs.declared.Form.TheVariants.{Sw, Wolff}
use Rattle.paper.specs.Answer.Cases.{Answer.Idle, Answer.Moved}
use Rattle.paper.specs.Panel.Input.{Lattice, Call, Choices, Buffers}
use Rattle.paper.specs.Site.Acting.{differs, pair_differs, acts}
use Rattle.paper.specs.Site.Bonds.{whole, holds}
use Rattle.paper.specs.Component.Sizes.{size_of, is_first}
use Rattle.paper.specs.Move.Moving.{other, has_one, reached, final}
use Rattle.paper.specs.Answer.Move.{Answers}
use Rattle.paper.specs.Rows.Cases.{+, -, decimal, line, plain, first, buffers}
use Rattle.laws.specs.Decided.{any}
use Rattle.laws.specs.ByAnswer.{goes_by, rests_by}

abbrev ring : Lattice
ring = line 3 2 (1 ∷ 2 ∷ 0 ∷ []) (2 ∷ 0 ∷ 1 ∷ []) []

-- two sites with two bonds between them
abbrev twins : List ℤ → Lattice
twins couplings = line 2 2 (1 ∷ 0 ∷ []) (1 ∷ 0 ∷ []) couplings

abbrev permuting : List ℕ → Choices
permuting perms = record { choices = perms; greys = [] }

abbrev before3 : List ℤ → Buffers
before3 spins = buffers spins (9 ∷ 9 ∷ 9 ∷ []) (9 ∷ 9 ∷ 9 ∷ 9 ∷ []) (9 ∷ 9 ∷ 9 ∷ 9 ∷ []) 9

abbrev before2 : List ℤ → Buffers
before2 spins = buffers spins (9 ∷ 9 ∷ []) (9 ∷ 9 ∷ 9 ∷ []) (9 ∷ 9 ∷ 9 ∷ 9 ∷ []) 9

-- "Following forward neighbours only, so a patch splits": site 2's bond leads back to site 0, and these two alone act
pub patch_whole :
    Answers (plain Perm Sw ring (first 2)) (permuting (1 ∷ 0 ∷ 1 ∷ 0 ∷ 1 ∷ 0 ∷ [])) (before3 (+ ∷ + ∷ + ∷ - ∷ + ∷ - ∷ [])) Moved
    (buffers (- ∷ + ∷ - ∷ + ∷ + ∷ + ∷ []) (0 ∷ 1 ∷ 0 ∷ []) (0 ∷ 0 ∷ 1 ∷ 0 ∷ []) (2 ∷ 0 ∷ 0 ∷ 0 ∷ []) 2)
unfolding every any holds acts differs size_of is_first count_where has_one reached final table
patch_whole =
    goes_by (plain Perm Sw ring (first 2)) (permuting (1 ∷ 0 ∷ 1 ∷ 0 ∷ 1 ∷ 0 ∷ [])) (before3 (+ ∷ + ∷ + ∷ - ∷ + ∷ - ∷ []))
    (buffers (- ∷ + ∷ - ∷ + ∷ + ∷ + ∷ []) (0 ∷ 1 ∷ 0 ∷ []) (0 ∷ 0 ∷ 1 ∷ 0 ∷ []) (2 ∷ 0 ∷ 0 ∷ 0 ∷ []) 2)
    (0 ∷ 0 ∷ 0 ∷ []) [] refl (λ _. (refl, refl)) refl

-- a component's choice is the one at its label: sites 1 and 2 read entry 1
pub choice_at_label :
    Answers (plain Perm Sw ring (first 2)) (permuting (0 ∷ 1 ∷ 1 ∷ 0 ∷ 0 ∷ 1 ∷ [])) (before3 (+ ∷ + ∷ + ∷ + ∷ - ∷ - ∷ [])) Moved
    (buffers (+ ∷ - ∷ - ∷ + ∷ + ∷ + ∷ []) (0 ∷ 1 ∷ 1 ∷ []) (0 ∷ 0 ∷ 1 ∷ 0 ∷ []) (2 ∷ 0 ∷ 0 ∷ 0 ∷ []) 2)
unfolding every any holds acts differs size_of is_first count_where has_one reached final table
choice_at_label =
    goes_by (plain Perm Sw ring (first 2)) (permuting (0 ∷ 1 ∷ 1 ∷ 0 ∷ 0 ∷ 1 ∷ [])) (before3 (+ ∷ + ∷ + ∷ + ∷ - ∷ - ∷ []))
    (buffers (+ ∷ - ∷ - ∷ + ∷ + ∷ + ∷ []) (0 ∷ 1 ∷ 1 ∷ []) (0 ∷ 0 ∷ 1 ∷ 0 ∷ []) (2 ∷ 0 ∷ 0 ∷ 0 ∷ []) 2)
    (0 ∷ 1 ∷ 1 ∷ []) [] refl (λ _. (refl, refl)) refl

-- numbers have no gap, and a component of sites that do not act has its own: sites 0 and 1 are the component 0 and site 2, which rests, is 1
pub rest_numbered :
    Answers (plain Perm Sw ring (first 2)) (permuting (1 ∷ 0 ∷ 0 ∷ 1 ∷ 0 ∷ 1 ∷ [])) (before3 (+ ∷ + ∷ + ∷ - ∷ - ∷ + ∷ [])) Moved
    (buffers (- ∷ - ∷ + ∷ + ∷ + ∷ + ∷ []) (0 ∷ 0 ∷ 1 ∷ []) (0 ∷ 0 ∷ 1 ∷ 0 ∷ []) (2 ∷ 0 ∷ 0 ∷ 0 ∷ []) 2)
unfolding every any holds acts differs size_of is_first count_where has_one reached final table
rest_numbered =
    goes_by (plain Perm Sw ring (first 2)) (permuting (1 ∷ 0 ∷ 0 ∷ 1 ∷ 0 ∷ 1 ∷ [])) (before3 (+ ∷ + ∷ + ∷ - ∷ - ∷ + ∷ []))
    (buffers (- ∷ - ∷ + ∷ + ∷ + ∷ + ∷ []) (0 ∷ 0 ∷ 1 ∷ []) (0 ∷ 0 ∷ 1 ∷ 0 ∷ []) (2 ∷ 0 ∷ 0 ∷ 0 ∷ []) 2)
    (0 ∷ 0 ∷ 0 ∷ []) [] refl (λ _. (refl, refl)) refl

-- a choice is read at the component's number, not at its smallest site: site 2, joined to itself, is the component 1. Entry 1 exchanges, 2 does not
abbrev pair_and_one : Call
pair_and_one = plain Perm Sw (line 3 2 (1 ∷ 0 ∷ 2 ∷ []) (1 ∷ 0 ∷ 2 ∷ []) []) (first 2)

abbrev pair_and_one_after : Buffers
pair_and_one_after = buffers (+ ∷ + ∷ - ∷ - ∷ - ∷ + ∷ []) (0 ∷ 0 ∷ 1 ∷ []) (0 ∷ 1 ∷ 1 ∷ 0 ∷ []) (2 ∷ 1 ∷ 0 ∷ 0 ∷ []) 2

pub choice_at_number : Answers pair_and_one (permuting (0 ∷ 1 ∷ 1 ∷ 0 ∷ 0 ∷ 1 ∷ [])) (before3 (+ ∷ + ∷ + ∷ - ∷ - ∷ - ∷ [])) Moved pair_and_one_after
unfolding every any holds acts differs size_of is_first count_where has_one reached final table
choice_at_number =
    goes_by pair_and_one (permuting (0 ∷ 1 ∷ 1 ∷ 0 ∷ 0 ∷ 1 ∷ [])) (before3 (+ ∷ + ∷ + ∷ - ∷ - ∷ - ∷ [])) pair_and_one_after
    (0 ∷ 0 ∷ 0 ∷ []) [] refl (λ _. (refl, refl)) refl

-- "Drawing one permutation for the whole panel": two sites, each joined to itself, exchange and stay
abbrev apart : Call
apart = plain Perm Sw (line 2 2 (0 ∷ 1 ∷ []) (0 ∷ 1 ∷ []) []) (first 2)

abbrev apart_after : Buffers
apart_after = buffers (- ∷ + ∷ + ∷ - ∷ []) (0 ∷ 1 ∷ []) (0 ∷ 2 ∷ 0 ∷ []) (1 ∷ 1 ∷ 0 ∷ 0 ∷ []) 2

pub each_its_own : Answers apart (permuting (1 ∷ 0 ∷ 0 ∷ 1 ∷ [])) (before2 (+ ∷ + ∷ - ∷ - ∷ [])) Moved apart_after
unfolding every any holds acts differs size_of is_first count_where has_one reached final table
each_its_own = goes_by apart (permuting (1 ∷ 0 ∷ 0 ∷ 1 ∷ [])) (before2 (+ ∷ + ∷ - ∷ - ∷ [])) apart_after [] [] refl (λ _. (refl, refl)) refl

-- gperm by the reference site 0, (+,-) there: site 1 acts, and gets the products' exchange, not the spins'
abbrev gauged_by0 : Call
gauged_by0 = plain Gperm Sw (twins []) (first 2)

abbrev gauged_after : Buffers
gauged_after = buffers (+ ∷ - ∷ - ∷ - ∷ []) (0 ∷ 1 ∷ []) (0 ∷ 1 ∷ 0 ∷ []) (1 ∷ 0 ∷ 0 ∷ 0 ∷ []) 2

pub gauge_kept : Answers gauged_by0 (permuting (1 ∷ 0 ∷ 1 ∷ 0 ∷ [])) (before2 (+ ∷ + ∷ - ∷ + ∷ [])) Moved gauged_after
unfolding every any holds acts differs size_of is_first count_where has_one reached final table
gauge_kept = goes_by gauged_by0 (permuting (1 ∷ 0 ∷ 1 ∷ 0 ∷ [])) (before2 (+ ∷ + ∷ - ∷ + ∷ [])) gauged_after [] [] refl (λ _. (refl, refl)) refl

-- one site joined to itself is single: pair moves it in the Wolff form, and not in SW, where the answer is "moved" all the same
abbrev single : Form → Call
single form = plain Pair form (line 1 2 (0 ∷ []) (0 ∷ []) []) (first 2)

abbrev single1 : List ℤ → Buffers
single1 spins = buffers spins (0 ∷ []) (0 ∷ 1 ∷ []) (1 ∷ 0 ∷ 0 ∷ 0 ∷ []) 1

abbrev flipping : List ℕ → Choices
flipping flips = record { choices = flips; greys = [] }

pub wolff_single : Answers (single Wolff) (flipping []) (single1 (+ ∷ - ∷ [])) Moved (single1 (- ∷ + ∷ []))
unfolding every any holds acts pair_differs size_of is_first count_where other has_one reached final table
wolff_single = goes_by (single Wolff) (flipping []) (single1 (+ ∷ - ∷ [])) (single1 (- ∷ + ∷ [])) [] [] refl (λ _. (refl, refl)) refl

pub sw_single : Answers (single Sw) (flipping (1 ∷ [])) (single1 (+ ∷ - ∷ [])) Moved (single1 (+ ∷ - ∷ []))
unfolding every any holds acts pair_differs size_of is_first count_where other has_one reached final table
sw_single = goes_by (single Sw) (flipping (1 ∷ [])) (single1 (+ ∷ - ∷ [])) (single1 (+ ∷ - ∷ [])) [] [] refl (λ _. (refl, refl)) refl

-- no site acts: idle, and the outputs are written. The one component has its number, and none is counted
abbrev idle1 : Buffers
idle1 = buffers (+ ∷ + ∷ []) (0 ∷ []) (0 ∷ 0 ∷ []) (0 ∷ 0 ∷ 0 ∷ 0 ∷ []) 1

pub idle_written : Answers (single Wolff) (flipping []) (buffers (+ ∷ + ∷ []) (9 ∷ []) (9 ∷ 9 ∷ []) (9 ∷ 9 ∷ 9 ∷ 9 ∷ []) 9) Idle idle1
unfolding every any holds acts pair_differs size_of is_first count_where other has_one reached final table
idle_written =
    rests_by (single Wolff) (flipping []) (buffers (+ ∷ + ∷ []) (9 ∷ []) (9 ∷ 9 ∷ []) (9 ∷ 9 ∷ 9 ∷ 9 ∷ []) 9) idle1
    [] [] refl (λ _. (refl, refl)) refl refl

-- two bonds of one pair have a cut each: the second joins where the first does not
abbrev doubled : Call
doubled = record {
  mode = Jorg;
  form = Sw;
  lattice = twins (pos 1 ∷ pos 1 ∷ []);
  pins = 0 ∷ 0 ∷ [];
  group = first 2;
  temperature = whole 2;
  cuts = whole 100 ∷ decimal 5 1 ∷ [];
  reference = 0;
  seed = 0;
}

abbrev doubled_after : Buffers
doubled_after = buffers (- ∷ - ∷ + ∷ + ∷ []) (0 ∷ 0 ∷ []) (0 ∷ 0 ∷ 1 ∷ []) (2 ∷ 0 ∷ 0 ∷ 0 ∷ []) 1

pub either_bond : Answers doubled (flipping (1 ∷ 0 ∷ [])) (before2 (+ ∷ + ∷ - ∷ - ∷ [])) Moved doubled_after
unfolding every any holds acts sum pair_differs size_of is_first count_where other has_one reached final table mul div lt le of_int round
either_bond =
    goes_by doubled (flipping (1 ∷ 0 ∷ [])) (before2 (+ ∷ + ∷ - ∷ - ∷ [])) doubled_after (0 ∷ 0 ∷ []) [] refl (λ _. (refl, refl)) refl

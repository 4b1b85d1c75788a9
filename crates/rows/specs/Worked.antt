-- The moves of rows 12 and 13, by computing.
use Rattle.std.specs.Prelude.{refl, []}
use Rattle.lemmas.specs.Sums.{sum}
use Rattle.lemmas.specs.Counts.{count_where}
use Rattle.lemmas.specs.Cells.{table}
use Rattle.lemmas.specs.Bools.{every}
use Rattle.paper.specs.declared.Mode.TheVariants.{Pair, Perm}
use Rattle.paper.specs.Answer.Cases.{Answer.Moved}
use Rattle.paper.specs.Site.Acting.{differs, pair_differs, acts}
use Rattle.paper.specs.Site.Bonds.{holds}
use Rattle.paper.specs.Component.Sizes.{size_of, is_first}
use Rattle.paper.specs.Move.Moving.{other, has_one, reached, final}
use Rattle.paper.specs.Answer.Move.{Answers}
use Rattle.paper.specs.Rows.Cases.{houd4, before12, after12, frame, no_choices, frame_perms, all_flips, before13, after13, moved13}
use Rattle.laws.specs.Decided.{any}
use Rattle.laws.specs.Verdicts.{refused_by}
use Rattle.laws.specs.ByAnswer.{Shown, shown, moves_by, numbered_by, goes_by}
use Rattle.rows.specs.Table.{HoudOfFour}

row12 : Shown houd4 no_choices before12 after12 [] []
unfolding every any holds acts sum table has_one size_of is_first count_where reached final
row12 = (shown houd4 no_choices before12 after12 [] []).holds refl

pub houd_of_four : HoudOfFour
unfolding every any
houd_of_four = record {
  components = numbered_by houd4 no_choices before12 after12 [] [] row12;
  moves = moves_by houd4 no_choices before12 after12 [] [] row12;
  refused = record { why = refused_by houd4 no_choices before12 14 refl; kept = refl };
}

pub answer13 : Answers (frame Perm) frame_perms before13 Moved (after13 moved13)
unfolding every any holds acts differs size_of is_first count_where has_one reached final table
answer13 = goes_by (frame Perm) frame_perms before13 (after13 moved13) [] [] refl (λ _. (refl, refl)) refl

pub answer13_pair : Answers (frame Pair) all_flips before13 Moved (after13 before13.spins)
unfolding every any holds acts pair_differs size_of is_first count_where other has_one reached final table
answer13_pair = goes_by (frame Pair) all_flips before13 (after13 before13.spins) [] [] refl (λ _. (refl, refl)) refl

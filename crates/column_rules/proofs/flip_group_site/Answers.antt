-- `column_rules::flip_group_site` meets its contract: in each mode's arm the flip is the mode's.
use mathlib.Core.Path.{◌∙◌, sym}
use mathlib.Core.Logic.{inl, inr}
use Rattle.columns.specs.Bits.{column_low}
use Rattle.column_rules.proofs.Flips.{flip_houd, flip_pair, flip_cmr}
use Rattle.column_rules.proofs.flip_group_site.Goals as goal

pub returns-in-Houd : goal.returns-in-Houd
returns-in-Houd c = rw c.in-Houd.is (c.joined.ensures ∙ flip_houd c.args.group.len c.args.column c.requires c.ranges.column.fits)

pub returns-in-Pair : goal.returns-in-Pair
returns-in-Pair c = let a = c.args in
    rw c.in-Pair.is (c.joined-in-Pair.ensures ∙ flip_pair a.group.len a.column c.requires c.ranges.column.fits _ c.exchanged.ensures)

pub returns-in-Perm : goal.returns-in-Perm
returns-in-Perm c = let a = c.args in
    elim c.in-Perm.is [
      | inl e ↦ rw e (c.low.ensures ∙ sym (column_low a.group.len a.column))
      | inr e ↦ rw e (c.low.ensures ∙ sym (column_low a.group.len a.column))
    ]

pub returns-in-Jorg : goal.returns-in-Jorg
returns-in-Jorg c = let a = c.args in
    rw c.in-Jorg.is (c.joined-in-Jorg.ensures ∙ flip_pair a.group.len a.column c.requires c.ranges.column.fits _ c.exchanged-in-Jorg.ensures)

pub returns-in-Cmr : goal.returns-in-Cmr
returns-in-Cmr c = rw c.in-Cmr.is (c.low-in-Cmr.ensures ∙ flip_cmr c.args.group.len c.args.column c.requires c.ranges.column.fits)

-- `choose_columns` meets its contract: the reached sites, then permutations or flips.
use mathlib.Core.Path.{◌≡◌, sym, ◌∙◌}
use mathlib.Core.Bool.{true, false}
use lib.ListN.{length}
use Rattle.paper.specs.Panel.Takes.{is_perm}
use Rattle.moves.specs.Choosing.{by_flips, by_perms}
use Rattle.moves.proofs.choose_columns.Goals as goal

pub returns-then-is_perm : goal.returns-then-is_perm
returns-then-is_perm c =
    let perm-yes : is_perm c.args.t.mode ≡ true = sym c.is_perm.ensures ∙ c.if-is_perm.true in
    λ pins freed.
    let a = c.args in
    let p = c.requires.choosable in
    record {
      long = c.permute_columns.ensures.long;
      at = λ i l.
          c.permute_columns.ensures.at i l
          ∙ by_perms a.t (length a.acts.now) pins a.acts.now a.labels.now a.choices.now _ a.cols.now
          (c.reach.ensures pins freed) _ c.gauge-gauge.ensures perm-yes i (rw p.flags_long l);
    }

pub returns-else-is_perm : goal.returns-else-is_perm
returns-else-is_perm c =
    let perm-no : is_perm c.args.t.mode ≡ false = sym c.is_perm.ensures ∙ c.if-is_perm.false in
    λ pins freed.
    let a = c.args in
    let p = c.requires.choosable in
    record {
      long = c.flip_columns.ensures.long;
      at = λ i l.
          c.flip_columns.ensures.at i l
          ∙ by_flips a.t (length a.acts.now) pins a.acts.now a.labels.now a.choices.now _ a.cols.now
          (c.reach.ensures pins freed) _ perm-no c.flip_table.ensures i (rw p.flags_long l) (p.narrow i l);
    }

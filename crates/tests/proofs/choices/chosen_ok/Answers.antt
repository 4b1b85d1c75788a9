-- `chosen_ok` meets its contract: it is all of its parts.
use Prim.Native.Nat.{◌≤◌, ◌<◌}
use mathlib.Core.Path.{sym, ◌∙◌}
use mathlib.Core.Bool.{◌&&◌}
use lib.ListN.{get_or}
use Rattle.lemmas.specs.Tells.{said, same, implies, test_is, test_lt}
use Rattle.paper.specs.Panel.Takes.{is_gperm, one_cluster, flips_by, perms_by, greys_by, entries}
use Rattle.paper.specs.Refusal.Rules.{When}
use Rattle.tests.specs.Choices.{AtMost, PermRows, RowMoves}
use Rattle.tests.proofs.Chosen.{chosen_told}
use Rattle.tests.proofs.choices.chosen_ok.Goals as goal

pub returns : goal.returns
returns c = let a = c.args in
    let t = a.t in
    chosen_told t a.choices.now a.greys.now c.requires
    (said c.perms_fit.result (When (perms_by t.mode t.form) (PermRows (entries t.form t.n) t.group.len a.choices.now))
    (rw (c.takes_perms-by_perms.ensures, c.entries-rows.ensures) at c.perms_fit.ensures))
    (said c.moved_fit.result (When (perms_by t.mode t.form && one_cluster t.form) (RowMoves a.choices.now))
    (rw (c.takes_perms-by_perms.ensures, c.one_cluster-one.ensures) at c.moved_fit.ensures))
    (said c.bytes_fit.result (When (flips_by t.mode t.form) (AtMost a.choices.now 1))
    (rw c.takes_flips-by_flips.ensures at c.bytes_fit.ensures))
    (said c.bytes_fit-2.result (When (greys_by t.mode t.form) (AtMost a.greys.now 3))
    (rw c.takes_greys-by_greys.ensures at c.bytes_fit-2.ensures))
    (said c.grey_fit.result (When (greys_by t.mode t.form && one_cluster t.form) (1 ≤ get_or a.greys.now 0 0))
    (rw (c.takes_greys-by_greys.ensures, c.one_cluster-one.ensures) at c.grey_fit.ensures))
    (same (When (is_gperm t.mode) (t.reference < t.n)) (λ w e. w (c.is_gperm.ensures ∙ e)) (λ w e. w (sym c.is_gperm.ensures ∙ e))
    (implies (test_is c.is_gperm.result) (test_lt t.reference t.n)))

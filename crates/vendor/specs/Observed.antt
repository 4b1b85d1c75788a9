-- What is asked of the spins before by an observation of their bytes: tests 4 and 9, and the components.
use Rattle.std.specs.Prelude.{ℕ, ◌*◌, ◌<◌, ◌≡◌, true, List, [], ◌∷◌, length, ℤ}
use Rattle.std.proofs.Common.{sym, subst}
use Rattle.paper.specs.declared.Task.{Task}
use Rattle.paper.specs.Panel.Input.{Call, Pattern, graph}
use Rattle.paper.specs.Panel.Takes.{is_perm, takes_reference}
use Rattle.paper.specs.Site.Bonds.{holds}
use Rattle.paper.specs.Component.Labels.{Labels}
use Rattle.paper.specs.Refusal.Rule.{Rule, rule, Kept}
use Rattle.paper.specs.Refusal.Rules.{When, Ranged, Inverse, Pins}
use Rattle.paper.specs.Refusal.Verdict.{Verdict, verdict_kept}
use Rattle.columns.specs.Column.{Columns}
use Rattle.packing.specs.Bytes.{rows_of, Narrow}
use Rattle.vendor.specs.Vendor.{asked_by}

pub record Observable (t : Task) (columns fwd bwd pins labels : List ℕ) : Type 0 where
  pub ranged : Ranged t.n t.d t.group.len t.mode t.group.len
  pub perm : is_perm t.mode ≡ true
  pub long : length columns ≡ t.n
  pub narrow : Narrow t.group.len columns
  pub fwd_long : length fwd ≡ t.n * t.d
  pub bwd_long : length bwd ≡ t.n * t.d
  pub pins_long : length pins ≡ t.n
  pub labels_long : length labels ≡ t.n

-- the last of the rules
abbrev pub table_rules : Call → List Rule
table_rules c =
    rule 4 (Inverse c.lattice.n c.lattice.d c.lattice.fwd c.lattice.bwd)
    ∷ rule 4 (Pins c.pins)
    ∷ rule 9 (When (takes_reference c) (c.reference < c.lattice.n))
    ∷ []

pub record Labelled (c : Call) (xs : List ℤ) (labels : List ℕ) : Type 0 where
  pub found : ℕ
  pub numbered : Labels (graph c) (holds c xs) labels found

pub record Observes (t : Task) (columns fwd bwd pins : List ℕ) (r : ℕ) (columns' labels' : List ℕ) : Type 0 where
  pub verdict : Verdict (table_rules (asked_by t fwd bwd pins)) r
  pub still : columns' ≡ columns
  pub labelled : r ≡ 0 → Labelled (asked_by t fwd bwd pins) (rows_of t.group.len columns) labels'

-- ---- the bytes after it are those before
module _ {t : Task} {columns fwd bwd pins columns' labels' : List ℕ} {r : ℕ} (w : Observes t columns fwd bwd pins r columns' labels') where
  pub packed_still : {n m : ℕ} {f : ℕ → Pattern} → Columns n m f columns → Columns n m f columns'
  packed_still {n} {m} {f} p = subst (λ (xs : List ℕ). Columns n m f xs) (sym w.still) p

  pub labelled_still : r ≡ 0 → Labelled (asked_by t fwd bwd pins) (rows_of t.group.len columns') labels'
  labelled_still e =
      subst (λ (xs : List ℕ). Labelled (asked_by t fwd bwd pins) (rows_of t.group.len xs) labels') (sym w.still) (w.labelled e)

  pub tables_kept : r ≡ 0 → Kept (table_rules (asked_by t fwd bwd pins))
  tables_kept e = verdict_kept (table_rules (asked_by t fwd bwd pins)) r e w.verdict

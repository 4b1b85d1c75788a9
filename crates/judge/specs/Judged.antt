-- One bond, judged from the spins at its two ends: what is asked and what is answered. No table of neighbours is read.
use Rattle.std.specs.Prelude.{ℕ, ◌+◌, ◌*◌, ◌≤◌, ◌<◌, ◌≡◌, Bool, true, false, cond, ◌&&◌, List, get_or, ℤ, pos, Float}
use Rattle.std.specs.Float.{nan}
use Rattle.std.specs.Int.Bits.{bit_xor}
use Rattle.paper.specs.declared.Task.{Task}
use Rattle.paper.specs.declared.Mode.{Mode}
use Rattle.paper.specs.declared.Mode.TheVariants.{Houd, Pair, Perm, Gperm, Jorg, Cmr}
use Rattle.paper.specs.declared.BondKind.{BondKind}
use Rattle.paper.specs.Panel.Input.{Pattern, pattern_of}
use Rattle.paper.specs.Panel.Takes.{is_cmr, is_drawn}
use Rattle.paper.specs.Site.Acting.{test_by}
use Rattle.paper.specs.Site.Bonds.{sampler_of, jorg_holds, kind_of, blue_holds, grey_holds}
use Rattle.paper.specs.Refusal.Rules.{When}
use Rattle.columns.specs.Column.{shown, column_of}
use Rattle.columns.specs.Gauge.{gauge_of}
use Rattle.column_rules.specs.Sight.{acts_at, Sighted}
use Rattle.bonds.specs.Table.{Coupled}
use Rattle.judge.specs.declared.Rule.{Rule}

-- ---- what is asked

-- the group's rows of spins, and in the modes that draw a coupling and a cut for each bond
pub record Growable (t : Task) (xs js : List ℤ) (cuts : List Float) : Type 0 where
  pub panel : Sighted t.mode t.n t.group t.reference xs
  pub directions : t.d ≤ 4
  pub two : When (is_cmr t.mode) (t.group.len ≡ 2)
  pub coupled : When (is_drawn t.mode) (Coupled t.n t.d js cuts)

-- the task's gauge, which is that of the reference site
abbrev pub gauge_for : Task → List ℤ → ℕ
gauge_for t xs = gauge_of t.mode t.group.len (column_of t.group.len (pattern_of t.n t.group xs t.reference))

-- the rule r was made for the task t and the spins xs
pub record Prepared (t : Task) (colour : Bool) (xs : List ℤ) (r : Rule) : Type 0 where
  pub task : r.task ≡ t
  pub grey : r.grey ≡ colour
  pub sampler : r.sampler ≡ sampler_of t.temperature
  pub gauge : r.gauge ≡ gauge_for t xs

pub record Ready (r : Rule) (xs js : List ℤ) (cuts : List Float) : Type 0 where
  pub growable : Growable r.task xs js cuts
  pub prepared : Prepared r.task r.grey xs r

-- what one judgement asks of that, which reads no spins
pub record Judgeable (t : Task) (js : List ℤ) (cuts : List Float) : Type 0 where
  pub sites : t.n ≤ 4096
  pub directions : t.d ≤ 4
  pub few : t.group.len ≤ 8
  pub coupled : When (is_drawn t.mode) (Coupled t.n t.d js cuts)

-- the bond (i, e)
pub record BondOf (t : Task) (i e : ℕ) : Type 0 where
  pub from : i < t.n
  pub direction : e < t.d

-- ---- what is answered

abbrev pub ends_act : Task → List ℤ → ℕ → ℕ → Bool
ends_act t xs i j = acts_at t.mode t.n t.group t.reference xs i && acts_at t.mode t.n t.group t.reference xs j

-- does a site with the column x act, seen through the rule's gauge?
abbrev pub column_acts : Rule → ℕ → Bool
column_acts r x = test_by r.task.mode r.task.group.len (shown (bit_xor x r.gauge))

-- in a mode that does not draw its bonds it does
abbrev pub KnownToAct : Rule → ℕ → Type 0
KnownToAct r x = is_drawn r.task.mode ≡ false → column_acts r x ≡ true

abbrev pub coupling_of : Task → List ℤ → ℕ → ℕ → ℤ
coupling_of t js i e = get_or js (i * t.d + e) (pos 0)

abbrev pub cut_of : Task → List Float → ℕ → ℕ → Float
cut_of t cuts i e = get_or cuts (i * t.d + e) nan

abbrev pub end_at : Task → List ℤ → ℕ → Pattern
end_at t = pattern_of t.n t.group

-- the column of the group at the site i
abbrev pub column_for : Task → List ℤ → ℕ → ℕ
column_for t xs i = column_of t.group.len (end_at t xs i)

abbrev pub kind_for : Task → List ℤ → List ℤ → ℕ → ℕ → ℕ → BondKind
kind_for t xs js i e j = kind_of (coupling_of t js i e) (end_at t xs i) (end_at t xs j)

-- does the bond (i, e) hold, which leads to the site j? CMR: is it a blue one, or with `grey` a grey one
abbrev pub judged_by : Mode → Task → Bool → List ℤ → List ℤ → List Float → ℕ → ℕ → ℕ → Bool
judged_by Houd t grey xs js cuts i e j = ends_act t xs i j
judged_by Pair t grey xs js cuts i e j = ends_act t xs i j
judged_by Perm t grey xs js cuts i e j = ends_act t xs i j
judged_by Gperm t grey xs js cuts i e j = ends_act t xs i j
judged_by Jorg t grey xs js cuts i e j =
    ends_act t xs i j
    && jorg_holds (coupling_of t js i e) t.group.len (end_at t xs i) (end_at t xs j) (sampler_of t.temperature) (cut_of t cuts i e)
judged_by Cmr t grey xs js cuts i e j =
    cond grey
    (grey_holds (kind_for t xs js i e j) (sampler_of t.temperature) (cut_of t cuts i e))
    (blue_holds (kind_for t xs js i e j) (sampler_of t.temperature) (cut_of t cuts i e))

unfoldable pub judged : Task → Bool → List ℤ → List ℤ → List Float → ℕ → ℕ → ℕ → Bool
judged t grey xs js cuts i e j = judged_by t.mode t grey xs js cuts i e j

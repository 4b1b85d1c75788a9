-- What the functions ask and promise: the growth by the rule that a mode judges its bonds by.
use Rattle.std.specs.Prelude.{ℕ, ◌+◌, ◌*◌, ◌≤◌, ◌<◌, ◌≡◌, Bool, List, length, get_or, ℤ, Float}
use Rattle.std.proofs.Math.Bool.{true}
use Rattle.lemmas.specs.Bools.{never}
use Rattle.paper.specs.declared.Task.{Task}
use Rattle.paper.specs.declared.BondKind.{BondKind}
use Rattle.paper.specs.declared.BondKind.TheVariants.{None, Blue, Red}
use Rattle.paper.specs.declared.Sampler.{Sampler}
use Rattle.paper.specs.declared.Mode.{Mode}
use Rattle.paper.specs.declared.Mode.TheVariants.{Houd, Pair, Perm, Gperm, Jorg, Cmr}
use Rattle.paper.specs.Panel.Input.{Graph, Call, graph}
use Rattle.paper.specs.Panel.Takes.{is_cmr}
use Rattle.paper.specs.Site.Bonds.{blue_holds, grey_holds, kind_at, sampler_of, cut_at, holds_by, holds, holds_grey}
use Rattle.paper.specs.Refusal.Rules.{Inverse}
use Rattle.paper.specs.Answer.Move.{member_bonds}
use Rattle.judge.specs.declared.Rule.{Rule}
use Rattle.judge.specs.Judged.{Growable, Ready, judged}
use Rattle.grow.specs.Kept.{MemberActs}
use Rattle.grow.specs.Listed.{Listed}
use Rattle.grow.specs.Spread.{Cluster}

abbrev pub graph_for : Task → List ℕ → Graph
graph_for t fwd = record { n = t.n; d = t.d; fwd = fwd }

-- the rule of a growth: the bond (i, e) as it is judged, with the site that it leads to
abbrev pub ruled : Rule → List ℕ → List ℤ → List ℤ → List Float → ℕ → ℕ → Bool
ruled r fwd xs js cuts i e = judged r.task r.grey xs js cuts i e (get_or fwd (i * r.task.d + e) 0)

-- ---- what is asked

-- tables that lead there and back
pub record Tabled (t : Task) (fwd bwd : List ℕ) : Type 0 where
  pub fwd_long : length fwd ≡ t.n * t.d
  pub bwd_long : length bwd ≡ t.n * t.d
  pub inverse : Inverse t.n t.d fwd bwd

pub record Grounds (r : Rule) (fwd bwd : List ℕ) (xs js : List ℤ) (cuts : List Float) : Type 0 where
  pub ready : Ready r xs js cuts
  pub tables : Tabled r.task fwd bwd

-- a site that is not marked, and the list that it may come to
pub record Meeting (n found : ℕ) (m l : List ℕ) (len : ℕ) : Type 0 where
  pub long : length m ≡ n
  pub site : found < n
  pub listed : Listed m l len
  pub new : get_or m found 0 ≡ 1 → ⊥

-- the place head waits, and last is the end of the list
pub record Waiting (head last room : ℕ) : Type 0 where
  pub head_lt : head < room
  pub last_lt : last < room

pub record Seedable (t : Task) (fwd bwd : List ℕ) (xs js : List ℤ) (cuts : List Float) (members list cols : ℕ) : Type 0 where
  pub growable : Growable t xs js cuts
  pub tables : Tabled t fwd bwd
  pub seed_lt : t.seed < t.n
  pub members_long : members ≡ t.n
  pub list_long : t.n ≤ list
  pub cols_long : cols ≡ 4096
  pub seed_acts : MemberActs t xs t.seed

-- ---- what is promised

-- the members, listed; the first of the list are the sites that the paper's bonds join to the seed, in CMR the blue ones
pub record Grew (c : Call) (xs : List ℤ) (m l : List ℕ) (blue len : ℕ) : Type 0 where
  pub more : blue ≤ len
  pub cluster : Cluster (graph c) (member_bonds c xs) c.seed m l len
  pub blues : List ℕ
  pub first : Cluster (graph c) (holds c xs) c.seed blues l blue

-- ---- a blue bond is a grey one
module _ (c : Call) (xs : List ℤ) (i e : ℕ) where
  either : (k : BondKind) (s : Sampler) (cut : Float) → blue_holds k s cut ≡ true → grey_holds k s cut ≡ true
  either None s cut on = on
  either (Blue w) s cut on = on
  either (Red w) s cut on = never on

  pub blue_grey : is_cmr c.mode ≡ true → holds c xs i e ≡ true → holds_grey c xs i e ≡ true
  unfolding holds holds_grey
  blue_grey q on = go c.mode q on
    where
      go : (m : Mode) → is_cmr m ≡ true → holds_by m c xs i e ≡ true → grey_holds (kind_at c xs i e) (sampler_of c.temperature) (cut_at c i e) ≡ true
      go Houd q on = never q
      go Pair q on = never q
      go Perm q on = never q
      go Gperm q on = never q
      go Jorg q on = never q
      go Cmr q on = either (kind_at c xs i e) (sampler_of c.temperature) (cut_at c i e) on

-- The cluster found: what is asked, and what is promised of the answer and the members.
use Rattle.std.specs.Prelude.{ℕ, ◌≤◌, ◌<◌, ◌≡◌, refl, Bool, true, false, List, length, ℤ, Float}
use Rattle.std.proofs.Math.Path.{sym}
use Rattle.std.proofs.Common.{arith}
use Rattle.lemmas.specs.Counts.{count_most}
use Rattle.lemmas.specs.Stores.{Cleared, cleared_all}
use Rattle.paper.specs.Answer.Cases.{Answer, Answer.Refused, Answer.Idle, Answer.Held, Answer.Moved}
use Rattle.paper.specs.declared.Task.{Task}
use Rattle.paper.specs.Panel.Input.{Call}
use Rattle.paper.specs.Panel.Made.{call_of}
use Rattle.paper.specs.Site.Acting.{acts}
use Rattle.paper.specs.Answer.Move.{SeedHeld}
use Rattle.laws.specs.Holding.{held_members}
use Rattle.column_rules.specs.Sight.{acts_at, SightedAt}
use Rattle.judge.specs.Judged.{Growable}
use Rattle.grow.specs.Listed.{is_in}
use Rattle.grow.specs.Kept.{Kept}
use Rattle.grow.specs.Spread.{cluster_site}
use Rattle.grow.specs.Contract.{Tabled, Seedable, Grew}
use Rattle.grow.specs.Pinned.{PinAmong, Lookable, among_held, held_among}

-- tested input, and room for the members, their list and their columns
pub record Findable (t : Task) (fwd bwd pins : List ℕ) (xs js : List ℤ) (cuts : List Float) (members list cols : ℕ) : Type 0 where
  pub growable : Growable t xs js cuts
  pub tables : Tabled t fwd bwd
  pub seed_lt : t.seed < t.n
  pub pins_long : length pins ≡ t.n
  pub members_long : members ≡ t.n
  pub list_long : t.n ≤ list
  pub cols_long : cols ≡ 4096

-- the seed does not act, and has no members
pub record FindsNone (c : Call) (xs : List ℤ) (m : List ℕ) (blue len : ℕ) : Type 0 where
  pub off : acts c xs c.seed ≡ false
  pub cleared : Cleared c.lattice.n m
  pub no_blue : blue ≡ 0
  pub no_member : len ≡ 0

-- it acts, and its component, in CMR the blue one, is held; is not held
pub record FindsHeld (c : Call) (xs : List ℤ) (m l : List ℕ) (blue len : ℕ) : Type 0 where
  pub on : acts c xs c.seed ≡ true
  pub grew : Grew c xs m l blue len
  pub held : SeedHeld c xs

pub record FindsFree (c : Call) (xs : List ℤ) (m l : List ℕ) (blue len : ℕ) : Type 0 where
  pub on : acts c xs c.seed ≡ true
  pub grew : Grew c xs m l blue len
  pub free : SeedHeld c xs → ⊥

-- the members as bytes m and as the first len of the list l, of which the first `blue` are the sites that the paper's bonds join to the seed
abbrev pub Finds : Call → List ℤ → List ℕ → List ℕ → Answer → ℕ → ℕ → Type 0
Finds c xs m l (Refused r) blue len = ⊥
Finds c xs m l Idle blue len = FindsNone c xs m blue len
Finds c xs m l Held blue len = FindsHeld c xs m l blue len
Finds c xs m l Moved blue len = FindsFree c xs m l blue len

-- ---- what the steps ask, and what they come to
module _ {t : Task} {fwd bwd pins : List ℕ} {xs js : List ℤ} {cuts : List Float} {members list cols : ℕ}
    (f : Findable t fwd bwd pins xs js cuts members list cols) where
  abbrev c : Call
  c = call_of t fwd bwd pins js cuts

  pub seen_at : SightedAt t.mode t.n t.group t.reference xs t.seed
  seen_at = record { panel = f.growable.panel; below = f.seed_lt }

  pub seedable : acts_at t.mode t.n t.group t.reference xs t.seed ≡ true → Seedable t fwd bwd xs js cuts members list cols
  seedable on = record {
    growable = f.growable;
    tables = f.tables;
    seed_lt = f.seed_lt;
    members_long = f.members_long;
    list_long = f.list_long;
    cols_long = f.cols_long;
    seed_acts = λ _. on;
  }

  pub acts_seed : {r : Bool} → r ≡ acts_at t.mode t.n t.group t.reference xs t.seed → acts c xs t.seed ≡ r
  unfolding acts
  acts_seed e = sym e

  pub finds_none :
      {m : List ℕ} → acts c xs t.seed ≡ false → Cleared members m → FindsNone c xs m 0 0
  finds_none {m} off cleared = record { off = off; cleared = rw f.members_long at cleared; no_blue = refl; no_member = refl }

  -- no member, and so no column is asked
  pub kept_none : {m area : List ℕ} → Cleared members m → length area ≡ cols → Kept t xs m area
  kept_none cleared e = record {
    long = omega (arith, e, f.cols_long);
    at = λ i q. absurd (omega (arith, q, cleared_all cleared i));
    acts = λ i q. absurd (omega (arith, q, cleared_all cleared i));
  }

  module _ {m l : List ℕ} {blue len : ℕ} (g : Grew c xs m l blue len) where
    pub lookable : (from to : ℕ) → from ≤ to → to ≤ len → Lookable (length pins) l from to
    lookable from to h k = let w = g.cluster.listed in record {
      order = h;
      sites = record {
        few = omega (arith, w.number, count_most (is_in m) (length m), g.cluster.members.long, f.growable.panel.n_high);
        long = omega (arith, w.number, count_most (is_in m) (length m), w.room);
        below = λ a al. omega (arith, cluster_site g.cluster a (omega arith), f.pins_long);
      };
    }

    pub finds_held :
        acts c xs t.seed ≡ true → PinAmong pins l 0 blue → FindsHeld c xs m l blue len
    finds_held on q = record {
      on = on;
      grew = g;
      held = (held_members c xs f.seed_lt g.blues g.first.members).0 (among_held c g.first.listed q);
    }

    pub finds_free :
        acts c xs t.seed ≡ true → (PinAmong pins l 0 blue → ⊥) → FindsFree c xs m l blue len
    finds_free on none = record {
      on = on;
      grew = g;
      free = λ s. none (held_among c g.first.listed ((held_members c xs f.seed_lt g.blues g.first.members).1 s));
    }

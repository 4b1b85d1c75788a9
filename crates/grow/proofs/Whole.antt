-- A whole growth: the rule that bonds are judged by is the paper's, and in CMR the grey bonds grow the blue cluster on.
use Prim.Native.Nat.{ℕ}
use mathlib.Core.Path.{◌≡◌, refl, ◌∙◌}
use mathlib.Core.Bool.{Bool, true, false}
use mathlib.Core.List.{List}
use native.Mathlib.Nat.{le_refl}
use native.Mathlib.Omega.{arith}
use lib.ListN.{length, set}
use lib.IntN.{ℤ}
use lib.Ieee.{Float}
use Rattle.lemmas.specs.Stores.{Cleared}
use Rattle.paper.specs.declared.Task.{Task}
use Rattle.paper.specs.Panel.Input.{graph}
use Rattle.paper.specs.Panel.Made.{call_of}
use Rattle.paper.specs.Panel.Takes.{is_cmr}
use Rattle.paper.specs.Site.Bonds.{holds, holds_grey}
use Rattle.judge.specs.declared.Rule.{Rule}
use Rattle.judge.specs.Judged.{Prepared, column_for}
use Rattle.judge.specs.Laws.{judged_holds, judged_grey, ready}
use Rattle.grow.specs.Members.{members_by}
use Rattle.grow.specs.Kept.{Kept, kept_first}
use Rattle.grow.specs.Listed.{listed_same}
use Rattle.grow.specs.Growth.{Growing, started}
use Rattle.grow.specs.Spread.{Spreads, spreads_by, again}
use Rattle.grow.specs.Contract.{graph_for, ruled, Grounds, Seedable, Grew, blue_grey}

module _ {t : Task} {fwd bwd : List ℕ} {xs js : List ℤ} {cuts : List Float} {members list cols : ℕ} (g : Seedable t fwd bwd xs js cuts members list cols)
  where
    pub grounds : {grey : Bool} {r : Rule} → Prepared t grey xs r → Grounds r fwd bwd xs js cuts
    grounds p = record { ready = ready g.growable p; tables = rw p.task g.tables }

    -- the seed, marked and listed
    pub seeded :
        {grey : Bool} {r : Rule} {m : List ℕ} (l : List ℕ) → Prepared t grey xs r → Cleared members m → length l ≡ list
        → Growing (graph_for r.task fwd) (ruled r fwd xs js cuts) r.task.seed (set m t.seed 1) (set l 0 t.seed) 1
    seeded {grey} {r} {m} l p h e =
        rw p.task (started (graph_for t fwd) _ t.seed m l (rw g.members_long at h) (omega (arith, g.list_long)) g.seed_lt)

    -- and its column kept
    pub seed_kept :
        {grey : Bool} {r : Rule} (m area : List ℕ) (column : ℕ) → Prepared t grey xs r → Cleared members m → length area ≡ cols
        → column ≡ column_for t xs t.seed → Kept r.task xs (set m t.seed 1) (set area t.seed column)
    seed_kept m area column p h e is =
        let long : length area ≡ 4096 = e ∙ g.cols_long in
        rw p.task
        (kept_first m area t.seed column (omega (arith, h.long, g.members_long, g.seed_lt)) (omega (arith, g.seed_lt, g.growable.panel.n_high))
        long is
        g.seed_acts h)

    -- the columns for one rule of the task are those for another
    pub kept_of : {grey : Bool} {r : Rule} {m area : List ℕ} → Prepared t grey xs r → Kept r.task xs m area → Kept t xs m area
    kept_of p k = rw p.task at k

    pub kept_for : {grey : Bool} {r : Rule} {m area : List ℕ} → Prepared t grey xs r → Kept t xs m area → Kept r.task xs m area
    kept_for p k = rw p.task k

    -- the first growth is by the paper's bonds
    pub first_by :
        (pins : List ℕ) {r : Rule} {start len : ℕ} {l₀ m l : List ℕ} → Prepared t false xs r
        → Spreads (graph_for r.task fwd) (ruled r fwd xs js cuts) r.task.seed start l₀ m l len
        → Spreads (graph (call_of t fwd bwd pins js cuts)) (holds (call_of t fwd bwd pins js cuts) xs) t.seed start l₀ m l len
    first_by pins p s = spreads_by (λ i e il el. judged_holds t fwd bwd pins js cuts xs i e _ refl) (rw (p.task, p.grey) at s)

    pub plain : (pins : List ℕ) → is_cmr t.mode ≡ false → {start len : ℕ} {l₀ m l : List ℕ}
        → Spreads (graph (call_of t fwd bwd pins js cuts)) (holds (call_of t fwd bwd pins js cuts) xs) t.seed start l₀ m l len
        → Grew (call_of t fwd bwd pins js cuts) xs m l len len
    plain pins q {start} {len} {l₀} {m} {l} s = record {
      more = le_refl len;
      cluster = record { members = members_by (λ i e il el. rw q) s.cluster.members; listed = s.cluster.listed };
      blues = m;
      first = s.cluster;
    }

    module _ (pins : List ℕ) (q : is_cmr t.mode ≡ true) where
      -- each blue site waits again
      pub blue_seeds :
          {r : Rule} {start blue : ℕ} {l₀ m l : List ℕ} → Prepared t true xs r
          → Spreads (graph (call_of t fwd bwd pins js cuts)) (holds (call_of t fwd bwd pins js cuts) xs) t.seed start l₀ m l blue
          → Growing (graph_for r.task fwd) (ruled r fwd xs js cuts) r.task.seed m l blue
      blue_seeds p s =
          rw (p.task, p.grey)
          (again g.seed_lt (λ i e il el on. judged_grey t fwd bwd pins js cuts xs i e _ refl q ∙ blue_grey _ xs i e q on) s.cluster)

      pub second_by :
          {r : Rule} {start len : ℕ} {l₀ m l : List ℕ} → Prepared t true xs r
          → Spreads (graph_for r.task fwd) (ruled r fwd xs js cuts) r.task.seed start l₀ m l len
          → Spreads (graph (call_of t fwd bwd pins js cuts)) (holds_grey (call_of t fwd bwd pins js cuts) xs) t.seed start l₀ m l len
      second_by p s = spreads_by (λ i e il el. judged_grey t fwd bwd pins js cuts xs i e _ refl q) (rw (p.task, p.grey) at s)

      pub both :
          {start blue len : ℕ} {l₀ m₁ l₁ m l : List ℕ}
          → Spreads (graph (call_of t fwd bwd pins js cuts)) (holds (call_of t fwd bwd pins js cuts) xs) t.seed start l₀ m₁ l₁ blue
          → Spreads (graph (call_of t fwd bwd pins js cuts)) (holds_grey (call_of t fwd bwd pins js cuts) xs) t.seed blue l₁ m l len
          → Grew (call_of t fwd bwd pins js cuts) xs m l blue len
      both {start} {blue} {len} {l₀} {m₁} {l₁} {m} {l} s w = record {
        more = w.more;
        cluster = record { members = members_by (λ i e il el. rw q) w.cluster.members; listed = w.cluster.listed };
        blues = m₁;
        first = record {
          members = s.cluster.members;
          listed = listed_same (omega (arith, s.cluster.listed.room, w.long)) w.kept s.cluster.listed;
        };
      }

-- A turn of `visit`, by the rule that bonds are judged by: the bond ahead is met, and then the bond behind.
use Prim.Native.Nat.{ℕ, ◌+◌, ◌*◌, ◌≤◌, ◌<◌}
use mathlib.Core.Path.{◌≡◌, refl, ap, sym, ◌∙◌}
use mathlib.Core.Bool.{Bool}
use mathlib.Core.List.{List}
use native.Mathlib.Nat.{mul-le-mul}
use native.Mathlib.Omega.{arith}
use lib.ListN.{get_or}
use lib.IntN.{ℤ}
use lib.Ieee.{Float}
use Rattle.lemmas.specs.Cells.{cell_lt}
use Rattle.paper.specs.declared.Task.{Task}
use Rattle.judge.specs.declared.Rule.{Rule}
use Rattle.judge.specs.Judged.{column_for, judged}
use Rattle.judge.specs.Drawn.{judged_on}
use Rattle.judge.specs.Ends.{judged_turned, judged_columns}
use Rattle.grow.specs.Kept.{Keeping}
use Rattle.grow.specs.Growth.{Met, Visiting, Halfway, site, visit_ahead, visit_behind}
use Rattle.grow.specs.Contract.{graph_for, ruled, Grounds}

-- where the arms of a test meet, what stands there is what the arm left
pub met_same :
    {b : Bool} {found len len' len'' : ℕ} {m l m' l' cols' m'' l'' cols'' : List ℕ} {t : Task} {xs : List ℤ}
    → m'' ≡ m' → l'' ≡ l' → cols'' ≡ cols' → len'' ≡ len'
    → Keeping (Met b found m l len m' l' len') t xs m' cols' → Keeping (Met b found m l len m'' l'' len'') t xs m'' cols''
met_same p q s e w = rw (p, q, s, e) w

module _ {r : Rule} {fwd bwd : List ℕ} {xs js : List ℤ} {cuts : List Float} (g : Grounds r fwd bwd xs js cuts) where
  -- a site and a direction have a place in the tables
  pub cell : {i e : ℕ} → i < r.task.n → e < r.task.d → i * r.task.d + e < r.task.n * r.task.d
  cell {i} {e} il el = cell_lt r.task.n r.task.d i e il el

  pub cells : r.task.n * r.task.d ≤ 16384
  cells = omega (arith, mul-le-mul g.ready.growable.panel.n_high g.ready.growable.directions)

  pub row : {i : ℕ} → i < r.task.n → i * r.task.d ≤ 16384
  row {i} il =
      let below : i ≤ 4096 = omega (arith, g.ready.growable.panel.n_high) in
      omega (arith, mul-le-mul below g.ready.growable.directions)

  pub ahead_lt : {i e to : ℕ} → i < r.task.n → e < r.task.d → to ≡ get_or fwd (i * r.task.d + e) 0 → to < r.task.n
  ahead_lt {i} {e} il el is = rw is (g.tables.inverse.there i e il el).inside

  pub behind_lt : {i e from : ℕ} → i < r.task.n → e < r.task.d → from ≡ get_or bwd (i * r.task.d + e) 0 → from < r.task.n
  behind_lt {i} {e} il el is = rw is (g.tables.inverse.here i e il el).inside

  module _ {i e own : ℕ} {m₀ l₀ m l m' l' : List ℕ} {len₀ len len' : ℕ} (el : e < r.task.d) (is-own : own ≡ column_for r.task xs i) where
    pub turn_ahead :
        {to : ℕ} → Visiting (graph_for r.task fwd) (ruled r fwd xs js cuts) r.task.seed i m₀ l₀ len₀ e m l len
        → to ≡ get_or fwd (i * r.task.d + e) 0 → Met (judged_on r js cuts i e own (column_for r.task xs to)) to m l len m' l' len'
        → Halfway (graph_for r.task fwd) (ruled r fwd xs js cuts) r.task.seed i m₀ l₀ len₀ e m' l' len'
    turn_ahead was is met =
        visit_ahead g.tables.inverse el met was is
        (judged_columns g.ready e (site was) (ahead_lt (site was) el is) is-own refl ∙ ap (judged r.task r.grey xs js cuts i e) is)

    -- it is judged from its own site, and leads to this one
    pub turn_behind :
        {from : ℕ} → Halfway (graph_for r.task fwd) (ruled r fwd xs js cuts) r.task.seed i m₀ l₀ len₀ e m l len
        → from ≡ get_or bwd (i * r.task.d + e) 0 → Met (judged_on r js cuts from e own (column_for r.task xs from)) from m l len m' l' len'
        → Visiting (graph_for r.task fwd) (ruled r fwd xs js cuts) r.task.seed i m₀ l₀ len₀ (e + 1) m' l' len'
    turn_behind {from} half is met =
        visit_behind g.tables.inverse el met half is
        (judged_turned r js cuts from e own (column_for r.task xs from)
        ∙ (judged_columns g.ready e (behind_lt (site half.visiting) el is) (site half.visiting) refl is-own
        ∙ ap (judged r.task r.grey xs js cuts from e) here))
      where
        here : i ≡ get_or fwd (from * r.task.d + e) 0
        here = sym (rw is (g.tables.inverse.here i e (site half.visiting) el).home)

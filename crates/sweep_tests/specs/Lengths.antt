-- Test 2 of a sweep, as the functions are handed the lengths.
use Rattle.std.specs.Prelude.{◌≡◌}
use Rattle.paper.specs.declared.Plan.{Plan}
use Rattle.paper.specs.declared.Lengths.{Lengths}
use Rattle.paper.specs.Panel.Takes.{draws_bonds, is_gperm, one_cluster}
use Rattle.paper.specs.Refusal.Rules.{When}
use Rattle.tests.specs.Lengths.{FitsEach}
use Rattle.tasks.specs.Plan.{tasks_of}
use Rattle.sweep_tests.specs.declared.SweepLengths.{SweepLengths}

-- what the panel and each task is lent, and the sweep's own inputs
pub record Fitting (q : Plan) (l : Lengths) (o : SweepLengths) : Type 0 where
  pub each : FitsEach q.mode q.form q.n q.d q.s q.members (tasks_of q) l
  pub order : o.order ≡ q.systems
  pub masks : o.masks ≡ q.t
  pub temperatures : When (draws_bonds q.mode) (o.temperatures ≡ q.t)
  pub references : When (is_gperm q.mode) (o.references ≡ tasks_of q)
  pub seeds : When (one_cluster q.form) (o.seeds ≡ tasks_of q)

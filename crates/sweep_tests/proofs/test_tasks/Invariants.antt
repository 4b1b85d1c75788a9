-- `test_tasks` meets its contract. The invariant: the tasks below k keep their rules.
use Rattle.sweep_tests.specs.Tasks.{TasksTold}
use Rattle.sweep_tests.proofs.test_tasks.Given as goal

abbrev pub invariant-loop-k : goal.invariant-loop-k
invariant-loop-k l = TasksTold l.plan l.k l.spins
    l.inputs.order.now l.inputs.masks.now l.inputs.temperatures.now l.inputs.cuts.now l.inputs.references.now l.inputs.seeds.now l.inputs.choices.now l.inputs.greys.now 0

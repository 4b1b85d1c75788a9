-- A move's numbers as one value.
use Rattle.std.specs.Prelude.{ℕ, Float}
use Rattle.paper.specs.declared.Group.{Group}
use Rattle.paper.specs.declared.Form.{Form}
use Rattle.paper.specs.declared.Keeps.{Keeps}
use Rattle.paper.specs.declared.Task.{Task}
use Rattle.paper.specs.declared.Mode.{Mode}

abbrev pub task_of : Mode → Form → Keeps → ℕ → ℕ → ℕ → Group → Float → ℕ → ℕ → Task
task_of mode form keeps n d s group temperature reference seed = record {
  mode = mode;
  form = form;
  keeps = keeps;
  n = n;
  d = d;
  s = s;
  group = group;
  temperature = temperature;
  reference = reference;
  seed = seed;
}

-- The paper's call, choices and buffers, made of what a function is handed: the task by value, and the lent slices.
use Rattle.std.specs.Prelude.{ℕ, List, ℤ, Float}
use Rattle.paper.specs.declared.Task.{Task}
use Rattle.paper.specs.Panel.Input.{Lattice, Call, Choices, Buffers}

abbrev pub lattice_of : ℕ → ℕ → ℕ → List ℕ → List ℕ → List ℤ → Lattice
lattice_of n d s fwd bwd couplings = record { n = n; d = d; s = s; fwd = fwd; bwd = bwd; couplings = couplings }

abbrev pub call_of : Task → List ℕ → List ℕ → List ℕ → List ℤ → List Float → Call
call_of t fwd bwd pins couplings cuts = record {
  mode = t.mode;
  form = t.form;
  lattice = lattice_of t.n t.d t.s fwd bwd couplings;
  pins = pins;
  group = t.group;
  temperature = t.temperature;
  cuts = cuts;
  reference = t.reference;
  seed = t.seed;
}

abbrev pub choices_of : List ℕ → List ℕ → Choices
choices_of choices greys = record { choices = choices; greys = greys }

abbrev pub buffers_of : List ℤ → List ℕ → List ℕ → List ℕ → List ℕ → List ℕ → List ℕ → List ℕ → Buffers
buffers_of spins labels grey_labels counts sizes members found grey_found = record {
  spins = spins;
  labels = labels;
  grey_labels = grey_labels;
  counts = counts;
  sizes = sizes;
  members = members;
  found = found;
  grey_found = grey_found;
}

-- One group's rows as a byte for each site (11/14): the rows that bytes stand for, and the bytes of rows.
use Rattle.std.specs.Prelude.{ℕ, ◌*◌, ◌/◌, ◌%◌, ◌^◌, ◌<◌, cond, List, [], ◌∷◌, ltb, length, get_or, ℤ, pos}
use Rattle.lemmas.specs.Cells.{table, tabulate}
use Rattle.paper.specs.declared.Group.{Group}
use Rattle.paper.specs.declared.Task.{Task}
use Rattle.paper.specs.Panel.Input.{spin}
use Rattle.columns.specs.Column.{shown, column_of}

-- what member k shows in the byte of a group of m. A byte with a bit from m upwards is of no such group: it shows no spin
unfoldable pub seen : ℕ → ℕ → ℕ → ℤ
seen m x k = cond (ltb x (2 ^ m)) (shown x k) (pos 0)

-- the rows of m members that bytes stand for, in the members' order
unfoldable pub rows_of : ℕ → List ℕ → List ℤ
rows_of m xs = tabulate (m * length xs) (λ a. seen m (get_or xs (a % length xs) 0) (a / length xs))

-- the bytes of the rows of m members at n sites
unfoldable pub bytes_of : ℕ → ℕ → List ℤ → List ℕ
bytes_of m n rows = table n (λ i. column_of m (λ k. spin n rows k i))

-- no byte has a bit from m upwards
abbrev pub Narrow : ℕ → List ℕ → Type 0
Narrow m xs = (i : ℕ) → i < length xs → get_or xs i 0 < 2 ^ m

-- the group of the systems 0 to m - 1: its member k has row k
abbrev pub own_group : ℕ → Group
own_group m = record { len = m; systems = 0 ∷ 1 ∷ 2 ∷ 3 ∷ 4 ∷ 5 ∷ 6 ∷ 7 ∷ [] }

-- the task on rows of its own: as many systems as members, in their order. The systems that it names are not looked at
abbrev pub own_task : Task → Task
own_task t = record {
  mode = t.mode;
  form = t.form;
  keeps = t.keeps;
  n = t.n;
  d = t.d;
  s = t.group.len;
  group = own_group t.group.len;
  temperature = t.temperature;
  reference = t.reference;
  seed = t.seed;
}

-- A sweep's numbers, and one task's share of its inputs.
use Rattle.std.specs.Prelude.{ℕ, min, ◌+◌, ◌*◌, ◌/◌, ◌%◌, ◌≤◌, ◌<◌, ◌≡◌, Bool, true, false, cond, List, [], length, get_or, Float}
use Rattle.std.proofs.Common.{arith, mul-le-mul, mul-le-mul_left, mul-le-mul_right, suc-mul, div-add-mod', mod-lt, div-le_self, div-lt_iff_lt-mul, le-div_iff_mul-le}
use Rattle.std.specs.Float.{nan}
use Rattle.paper.specs.declared.Group.{Group}
use Rattle.paper.specs.declared.Plan.{Plan}
use Rattle.paper.specs.declared.Task.{Task}
use Rattle.paper.specs.declared.Form.{Form}
use Rattle.paper.specs.declared.Form.TheVariants.{Sw, Wolff, Observe, Grow}
use Rattle.paper.specs.Panel.Takes.{is_perm, entries, choice_bytes}
use Rattle.paper.specs.Refusal.Rules.{Ranged}
use Rattle.paper.specs.Answer.Task.{Sweep, tasks, masked, group_of}
use Rattle.paper.specs.Answer.Made.{sweep_of}

-- a part's number and its elements, few enough for their product
pub record Few (k m : ℕ) : Type 0 where
  pub number : k ≤ 64
  pub elements : m ≤ 32768

pub record Bounding (len k m start end : ℕ) : Type 0 where
  pub starts : start ≡ min (k * m) len
  pub ends : end ≡ min (k * m + m) len

-- where only the order or the masks are looked at
abbrev pub ordered : Plan → List ℕ → List ℕ → Sweep
ordered q order masks = sweep_of q [] [] [] [] order masks [] [] [] [] [] []

abbrev pub group_at : Plan → List ℕ → ℕ → Group
group_at q order k = group_of (ordered q order []) k

abbrev pub masked_at : Plan → List ℕ → ℕ → Bool
masked_at q masks k = masked (ordered q [] masks) k

abbrev pub tasks_of : Plan → ℕ
tasks_of q = tasks (ordered q [] [])

-- the numbers of the task k
abbrev pub task_at : Plan → List ℕ → List Float → List ℕ → List ℕ → ℕ → Task
task_at q order temperatures references seeds k = record {
  mode = q.mode;
  form = q.form;
  keeps = q.keeps;
  n = q.n;
  d = q.d;
  s = q.s;
  group = group_at q order k;
  temperature = get_or temperatures (k / (q.r / q.members)) nan;
  reference = get_or references k 0;
  seed = get_or seeds k 0;
}

-- test 1 is kept
pub record Planned (q : Plan) : Type 0 where
  pub ranged : Ranged q.n q.d q.s q.mode q.members
  pub few : q.systems ≤ q.s
  pub some : 1 ≤ q.t
  pub all : q.t * q.r ≡ q.systems
  pub enough : q.members ≤ q.r

-- and k is one of its tasks
pub record TaskOf (q : Plan) (k : ℕ) : Type 0 where
  pub planned : Planned q
  pub below : k < tasks_of q

-- and the order is of all its systems
pub record Placing (q : Plan) (k : ℕ) (order : List ℕ) : Type 0 where
  pub task : TaskOf q k
  pub long : length order ≡ q.systems

module _ (q : Plan) (h : Planned q) where
  pub some_members : 0 < q.members
  some_members = omega (arith, h.ranged.size_low)

  pub some_groups : 0 < q.r / q.members
  some_groups = (le-div_iff_mul-le some_members).1 (omega (arith, h.enough))

  pub r_fits : q.r ≤ q.s
  r_fits = omega (arith, mul-le-mul_right q.r h.some, h.all, h.few)

  pub t_fits : q.t ≤ q.s
  t_fits = let l : 1 ≤ q.r = omega (arith, h.enough, some_members) in omega (arith, mul-le-mul_left q.t l, h.all, h.few)

  -- no more tasks than systems
  pub few_tasks : tasks_of q ≤ 64
  few_tasks = omega (arith, mul-le-mul_left q.t (div-le_self q.r q.members), h.all, h.few, h.ranged.lattice.s_high)

  module _ (k : ℕ) (below : k < tasks_of q) where
    pub temperature_lt : k / (q.r / q.members) < q.t
    temperature_lt = (div-lt_iff_lt-mul some_groups).1 below

    -- the order entry of the task's place x
    pub entry_lt : (x : ℕ) → x < q.members → k / (q.r / q.members) * q.r + (k % (q.r / q.members)) * q.members + x < q.systems
    entry_lt x l = omega (
      arith,
      mul-le-mul_right q.r temperature_lt,
      suc-mul (k / (q.r / q.members)) q.r,
      mul-le-mul_right q.members (mod-lt k some_groups),
      suc-mul (k % (q.r / q.members)) q.members,
      div-add-mod' q.r q.members,
      h.all,
    )

    pub few : (m : ℕ) → m ≤ 32768 → Few k m
    few m l = record { number = omega (arith, below, few_tasks); elements = l }

  pub few_rows : entries q.form q.n ≤ 4096
  few_rows = go q.form
    where
      go : (f : Form) → entries f q.n ≤ 4096
      go Sw = h.ranged.lattice.n_high
      go Wolff = omega arith
      go Observe = omega arith
      go Grow = omega arith

  pub few_bonds : q.n * q.d ≤ 32768
  few_bonds = omega (arith, mul-le-mul h.ranged.lattice.n_high h.ranged.lattice.d_high)

  pub few_choices : choice_bytes q.mode q.form q.n q.members ≤ 32768
  few_choices = mul-le-mul few_rows (width (is_perm q.mode))
    where
      width : (p : Bool) → cond p q.members 1 ≤ 8
      width true = h.ranged.size_high
      width false = omega arith

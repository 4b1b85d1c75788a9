-- In a sweep that is accepted each unmasked task keeps all the rules of a move, so it is one.
use Rattle.std.specs.Prelude.{ℕ, ◌+◌, ◌*◌, ◌%◌, ◌<◌, ◌≡◌, refl, false, cond, List, ltb, length}
use Rattle.std.proofs.Common.{sym, ◌∙◌, arith, div-add-mod', mod-lt, div-lt_iff_lt-mul, mul-le-mul_right, suc-mul, lt-ltb, length-take, length-drop}
use Rattle.lemmas.specs.Cells.{table_at, some_group}
use Rattle.paper.specs.Panel.Input.{Buffers, system}
use Rattle.paper.specs.Panel.Takes.{entries, choice_bytes}
use Rattle.paper.specs.Refusal.Rule.{Kept}
use Rattle.paper.specs.Refusal.Rules.{group_names, order_names, Named, Spins, Exact, Grouped, rules}
use Rattle.paper.specs.Refusal.Kept.{valid_kept}
use Rattle.paper.specs.Answer.Task.{Sweep, groups, tasks, temperature_of, order_at, masked, part, group_of, task_call, task_choices, areas}
use Rattle.paper.specs.Answer.Sweep.{SweepRanged, sweep_rules}
use Rattle.laws.specs.SweepKept.{SweepValid, sweep_valid_of}

pub part_length : {A : Type 0} (K m k : ℕ) (xs : List A) → k < K → length xs ≡ K * m → length (part k m xs) ≡ m
part_length K m k xs h e = simp (length-take, length-drop) (omega (arith, mul-le-mul_right m h, suc-mul k m))

-- what 1 tells of the task k
module _ (w : Sweep) (ranged : SweepRanged w) (k : ℕ) (below : k < tasks w) where
  some : 0 < groups w
  some = some_group w.t (groups w) k below

  temperature_within : temperature_of w k < w.t
  temperature_within = (div-lt_iff_lt-mul some).1 below

  -- the order entry of its place x
  pub entry_within : (x : ℕ) → x < w.members → temperature_of w k * w.r + (k % groups w) * w.members + x < w.systems
  entry_within x h = omega (
    arith,
    mul-le-mul_right w.r temperature_within,
    suc-mul (temperature_of w k) w.r,
    mul-le-mul_right w.members (mod-lt k some),
    suc-mul (k % groups w) w.members,
    div-add-mod' w.r w.members,
    ranged.all,
  )

  pub system_at : (x : ℕ) → x < w.members → system (task_call w k) x ≡ order_at w k x
  system_at x h =
      table_at 8 (λ x. cond (ltb x w.members) (order_at w k x) 0) x (omega (arith, ranged.ranged.size_high))
      ∙ rw (lt-ltb x w.members h) refl

module _ (w : Sweep) (b : Buffers) (v : Kept (sweep_rules w b)) (k : ℕ) (below : k < tasks w) where
  valid : SweepValid w b
  valid = sweep_valid_of w b v

  pub temperature_lt : temperature_of w k < w.t
  temperature_lt = temperature_within w valid.ranged k below

  pub entry_lt : (x : ℕ) → x < w.members → temperature_of w k * w.r + (k % groups w) * w.members + x < w.systems
  entry_lt = entry_within w valid.ranged k below

  pub system_is : (x : ℕ) → x < w.members → system (task_call w k) x ≡ order_at w k x
  system_is = system_at w valid.ranged k below

  -- it is one of the order's
  pub listed : (x : ℕ) → x < w.members → temperature_of w k * w.r + (k % groups w) * w.members + x < length w.order
  listed x h = rw valid.exact.order (entry_lt x h)

  grouped : Grouped w.lattice.s (group_of w k)
  grouped = record {
    below = λ x h. rw (system_is x h) (valid.order.below _ (listed x h));
    distinct = λ x y hx hy e. omega (arith, valid.order.distinct _ _ (listed x hx) (listed y hy) (sym (system_is x hx) ∙ (e ∙ system_is y hy)));
  }

  -- a system of the task is named by the sweep
  pub named_in : (t : ℕ) → Named w.lattice.s (group_names (group_of w k)) t → Named w.lattice.s (order_names w.order) t
  named_in t h = record {
    place = temperature_of w k * w.r + (k % groups w) * w.members + h.place;
    below = listed h.place h.below;
    is = sym (system_is h.place h.below) ∙ h.is;
    inside = h.inside;
  }

  named_spins : Spins w.lattice.n (Named w.lattice.s (group_names (group_of w k))) b.spins
  named_spins t i h = valid.spins t i (named_in t h)

  exact : Exact (task_call w k) (task_choices w k) (areas w b b.spins k)
  exact = let e = valid.exact in record {
    spins = e.spins;
    fwd = e.fwd;
    bwd = e.bwd;
    pins = e.pins;
    couplings = e.couplings;
    cuts = λ t. part_length (tasks w) (w.lattice.n * w.lattice.d) k w.cuts below (e.cuts t);
    choices = λ t. part_length (tasks w) (choice_bytes w.mode w.form w.lattice.n w.members) k w.choices below (e.choices t);
    greys = λ t. part_length (tasks w) (entries w.form w.lattice.n) k w.greys below (e.greys t);
    labels = λ t. part_length (tasks w) w.lattice.n k b.labels below (e.labels t);
    grey_labels = λ t. part_length (tasks w) w.lattice.n k b.grey_labels below (e.grey_labels t);
    counts = λ t. part_length (tasks w) (w.lattice.n + 1) k b.counts below (e.counts t);
    sizes = λ t. part_length (tasks w) 4 k b.sizes below (e.sizes t);
    members = λ t. part_length (tasks w) w.lattice.n k b.members below (e.members t);
    found = λ t. part_length (tasks w) 1 k b.found below (omega (arith, e.found t));
    grey_found = λ t. part_length (tasks w) 1 k b.grey_found below (omega (arith, e.grey_found t));
  }

  pub task_valid : masked w k ≡ false → Kept (rules (task_call w k) (task_choices w k) (areas w b b.spins k))
  task_valid e = valid_kept (task_call w k) (task_choices w k) (areas w b b.spins k) (record {
    sound = record {
      ranged = valid.ranged.ranged;
      houd = valid.houd;
      exact = exact;
      spins = named_spins;
      inverse = valid.inverse;
      pins = valid.pins;
      grouped = grouped;
      couplings = valid.couplings;
      warm = λ t. valid.warm t (temperature_of w k) temperature_lt;
    };
    fit = valid.each k below e;
  })

-- What an accepted call tells the work.
use Rattle.std.specs.Prelude.{ℕ, suc, ◌+◌, ◌*◌, ◌≤◌, ◌<◌, ◌≡◌, true, List, length, get_or, ℤ}
use Rattle.std.proofs.Common.{arith, mul-le-mul_right, suc-mul}
use Rattle.paper.specs.declared.Group.{Group}
use Rattle.paper.specs.declared.Mode.{Mode}
use Rattle.paper.specs.Panel.Input.{Call, Choices, Buffers, member, system}
use Rattle.paper.specs.Panel.Takes.{is_gperm, is_cmr}
use Rattle.paper.specs.Refusal.Rules.{Distinct}
use Rattle.paper.specs.Refusal.Kept.{named, Sound}
use Rattle.columns.specs.Column.{Inside, Spinning}
use Rattle.column_rules.specs.Sight.{Sighted}

-- the parts of tests 1 to 5 that the steps lean on
pub record Tested (mode : Mode) (n d : ℕ) (fwd : List ℕ) (g : Group) (xs : List ℤ) : Type 0 where
  pub n_low : 1 ≤ n
  pub n_high : n ≤ 4096
  pub d_low : 1 ≤ d
  pub d_high : d ≤ 4
  pub size_low : 2 ≤ g.len
  pub size_high : g.len ≤ 8
  pub two : is_cmr mode ≡ true → g.len ≡ 2
  pub fwd_long : length fwd ≡ n * d
  pub ahead_lt : (i e : ℕ) → i < n → e < d → get_or fwd (i * d + e) 0 < n
  pub inside : Inside n g xs
  pub spins : Spinning n g xs
  pub distinct : Distinct g.len (member g)

-- so the panel can be looked at
pub sighted :
    {mode : Mode} {n d q : ℕ} {fwd : List ℕ} {g : Group} {xs : List ℤ} → Tested mode n d fwd g xs → (is_gperm mode ≡ true → q < n)
    → Sighted mode n g q xs
sighted r e = record {
  n_high = r.n_high;
  size_low = omega (arith, r.size_low);
  size_high = r.size_high;
  inside = r.inside;
  spins = r.spins;
  reference = e;
}

abbrev pub TestedFor : Call → List ℤ → Type 0
TestedFor c xs = Tested c.mode c.lattice.n c.lattice.d c.lattice.fwd c.group xs

module _ (c : Call) (p : Choices) (b : Buffers) (s : Sound c p b) where
  row_inside : Inside c.lattice.n c.group b.spins
  row_inside k h = omega (arith, s.exact.spins, mul-le-mul_right c.lattice.n below, suc-mul (system c k) c.lattice.n)
    where
      below : suc (system c k) ≤ c.lattice.s
      below = s.grouped.below k h

  pub ready : TestedFor c b.spins
  ready = record {
    n_low = s.ranged.lattice.n_low;
    n_high = s.ranged.lattice.n_high;
    d_low = s.ranged.lattice.d_low;
    d_high = s.ranged.lattice.d_high;
    size_low = s.ranged.size_low;
    size_high = s.ranged.size_high;
    two = s.ranged.cmr_two;
    fwd_long = s.exact.fwd;
    ahead_lt = λ i e hi he. (s.inverse.there i e hi he).inside;
    inside = row_inside;
    spins = λ i k hi hk. s.spins (system c k) i (named k hk s.grouped) hi;
    distinct = s.grouped.distinct;
  }

-- The rules that an accepted move keeps, by name.
use Rattle.std.specs.Prelude.{ℕ, ◌<◌, refl, List, ℤ}
use Rattle.paper.specs.Panel.Input.{Call, Choices, Buffers, size}
use Rattle.paper.specs.Panel.Takes.{takes_cuts}
use Rattle.paper.specs.Refusal.Rule.{Kept}
use Rattle.paper.specs.Refusal.Rules.{When, Ranged, HoudOfTwo, Exact, Names, group_names, Named, Spins, Inverse, Pins, Listed, Grouped}
use Rattle.paper.specs.Refusal.Rules.{SmallCouplings, Warm, Cuts}
use Rattle.paper.specs.Refusal.Rules.{Chosen, Seeded, choice_rules, rules}

-- each place of names that are listed names a system
pub named : {s : ℕ} {names : Names} (k : ℕ) → k < names.count → Listed s names → Named s names (names.at k)
named k h l = record { place = k; below = h; is = refl; inside = l.below k h }

-- 1 to 7, and 15
pub record Sound (c : Call) (p : Choices) (b : Buffers) : Type 0 where
  pub ranged : Ranged c.lattice.n c.lattice.d c.lattice.s c.mode (size c)
  pub houd : HoudOfTwo c.mode c.form (size c)
  pub exact : Exact c p b
  pub spins : Spins c.lattice.n (Named c.lattice.s (group_names c.group)) b.spins
  pub inverse : Inverse c.lattice.n c.lattice.d c.lattice.fwd c.lattice.bwd
  pub pins : Pins c.pins
  pub grouped : Grouped c.lattice.s c.group
  pub couplings : When (takes_cuts c) (SmallCouplings c.lattice.couplings)
  pub warm : When (takes_cuts c) (Warm c.temperature)

-- 8 to 10, the task's own
pub record Fit (c : Call) (p : Choices) (xs : List ℤ) : Type 0 where
  pub cuts : When (takes_cuts c) (Cuts c.cuts)
  pub chosen : Chosen c p
  pub seeded : Seeded c xs

pub record Valid (c : Call) (p : Choices) (b : Buffers) : Type 0 where
  pub sound : Sound c p b
  pub fit : Fit c p b.spins

pub fit_of : (c : Call) (p : Choices) (xs : List ℤ) → Kept (choice_rules c p xs) → Fit c p xs
fit_of c p xs k = record { cuts = k.0; chosen = k.1.0; seeded = k.1.1.0 }

pub fit_kept : (c : Call) (p : Choices) (xs : List ℤ) → Fit c p xs → Kept (choice_rules c p xs)
fit_kept c p xs f = (f.cuts, (f.chosen, (f.seeded, tt)))

-- all rules are kept just if these are
pub valid_of : (c : Call) (p : Choices) (b : Buffers) → Kept (rules c p b) → Valid c p b
valid_of c p b k = record {
  sound = record {
    ranged = k.0;
    houd = k.1.0;
    exact = k.1.1.0;
    spins = k.1.1.1.0;
    inverse = k.1.1.1.1.0;
    pins = k.1.1.1.1.1.0;
    grouped = k.1.1.1.1.1.1.0;
    couplings = k.1.1.1.1.1.1.1.0;
    warm = k.1.1.1.1.1.1.1.1.0;
  };
  fit = fit_of c p b.spins k.1.1.1.1.1.1.1.1.1;
}

pub valid_kept : (c : Call) (p : Choices) (b : Buffers) → Valid c p b → Kept (rules c p b)
valid_kept c p b v =
    let s = v.sound in
    (s.ranged, (s.houd, (s.exact, (s.spins, (s.inverse, (s.pins, (s.grouped, (s.couplings, (s.warm, fit_kept c p b.spins v.fit)))))))))

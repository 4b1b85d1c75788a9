-- What choosing leans on, past the tests.
use Rattle.std.specs.Prelude.{◌≡◌, List, ℕ, length, ℤ}
use Rattle.std.proofs.Common.{arith}
use Rattle.paper.specs.Panel.Input.{Call, Choices, size}
use Rattle.paper.specs.Panel.Takes.{takes_choices, takes_greys, entries, choice_bytes}
use Rattle.paper.specs.Refusal.Rule.{Kept}
use Rattle.paper.specs.Refusal.Rules.{When, Ranged, Grouped, Chosen}
use Rattle.columns.specs.Column.{Inside, Spinning}
use Rattle.column_rules.specs.Sight.{Sighted}
use Rattle.tests.specs.Choices.{rows_inside, rows_spins}
use Rattle.task_steps.specs.Choose.{Found, choose_rules}

-- the group's rows of spins, the pins, and the choices that are taken
pub record Asks (c : Call) (p : Choices) (xs : List ℤ) : Type 0 where
  pub ranged : Ranged c.lattice.n c.lattice.d c.lattice.s c.mode (size c)
  pub inside : Inside c.lattice.n c.group xs
  pub spins : Spinning c.lattice.n c.group xs
  pub pins_long : length c.pins ≡ c.lattice.n
  pub choices_long : When (takes_choices c) (length p.choices ≡ choice_bytes c.mode c.form c.lattice.n (size c))
  pub greys_long : When (takes_greys c) (length p.greys ≡ entries c.form c.lattice.n)
  pub chosen : Chosen c p

-- so the rows can be looked at
pub sighted : (c : Call) (p : Choices) (xs : List ℤ) → Asks c p xs → Sighted c.mode c.lattice.n c.group c.reference xs
sighted c p xs a = record {
  n_high = a.ranged.lattice.n_high;
  size_low = omega (arith, a.ranged.size_low);
  size_high = a.ranged.size_high;
  inside = a.inside;
  spins = a.spins;
  reference = a.chosen.reference;
}

-- the tests tell it, of a group whose systems are among those of the rows
module _ (c : Call) (p : Choices) (xs : List ℤ) (f : Found) (area : List ℕ) (k : Kept (choose_rules c p xs f area)) (g : Grouped c.lattice.s c.group)
  where
    pub asks_of : Asks c p xs
    asks_of = record {
      ranged = k.0;
      inside = rows_inside c.lattice.n c.lattice.s c.group xs k.1.1.0.spins g;
      spins = rows_spins c.lattice.n c.lattice.s c.group xs k.1.1.0.spins g k.1.1.1.0;
      pins_long = k.1.1.0.pins;
      choices_long = k.1.1.0.choices;
      greys_long = k.1.1.0.greys;
      chosen = k.1.1.1.1.1.0;
    }

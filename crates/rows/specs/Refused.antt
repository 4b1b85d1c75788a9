-- Worked refusals: one input with a fault for each number 1 to 10.
use Rattle.std.specs.Prelude.{ℕ, suc, ◌<◌, refl, Bool, true, not, cond, List, [], ◌∷◌, eqb, ltb, ℤ, pos, negsuc}
use Rattle.std.specs.Float.{nan}
use Rattle.std.specs.Float.Ieee.{div, le, of_int}
use Rattle.lemmas.specs.Cells.{table}
use Rattle.lemmas.specs.Bools.{every}
use Rattle.paper.specs.declared.Mode.TheVariants.{Perm, Cmr}
use Rattle.paper.specs.declared.Form.TheVariants.{Wolff}
use Rattle.paper.specs.Panel.Input.{Lattice, Call, Choices, Buffers}
use Rattle.paper.specs.Site.Acting.{differs, acts}
use Rattle.paper.specs.Site.Bonds.{whole}
use Rattle.paper.specs.Refusal.Rule.{Kept, Broken}
use Rattle.paper.specs.Refusal.Rules.{rules}
use Rattle.paper.specs.Answer.Meter.{meter_rules}
use Rattle.paper.specs.Rows.Cases.{+, -, line, plain, first}
use Rattle.laws.specs.Decided.{eq, all, any}
use Rattle.laws.specs.Verdicts.{refusal_of, accepted_by, refused_by, meter_verdict}

-- a CMR Wolff move of two sites, which takes an input for each test. Where `ok j` is false it has the fault j: three systems (1), a short buffer of
-- counts (2), a spin 0 of system 0 (3), two sites with one forward neighbour (4), a system twice (5), a coupling of 1,000,001 (6), the temperature 0 (7), a
-- cut that is no number (8), the grey number 0 (9), the seed 2 (10)
abbrev pinning : List ℕ → (ℕ → Bool) → Call
pinning pins ok = record {
  mode = Cmr;
  form = Wolff;
  lattice = record {
    n = 2;
    d = 1;
    s = 2;
    fwd = cond (ok 4) (1 ∷ 0 ∷ []) (1 ∷ 1 ∷ []);
    bwd = 1 ∷ 0 ∷ [];
    couplings = cond (ok 6) (pos 3 ∷ pos 1000000 ∷ []) (pos 3 ∷ pos 1000001 ∷ []);
  };
  pins = pins;
  group = record { len = cond (ok 1) 2 3; systems = 0 ∷ cond (ok 5) 1 0 ∷ 9 ∷ 9 ∷ 9 ∷ 9 ∷ 9 ∷ 9 ∷ [] };
  temperature = cond (ok 7) (whole 1) (whole 0);
  cuts = cond (ok 8) (whole 0 ∷ whole 7 ∷ []) (whole 0 ∷ nan ∷ []);
  reference = 9;
  seed = cond (ok 10) 1 2;
}

abbrev call : (ℕ → Bool) → Call
call = pinning (0 ∷ 1 ∷ [])

abbrev choices : (ℕ → Bool) → Choices
choices ok = record { choices = []; greys = cond (ok 9) (3 ∷ []) (0 ∷ []) }

abbrev buffers : (ℕ → Bool) → Buffers
buffers ok = record {
  spins = cond (ok 3) (+ ∷ - ∷ + ∷ + ∷ []) (+ ∷ pos 0 ∷ + ∷ + ∷ []);
  labels = 0 ∷ 0 ∷ [];
  grey_labels = 0 ∷ 0 ∷ [];
  counts = cond (ok 2) (0 ∷ 0 ∷ 0 ∷ []) (0 ∷ 0 ∷ []);
  sizes = 0 ∷ 0 ∷ 0 ∷ 0 ∷ [];
  members = [];
  found = 0 ∷ [];
  grey_found = 0 ∷ [];
}

abbrev Refused : (ℕ → Bool) → ℕ → Type 0
Refused ok k = Broken (rules (call ok) (choices ok) (buffers ok)) k

-- the fault k + 1 alone; that fault and all after it
abbrev lone : ℕ → ℕ → Bool
lone k j = not (eqb j (suc k))

abbrev onwards : ℕ → ℕ → Bool
onwards k j = ltb j (suc k)

-- no fault: accepted
pub accepted : Kept (rules (call (λ j. true)) (choices (λ j. true)) (buffers (λ j. true)))
unfolding every any acts div le of_int
accepted = accepted_by (call (λ j. true)) (choices (λ j. true)) (buffers (λ j. true)) refl

-- each fault has its number
pub each_number : (k : ℕ) → k < 10 → Refused (lone k) (suc k)
unfolding every any acts div le of_int
each_number k h =
    refused_by (call (lone k)) (choices (lone k)) (buffers (lone k)) k
    ((all 10 (λ k. eq (refusal_of (call (lone k)) (choices (lone k)) (buffers (lone k))) (suc k))).holds refl k h)

-- and goes before all that follow it
pub in_order : (k : ℕ) → k < 10 → Refused (onwards k) (suc k)
unfolding every any acts div le of_int
in_order k h =
    refused_by (call (onwards k)) (choices (onwards k)) (buffers (onwards k)) k
    ((all 10 (λ k. eq (refusal_of (call (onwards k)) (choices (onwards k)) (buffers (onwards k))) (suc k))).holds refl k h)

-- ---- pins: one for each site is asked under 2, and that each is 0 or 1 under 4, after the spins and before the group
abbrev Faulty : List ℕ → (ℕ → Bool) → ℕ → Type 0
Faulty pins ok k = Broken (rules (pinning pins ok) (choices ok) (buffers ok)) k

pub record Pins : Type 0 where
  pub byte : Faulty (0 ∷ 2 ∷ []) (λ j. true) 4
  pub short : Faulty (2 ∷ []) (λ j. true) 2
  pub long : Faulty (0 ∷ 0 ∷ 0 ∷ []) (λ j. true) 2
  pub before_group : Faulty (2 ∷ 0 ∷ []) (onwards 4) 4
  pub after_spins : Faulty (2 ∷ 0 ∷ []) (onwards 2) 3

pub pins : Pins
unfolding every any acts div le of_int
pins = record {
  byte = refused_by (pinning (0 ∷ 2 ∷ []) (λ j. true)) (choices (λ j. true)) (buffers (λ j. true)) 3 refl;
  short = refused_by (pinning (2 ∷ []) (λ j. true)) (choices (λ j. true)) (buffers (λ j. true)) 1 refl;
  long = refused_by (pinning (0 ∷ 0 ∷ 0 ∷ []) (λ j. true)) (choices (λ j. true)) (buffers (λ j. true)) 1 refl;
  before_group = refused_by (pinning (2 ∷ 0 ∷ []) (onwards 4)) (choices (onwards 4)) (buffers (onwards 4)) 3 refl;
  after_spins = refused_by (pinning (2 ∷ 0 ∷ []) (onwards 2)) (choices (onwards 2)) (buffers (onwards 2)) 2 refl;
}

-- ---- seeds, in perm Wolff with the permutation p on two sites with two bonds between them
abbrev seeding : ℕ → Call
seeding seed = record {
  mode = Perm;
  form = Wolff;
  lattice = line 2 2 (1 ∷ 0 ∷ []) (1 ∷ 0 ∷ []) [];
  pins = 0 ∷ 0 ∷ [];
  group = first 2;
  temperature = nan;
  cuts = [];
  reference = 9;
  seed = seed;
}

abbrev permuting : List ℕ → Choices
permuting p = record { choices = p; greys = [] }

abbrev lent : List ℤ → Buffers
lent spins = record {
  spins = spins;
  labels = 0 ∷ 0 ∷ [];
  grey_labels = [];
  counts = 0 ∷ 0 ∷ 0 ∷ [];
  sizes = 0 ∷ 0 ∷ 0 ∷ 0 ∷ [];
  members = [];
  found = 0 ∷ [];
  grey_found = [];
}

pub record Seeds : Type 0 where
  -- site 0 acts and site 1 does not
  pub acting : Kept (rules (seeding 0) (permuting (1 ∷ 0 ∷ [])) (lent (+ ∷ + ∷ - ∷ + ∷ [])))
  pub resting : Broken (rules (seeding 1) (permuting (1 ∷ 0 ∷ [])) (lent (+ ∷ + ∷ - ∷ + ∷ []))) 10
  -- where no site acts any seed that is a site will do; but the identity is refused all the same
  pub idle : Kept (rules (seeding 1) (permuting (1 ∷ 0 ∷ [])) (lent (+ ∷ + ∷ + ∷ + ∷ [])))
  pub no_site : Broken (rules (seeding 2) (permuting (1 ∷ 0 ∷ [])) (lent (+ ∷ + ∷ + ∷ + ∷ []))) 10
  pub identity : Broken (rules (seeding 2) (permuting (0 ∷ 1 ∷ [])) (lent (+ ∷ + ∷ + ∷ + ∷ []))) 9

pub seeds : Seeds
unfolding every any acts differs
seeds = record {
  acting = accepted_by (seeding 0) (permuting (1 ∷ 0 ∷ [])) (lent (+ ∷ + ∷ - ∷ + ∷ [])) refl;
  resting = refused_by (seeding 1) (permuting (1 ∷ 0 ∷ [])) (lent (+ ∷ + ∷ - ∷ + ∷ [])) 9 refl;
  idle = accepted_by (seeding 1) (permuting (1 ∷ 0 ∷ [])) (lent (+ ∷ + ∷ + ∷ + ∷ [])) refl;
  no_site = refused_by (seeding 2) (permuting (1 ∷ 0 ∷ [])) (lent (+ ∷ + ∷ + ∷ + ∷ [])) 9 refl;
  identity = refused_by (seeding 2) (permuting (0 ∷ 1 ∷ [])) (lent (+ ∷ + ∷ + ∷ + ∷ [])) 8 refl;
}

-- ---- rows that a call does not name hold anything (12/14)

-- the first call with a spin 0 of system 1
abbrev elsewhere : Buffers
elsewhere = record {
  spins = + ∷ - ∷ + ∷ pos 0 ∷ [];
  labels = 0 ∷ 0 ∷ [];
  grey_labels = 0 ∷ 0 ∷ [];
  counts = 0 ∷ 0 ∷ 0 ∷ [];
  sizes = 0 ∷ 0 ∷ 0 ∷ 0 ∷ [];
  members = [];
  found = 0 ∷ [];
  grey_found = 0 ∷ [];
}

-- three systems, of which the group has two
abbrev besides : ℕ → Call
besides second =
    plain Perm Wolff (line 2 3 (1 ∷ 0 ∷ []) (1 ∷ 0 ∷ []) []) (record { len = 2; systems = 0 ∷ second ∷ 2 ∷ 9 ∷ 9 ∷ 9 ∷ 9 ∷ 9 ∷ [] })

pub record Unnamed : Type 0 where
  pub named : Broken (rules (call (λ j. true)) (choices (λ j. true)) elsewhere) 3
  -- system 0 stands twice, so system 1 is not named: 5, which was 3 before
  pub twice : Broken (rules (call (lone 4)) (choices (lone 4)) elsewhere) 5
  -- the third system's row holds no spins: accepted, which was 3 before
  pub third : Kept (rules (besides 1) (permuting (1 ∷ 0 ∷ [])) (lent (+ ∷ + ∷ - ∷ + ∷ pos 0 ∷ pos 7 ∷ [])))
  pub third_named : Broken (rules (besides 2) (permuting (1 ∷ 0 ∷ [])) (lent (+ ∷ + ∷ - ∷ + ∷ pos 0 ∷ pos 7 ∷ []))) 3

pub unnamed : Unnamed
unfolding every any acts differs div le of_int table
unnamed = record {
  named = refused_by (call (λ j. true)) (choices (λ j. true)) elsewhere 2 refl;
  twice = refused_by (call (lone 4)) (choices (lone 4)) elsewhere 4 refl;
  third = accepted_by (besides 1) (permuting (1 ∷ 0 ∷ [])) (lent (+ ∷ + ∷ - ∷ + ∷ pos 0 ∷ pos 7 ∷ [])) refl;
  third_named = refused_by (besides 2) (permuting (1 ∷ 0 ∷ [])) (lent (+ ∷ + ∷ - ∷ + ∷ pos 0 ∷ pos 7 ∷ [])) 2 refl;
}

-- ---- the meter: a system that is not there goes before a coupling that is too large
abbrev metered : List ℤ → Lattice
metered couplings = line 1 2 (0 ∷ []) (0 ∷ []) couplings

pub record Metered : Type 0 where
  pub accepted : Kept (meter_rules (metered (pos 1000000 ∷ [])) (+ ∷ - ∷ []) 1)
  pub no_system : Broken (meter_rules (metered (pos 1000001 ∷ [])) (+ ∷ - ∷ []) 2) 5
  pub coupling : Broken (meter_rules (metered (negsuc 1000000 ∷ [])) (+ ∷ - ∷ []) 1) 6
  -- of the spins the metered system's alone are looked at; where it is not there, none
  pub beside : Kept (meter_rules (metered (pos 1 ∷ [])) (+ ∷ pos 0 ∷ []) 0)
  pub its_own : Broken (meter_rules (metered (pos 1 ∷ [])) (+ ∷ pos 0 ∷ []) 1) 3
  pub none : Broken (meter_rules (metered (pos 1 ∷ [])) (+ ∷ pos 0 ∷ []) 2) 5

pub metered_so : Metered
unfolding every
metered_so = record {
  accepted = meter_verdict (metered (pos 1000000 ∷ [])) (+ ∷ - ∷ []) 1;
  no_system = meter_verdict (metered (pos 1000001 ∷ [])) (+ ∷ - ∷ []) 2;
  coupling = meter_verdict (metered (negsuc 1000000 ∷ [])) (+ ∷ - ∷ []) 1;
  beside = meter_verdict (metered (pos 1 ∷ [])) (+ ∷ pos 0 ∷ []) 0;
  its_own = meter_verdict (metered (pos 1 ∷ [])) (+ ∷ pos 0 ∷ []) 1;
  none = meter_verdict (metered (pos 1 ∷ [])) (+ ∷ pos 0 ∷ []) 2;
}

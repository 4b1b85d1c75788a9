-- Two teams on one panel (12/14): an owner byte for each system, 0 or 1, and the caller's team. To a team a system that is not its own is none.
use Rattle.std.specs.Prelude.{ℕ, ◌≤◌, ◌<◌, ◌≡◌, Bool, true, cond, List, [], ◌∷◌, ◌++◌, map, eqb, ltb, length, get_or, ℤ}
use Rattle.lemmas.specs.Cells.{table}
use Rattle.lemmas.specs.Counts.{count_where}
use Rattle.paper.specs.Answer.Cases.{Answer}
use Rattle.paper.specs.declared.Group.{Group}
use Rattle.paper.specs.Answer.Cases.{MeterAnswer}
use Rattle.paper.specs.Answer.Cases.{SweepAnswer}
use Rattle.paper.specs.Panel.Input.{Lattice, Call, Choices, Buffers, member}
use Rattle.paper.specs.Refusal.Rule.{Rule, rule, Kept, Broken}
use Rattle.paper.specs.Refusal.Rules.{Sizes, Spins, Inverse, SmallCouplings}
use Rattle.paper.specs.Answer.Number.{number, sweep_number, meter_number}
use Rattle.paper.specs.Answer.Meter.{MeterAnswers}
use Rattle.paper.specs.Answer.Task.{Sweep}
use Rattle.paper.specs.Answer.Totals.{KeepAnswers, SweepKeepAnswers, Current, HandOverExact}

pub record Team : Type 0 where
  pub owners : List ℕ
  pub team : ℕ

-- ---- before all other tests
pub record OwnerBytes (o : Team) : Type 0 where
  pub bytes : (t : ℕ) → t < length o.owners → get_or o.owners t 0 ≤ 1
  pub team : o.team ≤ 1

abbrev pub owner_rules : Team → ℕ → List Rule
owner_rules o s = rule 2 (length o.owners ≡ s) ∷ rule 3 (OwnerBytes o) ∷ []

-- a call on the panel of s systems that answers with the number r: where an owner test fails it is that test's, and everything stays the Same; else what
-- is Told holds
pub record Owned (o : Team) (s r : ℕ) (Same Told : Type 0) : Type 0 where
  pub told : Kept (owner_rules o s) → Told
  pub refused : (k : ℕ) → Broken (owner_rules o s) k → (r ≡ k) × Same

-- ---- whose a system is: one that has no owner byte is nobody's
abbrev pub own : Team → ℕ → Bool
own o t = eqb (get_or o.owners t 2) o.team

abbrev pub Ours : Team → ℕ → ℕ → Type 0
Ours o s t = (t < s) × (own o t ≡ true)

-- how many of s systems are the team's
abbrev pub own_count : Team → ℕ → ℕ
own_count o s = count_where (own o) s

-- the number that a team's call is taken to name: a foreign system's is read as s, which no system has. So 5 refuses it, and 3 and 14 do not look at it
abbrev pub read : Team → ℕ → ℕ → ℕ
read o s t = cond (own o t) t s

abbrev pub read_group : Team → ℕ → Group → Group
read_group o s g = record { len = g.len; systems = table 8 (λ k. cond (ltb k g.len) (read o s (member g k)) 0) }

abbrev pub read_call : Team → Call → Call
read_call o c = record {
  mode = c.mode;
  form = c.form;
  lattice = c.lattice;
  pins = c.pins;
  group = read_group o c.lattice.s c.group;
  temperature = c.temperature;
  cuts = c.cuts;
  reference = c.reference;
  seed = c.seed;
}

-- a team's sweep is over all its systems
abbrev pub read_sweep : Team → Sweep → Sweep
read_sweep o w = record {
  mode = w.mode;
  form = w.form;
  lattice = w.lattice;
  pins = w.pins;
  systems = own_count o w.lattice.s;
  t = w.t;
  r = w.r;
  members = w.members;
  order = map (read o w.lattice.s) w.order;
  masks = w.masks;
  temperatures = w.temperatures;
  cuts = w.cuts;
  references = w.references;
  seeds = w.seeds;
  choices = w.choices;
  greys = w.greys;
}

-- ---- what a team's calls are answered: what the calls are that name what is read
abbrev pub Unchanged : Buffers → List ℤ → Buffers → List ℤ → Type 0
Unchanged b ts b' ts' = (b' ≡ b) × (ts' ≡ ts)

abbrev pub TeamAnswers : Team → Bool → Call → Choices → Buffers → List ℤ → Answer → Buffers → List ℤ → Type 0
TeamAnswers o keeping c p b ts a b' ts' =
    Owned o c.lattice.s (number a) (Unchanged b ts b' ts') (KeepAnswers keeping (read_call o c) p b ts a b' ts')

abbrev pub TeamSweepAnswers : Team → Bool → Sweep → Buffers → List ℤ → SweepAnswer → Buffers → List ℤ → Type 0
TeamSweepAnswers o keeping w b ts a b' ts' =
    Owned o w.lattice.s (sweep_number a) (Unchanged b ts b' ts') (SweepKeepAnswers keeping (read_sweep o w) b ts a b' ts')

-- nothing is lent to write to
abbrev pub TeamMeterAnswers : Team → Lattice → List ℤ → ℕ → MeterAnswer → Type 0
TeamMeterAnswers o g xs t a = Owned o g.s (meter_number a) (Unit {0}) (MeterAnswers g xs (read o g.s t) a)

-- the hand-over names no system: it is of all that are the team's
abbrev pub hand_over_rules : Team → Lattice → List ℤ → List ℤ → List Rule
hand_over_rules o g xs ts =
    owner_rules o g.s ++ (
    rule 1 (Sizes g.n g.d g.s)
    ∷ rule 2 (HandOverExact g xs ts)
    ∷ rule 3 (Spins g.n (Ours o g.s) xs)
    ∷ rule 4 (Inverse g.n g.d g.fwd g.bwd)
    ∷ rule 6 (SmallCouplings g.couplings)
    ∷ rule 14 (Current (Ours o g.s) g xs ts)
    ∷ [])

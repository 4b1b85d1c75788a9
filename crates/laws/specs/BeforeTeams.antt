-- The tests and answers as they were before there were teams (12/14): 3 and 14 looked at every system of the panel, and a sweep's order listed all. What
-- an accepted call does was the same.
use Rattle.std.specs.Prelude.{ℕ, ◌*◌, ◌≤◌, ◌<◌, ◌≡◌, Bool, List, [], ◌∷◌, ◌++◌, length, get_or, ℤ, nat_abs}
use Rattle.std.specs.Float.{nan}
use Rattle.paper.specs.Answer.Cases.{Answer, Answer.Refused, Answer.Idle, Answer.Held, Answer.Moved}
use Rattle.paper.specs.Answer.Cases.{MeterAnswer, MeterAnswer.Unmetered, MeterAnswer.Energy}
use Rattle.paper.specs.Answer.Cases.{SweepAnswer, SweepAnswer.Fault, SweepAnswer.Swept}
use Rattle.paper.specs.Panel.Input.{Lattice, Call, Choices, Buffers, size}
use Rattle.paper.specs.Panel.Takes.{takes_cuts}
use Rattle.paper.specs.Site.Energy.{energy}
use Rattle.paper.specs.Refusal.Rule.{Rule, rule, Kept, Broken}
use Rattle.paper.specs.Refusal.Rules.{When, Sizes, Ranged, HoudOfTwo, Exact, AllSystems, Spins, Inverse, Pins, Grouped, Permutes}
use Rattle.paper.specs.Refusal.Rules.{SmallCouplings, Warm, choice_rules}
use Rattle.paper.specs.Answer.Number.{meter_values}
use Rattle.paper.specs.Answer.Meter.{MeterExact}
use Rattle.paper.specs.Answer.Move.{Answers}
use Rattle.paper.specs.Answer.Task.{Sweep, tasks}
use Rattle.paper.specs.Answer.Sweep.{common, SweepExact, task_rules, SweepAnswers}
use Rattle.paper.specs.Answer.Totals.{total, TotalLengths, TotalsAfter, Current, HandOverExact}

-- every total that is lent
abbrev pub AllSmall : List ℤ → Type 0
AllSmall ts = (t : ℕ) → t < length ts → nat_abs (total ts t) ≤ 16384000000

-- ---- a move
abbrev pub rules_before : Bool → Call → Choices → Buffers → List ℤ → List Rule
rules_before keeping c p b ts =
    rule 1 (Ranged c.lattice.n c.lattice.d c.lattice.s c.mode (size c))
    ∷ rule 15 (HoudOfTwo c.mode c.form (size c))
    ∷ rule 2 (Exact c p b)
    ∷ rule 2 (When keeping (TotalLengths c.lattice ts))
    ∷ rule 3 (Spins c.lattice.n (AllSystems c.lattice.s) b.spins)
    ∷ rule 4 (Inverse c.lattice.n c.lattice.d c.lattice.fwd c.lattice.bwd)
    ∷ rule 4 (Pins c.pins)
    ∷ rule 5 (Grouped c.lattice.s c.group)
    ∷ rule 6 (When (takes_cuts c) (SmallCouplings c.lattice.couplings))
    ∷ rule 6 (When keeping (SmallCouplings c.lattice.couplings))
    ∷ rule 7 (When (takes_cuts c) (Warm c.temperature))
    ∷ (choice_rules c p b.spins ++ (rule 14 (When keeping (AllSmall ts)) ∷ []))

-- refused: nothing is written. Accepted: as now
pub record RefusesBefore (rs : List Rule) (b : Buffers) (ts : List ℤ) (r : ℕ) (b' : Buffers) (ts' : List ℤ) : Type 0 where
  pub why : Broken rs r
  pub kept : b' ≡ b
  pub totals_kept : ts' ≡ ts

pub record AcceptsBefore (keeping : Bool) (c : Call) (p : Choices) (b : Buffers) (ts : List ℤ) (a : Answer) (b' : Buffers) (ts' : List ℤ) : Type 0 where
  pub valid : Kept (rules_before keeping c p b ts)
  pub answers : Answers c p b a b'
  pub totals : TotalsAfter keeping c.lattice b.spins ts b'.spins ts'

abbrev pub AnswersBefore : Bool → Call → Choices → Buffers → List ℤ → Answer → Buffers → List ℤ → Type 0
AnswersBefore keeping c p b ts (Refused r) b' ts' = RefusesBefore (rules_before keeping c p b ts) b ts r b' ts'
AnswersBefore keeping c p b ts Idle b' ts' = AcceptsBefore keeping c p b ts Idle b' ts'
AnswersBefore keeping c p b ts Held b' ts' = AcceptsBefore keeping c p b ts Held b' ts'
AnswersBefore keeping c p b ts Moved b' ts' = AcceptsBefore keeping c p b ts Moved b' ts'

-- ---- a sweep, of all systems of the panel
abbrev pub with_order : Sweep → List ℕ → Sweep
with_order w order = record {
  mode = w.mode;
  form = w.form;
  lattice = w.lattice;
  pins = w.pins;
  systems = w.lattice.s;
  t = w.t;
  r = w.r;
  members = w.members;
  order = order;
  masks = w.masks;
  temperatures = w.temperatures;
  cuts = w.cuts;
  references = w.references;
  seeds = w.seeds;
  choices = w.choices;
  greys = w.greys;
}

abbrev pub of_all : Sweep → Sweep
of_all w = with_order w w.order

pub record SweepRangedBefore (w : Sweep) : Type 0 where
  pub ranged : Ranged w.lattice.n w.lattice.d w.lattice.s w.mode w.members
  pub all : w.t * w.r ≡ w.lattice.s
  pub enough : w.members ≤ w.r

abbrev pub sweep_rules_before : Bool → Sweep → Buffers → List ℤ → List Rule
sweep_rules_before keeping w b ts =
    rule 1 (SweepRangedBefore w)
    ∷ rule 15 (HoudOfTwo w.mode w.form w.members)
    ∷ rule 2 (SweepExact (of_all w) b)
    ∷ rule 2 (When keeping (TotalLengths w.lattice ts))
    ∷ rule 3 (Spins w.lattice.n (AllSystems w.lattice.s) b.spins)
    ∷ rule 4 (Inverse w.lattice.n w.lattice.d w.lattice.fwd w.lattice.bwd)
    ∷ rule 4 (Pins w.pins)
    ∷ rule 5 (Permutes w.lattice.s (λ k. get_or w.order k 0))
    ∷ rule 6 (When (takes_cuts (common w)) (SmallCouplings w.lattice.couplings))
    ∷ rule 6 (When keeping (SmallCouplings w.lattice.couplings))
    ∷ rule 7 (When (takes_cuts (common w)) ((j : ℕ) → j < w.t → Warm (get_or w.temperatures j nan)))
    ∷ rule 9 ((j : ℕ) → j < w.t → get_or w.masks j 0 ≤ 1)
    ∷ (task_rules w b (tasks w) ++ (rule 14 (When keeping (AllSmall ts)) ∷ []))

pub record SweptBefore (keeping : Bool) (w : Sweep) (b : Buffers) (ts : List ℤ) (idle moved held : ℕ) (b' : Buffers) (ts' : List ℤ) : Type 0 where
  pub valid : Kept (sweep_rules_before keeping w b ts)
  pub answers : SweepAnswers (of_all w) b (Swept idle moved held) b'
  pub totals : TotalsAfter keeping w.lattice b.spins ts b'.spins ts'

abbrev pub SweepAnswersBefore : Bool → Sweep → Buffers → List ℤ → SweepAnswer → Buffers → List ℤ → Type 0
SweepAnswersBefore keeping w b ts (Fault r) b' ts' = RefusesBefore (sweep_rules_before keeping w b ts) b ts r b' ts'
SweepAnswersBefore keeping w b ts (Swept idle moved held) b' ts' = SweptBefore keeping w b ts idle moved held b' ts'

-- ---- the meter
abbrev pub meter_rules_before : Lattice → List ℤ → ℕ → List Rule
meter_rules_before g xs t =
    rule 1 (Sizes g.n g.d g.s)
    ∷ rule 2 (MeterExact g xs)
    ∷ rule 3 (Spins g.n (AllSystems g.s) xs)
    ∷ rule 4 (Inverse g.n g.d g.fwd g.bwd)
    ∷ rule 5 (t < g.s)
    ∷ rule 6 (SmallCouplings g.couplings)
    ∷ []

pub record MetersBefore (g : Lattice) (xs : List ℤ) (t : ℕ) (e : ℤ) : Type 0 where
  pub valid : Kept (meter_rules_before g xs t)
  pub is : meter_values (Energy e) ≡ energy g xs t ∷ []

abbrev pub MeterAnswersBefore : Lattice → List ℤ → ℕ → MeterAnswer → Type 0
MeterAnswersBefore g xs t (Unmetered r) = Broken (meter_rules_before g xs t) r
MeterAnswersBefore g xs t (Energy e) = MetersBefore g xs t e

-- ---- the hand-over
abbrev pub hand_over_rules_before : Lattice → List ℤ → List ℤ → List Rule
hand_over_rules_before g xs ts =
    rule 1 (Sizes g.n g.d g.s)
    ∷ rule 2 (HandOverExact g xs ts)
    ∷ rule 3 (Spins g.n (AllSystems g.s) xs)
    ∷ rule 4 (Inverse g.n g.d g.fwd g.bwd)
    ∷ rule 6 (SmallCouplings g.couplings)
    ∷ rule 14 (Current (AllSystems g.s) g xs ts)
    ∷ []

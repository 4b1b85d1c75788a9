-- What `tsorvenk_sweep` answers.
use Rattle.std.specs.Prelude.{ℕ, ◌≡◌, ◌⊎◌, Bool, List, [], ◌∷◌, length, ℤ}
use Rattle.paper.specs.Answer.Cases.{SweepAnswer, SweepAnswer.Fault}
use Rattle.paper.specs.Panel.Input.{Buffers}
use Rattle.paper.specs.Refusal.Rule.{Rule, rule, Broken}
use Rattle.paper.specs.Refusal.Rules.{HoudOfTwo}
use Rattle.paper.specs.Answer.Number.{sweep_number, sweep_values}
use Rattle.paper.specs.Answer.Task.{Sweep}
use Rattle.paper.specs.Answer.Sweep.{SweepRanged}
use Rattle.paper.specs.Panel.Takes.{keeps_by}
use Rattle.paper.specs.declared.Mode.{Mode}
use Rattle.paper.specs.declared.Form.{Form}
use Rattle.paper.specs.declared.Keeps.{Keeps}
use Rattle.paper.specs.declared.Plan.{Plan}
use Rattle.tasks.specs.Plan.{Planned}
use Rattle.coded.specs.Takes.{numbers_by}
use Rattle.coded.specs.Answer.{Five}
use Rattle.coded.specs.Sweep.{SweepCodedAnswers}
use Rattle.tsorvenk.specs.Number.{Coded, coding_of, keeps_of, Returned, values_to}

-- the sweep's numbers
abbrev pub plan_for : Mode → Form → Keeps → ℕ → ℕ → ℕ → ℕ → ℕ → ℕ → ℕ → Plan
plan_for mode form keeps n d s systems t r members = record {
  mode = mode;
  form = form;
  keeps = keeps;
  n = n;
  d = d;
  s = s;
  systems = systems;
  t = t;
  r = r;
  members = members;
}

-- what a sweep is lent to write to: the paper's buffers, the totals, and a buffer for its three counts
pub record WithOutcomes : Type 0 where
  pub buffers : Buffers
  pub totals : List ℤ
  pub outcomes : List ℕ

abbrev pub with_outcomes : Buffers → List ℤ → List ℕ → WithOutcomes
with_outcomes b ts os = record { buffers = b; totals = ts; outcomes = os }

-- test 1: the sweep's, and groups of five where permutations are numbers
pub record Fits (coded : Bool) (w : Sweep) : Type 0 where
  pub ranged : SweepRanged w
  pub five : Five coded w.members

-- the buffer of three counts is one more of test 2, behind 15
abbrev pub outcome_rules : Bool → Sweep → WithOutcomes → List Rule
outcome_rules coded w l =
    rule 1 (Fits coded w)
    ∷ rule 15 (HoudOfTwo w.mode w.form w.members)
    ∷ rule 2 (length l.outcomes ≡ 3)
    ∷ []

-- with room for the counts: the sweep's answer a, and those of a sweep that was swept are written, idle tasks first and held ones last
pub record Counted (coded keeping : Bool) (w : Sweep) (l : WithOutcomes) (a : SweepAnswer) (l' : WithOutcomes) : Type 0 where
  pub answers : SweepCodedAnswers coded keeping w l.buffers l.totals a l'.buffers l'.totals
  pub counts : l'.outcomes ≡ values_to (sweep_values a) l.outcomes

-- without it: refused with the number r, and nothing is written
pub record Uncounted (coded : Bool) (w : Sweep) (l : WithOutcomes) (r : ℕ) (l' : WithOutcomes) : Type 0 where
  pub why : Broken (outcome_rules coded w l) r
  pub kept : l' ≡ l

-- the number r may be returned with the lent buffers l, which then hold l'
pub record OutcomeAnswers (coded keeping : Bool) (w : Sweep) (l : WithOutcomes) (r : ℕ) (l' : WithOutcomes) : Type 0 where
  pub roomed : length l.outcomes ≡ 3 → Returned sweep_number (λ a. Counted coded keeping w l a l') r
  pub roomless : (length l.outcomes ≡ 3 → ⊥) → Uncounted coded w l r l'

-- a code that is none is refused with 1
pub record Uncoded (r : ℕ) (l l' : WithOutcomes) : Type 0 where
  pub number : r ≡ sweep_number (Fault 1)
  pub kept : l' ≡ l

-- the number r is that of the answer to the sweep w, which has the mode and form of these codes, spells permutations as the third says and keeps
-- what the fourth says
pub record SweepNumbers (mode form coding keeps : ℕ) (w : Sweep) (l : WithOutcomes) (r : ℕ) (l' : WithOutcomes) : Type 0 where
  pub known : Coded mode form coding keeps
      → OutcomeAnswers (numbers_by (coding_of coding) w.mode w.form) (keeps_by (keeps_of keeps) w.form) w l r l'
  pub unknown : (Coded mode form coding keeps → ⊥) → Uncoded r l l'

-- ---- what the parts of `tsorvenk_sweep` say

-- without room for the counts tests 1 and 15 decide
pub record FitsPlan (coded : Bool) (q : Plan) : Type 0 where
  pub planned : Planned q
  pub five : Five coded q.members

abbrev pub FewHoud : Plan → Type 0
FewHoud q = HoudOfTwo q.mode q.form q.members

abbrev pub Roomless : Bool → Plan → ℕ → Type 0
Roomless coded q r =
    ((FitsPlan coded q → ⊥) × (r ≡ 1))
    ⊎ (FitsPlan coded q × (((FewHoud q → ⊥) × (r ≡ 15)) ⊎ (FewHoud q × (r ≡ 2))))

-- an answer as its number and its values
pub record Told (a : SweepAnswer) (ts : List ℕ) (r : ℕ) (ts' : List ℕ) : Type 0 where
  pub number : r ≡ sweep_number a
  pub counts : ts' ≡ values_to (sweep_values a) ts

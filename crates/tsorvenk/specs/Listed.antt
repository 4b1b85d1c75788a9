-- A refusal's number is one of the paper's list, 1 to 15. So the returned numbers 0 and 64 to 67 are no refusal's, and each number tells its answer.
use Rattle.std.specs.Prelude.{ℕ, zero, suc, ◌≤◌, ◌≡◌, refl, Bool, true, false, cond, List, [], ◌∷◌, ◌++◌, eqb, ℤ}
use Rattle.std.proofs.Common.{ap, inl, inr, arith, ne_eqb}
use Rattle.paper.specs.Answer.Cases.{Answer, Answer.Refused, Answer.Idle, Answer.Held, Answer.Moved}
use Rattle.paper.specs.Answer.Cases.{SweepAnswer.Fault}
use Rattle.paper.specs.Panel.Input.{Lattice, Call, Choices, Buffers, size}
use Rattle.paper.specs.Refusal.Rule.{Rule, Broken}
use Rattle.paper.specs.Refusal.Rules.{order_names, choice_rules}
use Rattle.paper.specs.Answer.Task.{Sweep, masked, task_call, task_choices, tasks}
use Rattle.paper.specs.Answer.Sweep.{task_rules}
use Rattle.paper.specs.Answer.Number.{sweep_number}
use Rattle.paper.specs.Answer.Totals.{totals_ask, kept_rules, swept_rules}
use Rattle.paper.specs.Answer.Team.{Team, owner_rules, hand_over_rules}
use Rattle.label.specs.Entry as entry
use Rattle.orders.specs.Answers as orders
use Rattle.coded.specs.Takes.{spelled_choices}
use Rattle.coded.specs.Answer.{Five, CodedAnswers}
use Rattle.coded.specs.Sweep.{spelled_sweep}
use Rattle.coded.specs.Determined.{five}
use Rattle.tsorvenk.specs.Number.{number_of}
use Rattle.tsorvenk.specs.Energy.{energy_rules, EnergyRefuses}
use Rattle.tsorvenk.specs.Checking.{check_rules, CheckRefuses}
use Rattle.tsorvenk.specs.Sweep.{WithOutcomes, outcome_rules, Counted, Uncounted}

pub record Listed (r : ℕ) : Type 0 where
  pub low : 1 ≤ r
  pub high : r ≤ 15

abbrev AllListed : List Rule → Type 0
AllListed [] = Unit {0}
AllListed (r ∷ rs) = Listed r.number × AllListed rs

broken_listed : (rs : List Rule) (r : ℕ) → AllListed rs → Broken rs r → Listed r
broken_listed [] r l w = absurd w
broken_listed (q ∷ rs) r l (inl w) = rw w.1 at l.0
broken_listed (q ∷ rs) r l (inr w) = broken_listed rs r l.1 w.1

listed : {k : ℕ} → 1 ≤ k → k ≤ 15 → Listed k
listed l h = record { low = l; high = h }

first_listed : {k : ℕ} → k ≡ 1 → Listed k
first_listed e = record { low = omega arith; high = omega arith }

-- ---- the owner tests, before a team's call
pub owners_listed : (o : Team) (s r : ℕ) → Broken (owner_rules o s) r → Listed r
owners_listed o s r h = broken_listed (owner_rules o s) r all h
  where
    all : AllListed (owner_rules o s)
    all = search (listed, arith)

-- ---- a step
module _ (coded keeping : Bool) (c : Call) (p : Choices) (b : Buffers) (ts : List ℤ) (b' : Buffers) (ts' : List ℤ) where
  pub step_listed : (r : ℕ) → CodedAnswers coded keeping c p b ts (Refused r) b' ts' → Listed r
  step_listed r h = go (five coded (size c))
    where
      all : AllListed (kept_rules keeping c (spelled_choices coded p) b ts)
      all = search (listed, arith)

      go : Dec (Five coded (size c)) → Listed r
      go (yes f) = broken_listed (kept_rules keeping c (spelled_choices coded p) b ts) r all (h.five f).why
      go (no f) = first_listed (ap number_of (h.other f).number)

-- 0 moved, 64 idle, 66 held, any other a refusal
abbrev pub answer_of : ℕ → Answer
answer_of r = cond (eqb r 0) Moved (cond (eqb r 64) Idle (cond (eqb r 66) Held (Refused r)))

pub step_told :
    (coded keeping : Bool) (c : Call) (p : Choices) (b : Buffers) (ts : List ℤ) (b' : Buffers) (ts' : List ℤ) (a : Answer)
    → CodedAnswers coded keeping c p b ts a b' ts' → answer_of (number_of a) ≡ a
step_told coded keeping c p b ts b' ts' (Refused r) h =
    let l = step_listed coded keeping c p b ts b' ts' r h in
    rw (ne_eqb r 0 (λ e. omega arith), ne_eqb r 64 (λ e. omega arith), ne_eqb r 66 (λ e. omega arith))
step_told coded keeping c p b ts b' ts' Idle h = refl
step_told coded keeping c p b ts b' ts' Held h = refl
step_told coded keeping c p b ts b' ts' Moved h = refl

-- ---- the meter
pub energy_listed : (t : Lattice) (xs : List ℤ) (k : ℕ) (es es' : List ℤ) (r : ℕ) → EnergyRefuses t xs k es r es' → Listed r
energy_listed t xs k es es' r h = broken_listed (energy_rules t xs k es) r all h.why
  where
    all : AllListed (energy_rules t xs k es)
    all = search (listed, arith)

-- ---- a vendor's check
pub check_listed :
    (c : Call) (xs ys : List ℤ) (rows fault rows' fault' : List ℕ) (r : ℕ) → CheckRefuses c xs ys rows fault r rows' fault' → Listed r
check_listed c xs ys rows fault rows' fault' r h = broken_listed (check_rules c xs ys rows fault) r all h.why
  where
    all : AllListed (check_rules c xs ys rows fault)
    all = search (listed, arith)

-- ---- the labelling
pub label_listed : (q : entry.Request) (b b' : entry.Lent) (r : ℕ) → entry.Refuses q b r b' → Listed r
label_listed q b b' r h = broken_listed (entry.rules q b) r all h.why
  where
    all : AllListed (entry.rules q b)
    all = search (listed, arith)

-- ---- a sweep
append_listed : (rs qs : List Rule) → AllListed rs → AllListed qs → AllListed (rs ++ qs)
append_listed [] qs h k = k
append_listed (r ∷ rs) qs h k = (h.0, append_listed rs qs h.1 k)

choices_listed : (c : Call) (p : Choices) (xs : List ℤ) → AllListed (choice_rules c p xs)
choices_listed c p xs = search (listed, arith)

unless_listed : (t : Bool) (rs : List Rule) → AllListed rs → AllListed (cond t [] rs)
unless_listed true rs h = tt
unless_listed false rs h = h

tasks_listed : (w : Sweep) (b : Buffers) (k : ℕ) → AllListed (task_rules w b k)
tasks_listed w b zero = tt
tasks_listed w b (suc k) =
    append_listed (task_rules w b k) _ (tasks_listed w b k)
    (unless_listed (masked w k) _ (choices_listed (task_call w k) (task_choices w k) b.spins))

swept_listed : (keeping : Bool) (w : Sweep) (b : Buffers) (ts : List ℤ) → AllListed (swept_rules keeping w b ts)
swept_listed keeping w b ts = search (listed, arith, rest)
  where
    last : AllListed (totals_ask keeping w.lattice (order_names w.order) ts).last
    last = search (listed, arith)

    rest : AllListed (task_rules w b (tasks w) ++ (totals_ask keeping w.lattice (order_names w.order) ts).last)
    rest = append_listed (task_rules w b (tasks w)) _ (tasks_listed w b (tasks w)) last

pub sweep_listed : (coded keeping : Bool) (w : Sweep) (l l' : WithOutcomes) (r : ℕ) → Counted coded keeping w l (Fault r) l' → Listed r
sweep_listed coded keeping w l l' r h = go (five coded w.members)
  where
    v : Sweep
    v = spelled_sweep coded w

    go : Dec (Five coded w.members) → Listed r
    go (yes f) = broken_listed (swept_rules keeping v l.buffers l.totals) r (swept_listed keeping v l.buffers l.totals) (h.answers.five f).why
    go (no f) = first_listed (ap sweep_number (h.answers.other f).number)

pub roomless_listed : (coded : Bool) (w : Sweep) (l l' : WithOutcomes) (r : ℕ) → Uncounted coded w l r l' → Listed r
roomless_listed coded w l l' r h = broken_listed (outcome_rules coded w l) r all h.why
  where
    all : AllListed (outcome_rules coded w l)
    all = search (listed, arith)

-- ---- the hand-over
pub hand_over_listed : (o : Team) (g : Lattice) (xs ts : List ℤ) (r : ℕ) → Broken (hand_over_rules o g xs ts) r → Listed r
hand_over_listed o g xs ts r h = broken_listed (hand_over_rules o g xs ts) r all h
  where
    all : AllListed (hand_over_rules o g xs ts)
    all = search (listed, arith)

-- ---- permutations of five and their numbers
pub row_of_listed : (v : ℕ) (xs ys : List ℕ) (r : ℕ) → orders.RowRefused v xs r ys → Listed r
row_of_listed v xs ys r h = broken_listed (orders.row_rules v xs) r all h.broken
  where
    all : AllListed (orders.row_rules v xs)
    all = search (listed, arith)

pub number_of_listed : (xs : List ℕ) (r : ℕ) → Broken (orders.number_rules xs) r → Listed r
number_of_listed xs r h = broken_listed (orders.number_rules xs) r all h
  where
    all : AllListed (orders.number_rules xs)
    all = search (listed, arith)

-- Totals beside the replicas (6/14): a call that keeps them is the call that keeps none, and brings each system's total current.
use Rattle.std.specs.Prelude.{ℕ, ◌*◌, ◌≤◌, ◌<◌, ◌≡◌, Bool, false, List, [], ◌∷◌, ◌++◌, length, get_or, ℤ, pos, nat_abs, ◌+ℤ◌, ◌-ℤ◌}
use Rattle.paper.specs.Answer.Cases.{Answer, Answer.Refused, Answer.Idle, Answer.Held, Answer.Moved}
use Rattle.paper.specs.declared.Group.{Group}
use Rattle.paper.specs.Answer.Cases.{SweepAnswer, SweepAnswer.Fault, SweepAnswer.Swept}
use Rattle.paper.specs.Panel.Input.{Lattice, Call, Choices, Buffers, member}
use Rattle.paper.specs.Site.Energy.{energy}
use Rattle.paper.specs.Refusal.Rule.{Rule, rule, Broken, Kept}
use Rattle.paper.specs.Panel.Takes.{takes_cuts}
use Rattle.paper.specs.Refusal.Rules.{When, Names, group_names, order_names, Named, SmallCouplings, Warm, choice_rules, More, rules_with}
use Rattle.paper.specs.Refusal.Kept.{Valid, valid_of}
use Rattle.paper.specs.Answer.Number.{number, sweep_number}
use Rattle.paper.specs.Answer.Meter.{MeterExact}
use Rattle.paper.specs.Answer.Move.{Answers}
use Rattle.paper.specs.Answer.Task.{Sweep}
use Rattle.paper.specs.Answer.Sweep.{SweepAnswers, sweep_rules_with}

-- the total of the system t
abbrev pub total : List ℤ → ℕ → ℤ
total ts t = get_or ts t (pos 0)

-- ---- refusals

-- 16,384 bonds of at most 1,000,000 each: no meter reaches more
abbrev pub SmallTotals : (ℕ → Type 0) → List ℤ → Type 0
SmallTotals Which ts = (t : ℕ) → Which t → nat_abs (total ts t) ≤ 16384000000

-- couplings are taken in every mode, and a total for each system
pub record TotalLengths (g : Lattice) (ts : List ℤ) : Type 0 where
  pub couplings : length g.couplings ≡ g.n * g.d
  pub totals : length ts ≡ g.s

-- what a call asks beyond the others where it keeps totals; 14 is last, and of the systems that are named
abbrev pub totals_ask : Bool → Lattice → Names → List ℤ → More
totals_ask keeping g names ts = record {
  lengths = rule 2 (When keeping (TotalLengths g ts)) ∷ [];
  couplings = rule 6 (When keeping (SmallCouplings g.couplings)) ∷ [];
  last = rule 14 (When keeping (SmallTotals (Named g.s names) ts)) ∷ [];
}

abbrev pub kept_rules : Bool → Call → Choices → Buffers → List ℤ → List Rule
kept_rules keeping c p b ts = rules_with (totals_ask keeping c.lattice (group_names c.group) ts) c p b

abbrev pub swept_rules : Bool → Sweep → Buffers → List ℤ → List Rule
swept_rules keeping w b ts = sweep_rules_with (totals_ask keeping w.lattice (order_names w.order) ts) w b

-- the same by name: all rules are kept just if the others are and these
pub record TotalsAsked (keeping : Bool) (g : Lattice) (names : Names) (ts : List ℤ) : Type 0 where
  pub lengths : When keeping (TotalLengths g ts)
  pub couplings : When keeping (SmallCouplings g.couplings)
  pub small : When keeping (SmallTotals (Named g.s names) ts)

-- what of it one task needs: of the totals, that its own group's are small
pub record TotalsReady (keeping : Bool) (g : Lattice) (o : Group) (ts : List ℤ) : Type 0 where
  pub lengths : When keeping (TotalLengths g ts)
  pub couplings : When keeping (SmallCouplings g.couplings)
  pub small : When keeping ((k : ℕ) → k < o.len → nat_abs (total ts (member o k)) ≤ 16384000000)

module _ (keeping : Bool) (c : Call) (p : Choices) (b : Buffers) (ts : List ℤ) where
  pub kept_valid : Kept (kept_rules keeping c p b ts) → Valid c p b
  kept_valid k =
      let q = k.1.1.1.1 in
      let h = q.1.1.1.1.1.1 in
      let last : Kept (rule 7 (When (takes_cuts c) (Warm c.temperature)) ∷ choice_rules c p b.spins) =
      (h.0, (h.1.0, (h.1.1.0, (h.1.1.1.0, tt)))) in
      valid_of c p b (k.0, (k.1.0, (k.1.1.0, (q.0, (q.1.0, (q.1.1.0, (q.1.1.1.0, (q.1.1.1.1.0, last))))))))

  pub kept_asked : Kept (kept_rules keeping c p b ts) → TotalsAsked keeping c.lattice (group_names c.group) ts
  kept_asked k =
      let h = k.1.1.1.1.1.1.1.1.1 in
      record { lengths = k.1.1.1.0; couplings = h.0; small = h.1.1.1.1.1.0 }

  last_kept : Valid c p b → TotalsAsked keeping c.lattice (group_names c.group) ts
      → Kept (choice_rules c p b.spins ++ (totals_ask keeping c.lattice (group_names c.group) ts).last)
  last_kept v a = let f = v.fit in (f.cuts, (f.chosen, (f.seeded, (a.small, tt))))

  pub asked_kept : Valid c p b → TotalsAsked keeping c.lattice (group_names c.group) ts → Kept (kept_rules keeping c p b ts)
  asked_kept v a =
      let s = v.sound in
      (s.ranged, (s.houd, (s.exact, (a.lengths, (s.spins, (s.inverse, (s.pins, (s.grouped, (s.couplings, (a.couplings, (s.warm, last_kept v a)))))))))))

-- ---- what becomes of the totals

-- each changes by its system's energy after less its energy before: that of a system which does not move, by 0
pub record Brought (g : Lattice) (xs ts ys ts' : List ℤ) : Type 0 where
  pub long : length ts' ≡ length ts
  pub each : (t : ℕ) → t < g.s → total ts' t ≡ total ts t +ℤ (energy g ys t -ℤ energy g xs t)

-- not kept, they are what they were, whatever is lent
pub record TotalsAfter (keeping : Bool) (g : Lattice) (xs ts ys ts' : List ℤ) : Type 0 where
  pub brought : When keeping (Brought g xs ts ys ts')
  pub left : keeping ≡ false → ts' ≡ ts

-- ---- a move

pub record KeepRefuses (keeping : Bool) (c : Call) (p : Choices) (b : Buffers) (ts : List ℤ) (r : ℕ) (b' : Buffers) (ts' : List ℤ) : Type 0 where
  pub why : Broken (kept_rules keeping c p b ts) r
  pub kept : b' ≡ b
  pub totals_kept : ts' ≡ ts

pub record KeepAccepts (keeping : Bool) (c : Call) (p : Choices) (b : Buffers) (ts : List ℤ) (a : Answer) (b' : Buffers) (ts' : List ℤ) : Type 0 where
  pub valid : Kept (kept_rules keeping c p b ts)
  pub answers : Answers c p b a b'
  pub totals : TotalsAfter keeping c.lattice b.spins ts b'.spins ts'

-- the answer a may be given to the call c, which keeps totals or not, with the lent buffers b and totals ts, which then hold b' and ts'
abbrev pub KeepAnswers : Bool → Call → Choices → Buffers → List ℤ → Answer → Buffers → List ℤ → Type 0
KeepAnswers keeping c p b ts (Refused r) b' ts' = KeepRefuses keeping c p b ts (number (Refused r)) b' ts'
KeepAnswers keeping c p b ts Idle b' ts' = KeepAccepts keeping c p b ts Idle b' ts'
KeepAnswers keeping c p b ts Held b' ts' = KeepAccepts keeping c p b ts Held b' ts'
KeepAnswers keeping c p b ts Moved b' ts' = KeepAccepts keeping c p b ts Moved b' ts'

-- ---- a sweep

pub record SweepKeepRefuses (keeping : Bool) (w : Sweep) (b : Buffers) (ts : List ℤ) (r : ℕ) (b' : Buffers) (ts' : List ℤ) : Type 0 where
  pub why : Broken (swept_rules keeping w b ts) r
  pub kept : b' ≡ b
  pub totals_kept : ts' ≡ ts

pub record SweepKeeps (keeping : Bool) (w : Sweep) (b : Buffers) (ts : List ℤ) (idle moved held : ℕ) (b' : Buffers) (ts' : List ℤ) : Type 0 where
  pub valid : Kept (swept_rules keeping w b ts)
  pub answers : SweepAnswers w b (Swept idle moved held) b'
  pub totals : TotalsAfter keeping w.lattice b.spins ts b'.spins ts'

abbrev pub SweepKeepAnswers : Bool → Sweep → Buffers → List ℤ → SweepAnswer → Buffers → List ℤ → Type 0
SweepKeepAnswers keeping w b ts (Fault r) b' ts' = SweepKeepRefuses keeping w b ts (sweep_number (Fault r)) b' ts'
SweepKeepAnswers keeping w b ts (Swept idle moved held) b' ts' = SweepKeeps keeping w b ts idle moved held b' ts'

-- ---- the hand-over

-- the totals of those systems are their energies
abbrev pub Current : (ℕ → Type 0) → Lattice → List ℤ → List ℤ → Type 0
Current Which g xs ts = (t : ℕ) → Which t → total ts t ≡ energy g xs t

pub record HandOverExact (g : Lattice) (xs ts : List ℤ) : Type 0 where
  pub panel : MeterExact g xs
  pub totals : length ts ≡ g.s

-- The same of an exported sweep, and its three counts.
use Rattle.std.specs.Prelude.{ℕ, ◌≡◌, Bool, length}
use Rattle.std.proofs.Common.{sym, ◌∙◌, ap}
use Rattle.std.proofs.Math.Decide.{ℕ_discrete}
use Rattle.paper.specs.Answer.Cases.{SweepAnswer}
use Rattle.paper.specs.Panel.Takes.{keeps_by}
use Rattle.paper.specs.Refusal.Rule.{Kept, broken_unique}
use Rattle.paper.specs.Answer.Number.{sweep_values, sweep_number}
use Rattle.paper.specs.Answer.Task.{Sweep}
use Rattle.paper.specs.Answer.Team.{Team, owner_rules, Owned, Ours, read_sweep}
use Rattle.laws.specs.Owners.{owned_both}
use Rattle.laws.specs.SameView.{SameView}
use Rattle.laws.specs.NamedOnly.{SeenAlike}
use Rattle.laws.specs.Isolated.{sweep_isolated}
use Rattle.coded.specs.Takes.{numbers_by}
use Rattle.coded.specs.Answer.{Five}
use Rattle.coded.specs.Sweep.{spelled_sweep, SweepCodedAnswers}
use Rattle.coded.specs.Determined.{five}
use Rattle.tsorvenk.specs.Number.{Coded, coding_of, keeps_of, values_to, coded}
use Rattle.tsorvenk.specs.Sweep.{WithOutcomes, outcome_rules, Counted, OutcomeAnswers, SweepNumbers}
use Rattle.tsorvenk.specs.Isolated.{owned_by}

pub record SameSwept (n : ℕ) (Which : ℕ → Type 0) (r : ℕ) (y : WithOutcomes) (r' : ℕ) (z : WithOutcomes) : Type 0 where
  pub number : r ≡ r'
  pub view : SameView n Which y.buffers y.totals z.buffers z.totals
  pub outcomes : z.outcomes ≡ y.outcomes

module _
    (o : Team) (mode form coding keeps : ℕ) (w : Sweep) (l d y z : WithOutcomes) (r r' : ℕ)
    (view : SameView w.lattice.n (Ours o w.lattice.s) l.buffers l.totals d.buffers d.totals)
    (same : d.outcomes ≡ l.outcomes)
  where
    abbrev spelling : Bool
    spelling = numbers_by (coding_of coding) w.mode w.form

    abbrev keeping : Bool
    keeping = keeps_by (keeps_of keeps) w.form

    abbrev Alike : Type 0
    Alike = SameSwept w.lattice.n (Ours o w.lattice.s) r y r' z

    kept_alike : r ≡ r' → y ≡ l → z ≡ d → Alike
    kept_alike e q q' = record {
      number = e;
      view = rw (q, q') view;
      outcomes = ap (λ (v : WithOutcomes). v.outcomes) q' ∙ (same ∙ sym (ap (λ (v : WithOutcomes). v.outcomes) q));
    }

    module _ (h : Kept (owner_rules o w.lattice.s)) where
      abbrev Seen : SweepAnswer → SweepAnswer → Type 0
      Seen a a' = SeenAlike w.lattice.n (Ours o w.lattice.s) a y.buffers y.totals a' z.buffers z.totals

      coded_alike :
          (a a' : SweepAnswer)
          → SweepCodedAnswers spelling keeping (read_sweep o w) l.buffers l.totals a y.buffers y.totals
          → SweepCodedAnswers spelling keeping (read_sweep o w) d.buffers d.totals a' z.buffers z.totals
          → Seen a a'
      coded_alike a a' f g = go (five spelling w.members)
        where
          go : Dec (Five spelling w.members) → Seen a a'
          go (yes k) =
              sweep_isolated o keeping (spelled_sweep spelling w) l.buffers d.buffers l.totals d.totals a a' y.buffers z.buffers y.totals
              z.totals view (owned_by h (f.five k)) (owned_by h (g.five k))
          go (no k) =
              let u = f.other k in
              let v = g.other k in
              record { answer = u.number ∙ sym v.number; view = rw (u.kept, u.totals_kept, v.kept, v.totals_kept) view }

      counted_alike :
          (a a' : SweepAnswer) → Counted spelling keeping (read_sweep o w) l a y → Counted spelling keeping (read_sweep o w) d a' z
          → r ≡ sweep_number a → r' ≡ sweep_number a' → Alike
      counted_alike a a' f g e e' = let s = coded_alike a a' f.answers g.answers in record {
        number = e ∙ (ap sweep_number s.answer ∙ sym e');
        view = s.view;
        outcomes = g.counts ∙ ((λ i. values_to (sweep_values (sym s.answer i)) (same i)) ∙ sym f.counts);
      }

      outcomes_alike :
          OutcomeAnswers spelling keeping (read_sweep o w) l r y → OutcomeAnswers spelling keeping (read_sweep o w) d r' z → Alike
      outcomes_alike f g = go (ℕ_discrete (length l.outcomes) 3)
        where
          go : Dec (length l.outcomes ≡ 3) → Alike
          go (yes e) =
              let u = f.roomed e in
              let v = g.roomed (ap length same ∙ e) in
              counted_alike u.answer v.answer u.allowed v.allowed u.number v.number
          go (no e) =
              let u = f.roomless e in
              let v = g.roomless (λ q. e (sym (ap length same) ∙ q)) in
              kept_alike (broken_unique (outcome_rules spelling (read_sweep o w) l) r r' u.why (rw same at v.why)) u.kept v.kept

      told : SweepNumbers mode form coding keeps (read_sweep o w) l r y → SweepNumbers mode form coding keeps (read_sweep o w) d r' z → Alike
      told f g = go (coded mode form coding keeps)
        where
          go : Dec (Coded mode form coding keeps) → Alike
          go (yes k) = outcomes_alike (f.known k) (g.known k)
          go (no k) =
              let u = f.unknown k in
              let v = g.unknown k in
              kept_alike (u.number ∙ sym v.number) u.kept v.kept

    pub sweep_isolated_by :
        Owned o w.lattice.s r (y ≡ l) (SweepNumbers mode form coding keeps (read_sweep o w) l r y)
        → Owned o w.lattice.s r' (z ≡ d) (SweepNumbers mode form coding keeps (read_sweep o w) d r' z)
        → Alike
    sweep_isolated_by = owned_both told (λ k some e e' q q'. kept_alike (e ∙ sym e') q q')

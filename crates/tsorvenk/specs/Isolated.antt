-- Two runs of an exported step, on panels that look the same to the caller's team, return the same number, and the panels look the same to it after.
use Rattle.std.specs.Prelude.{ℕ, ◌≡◌, Bool}
use Rattle.std.proofs.Common.{sym, ◌∙◌, ap}
use Rattle.paper.specs.Answer.Cases.{Answer}
use Rattle.paper.specs.Panel.Input.{Call, Choices}
use Rattle.paper.specs.Panel.Takes.{keeps_by}
use Rattle.paper.specs.Refusal.Rule.{Kept, broken_not_kept}
use Rattle.paper.specs.Answer.Team.{Team, owner_rules, Owned, Ours, read_call}
use Rattle.laws.specs.Owners.{owned_both}
use Rattle.laws.specs.SameView.{SameView}
use Rattle.laws.specs.NamedOnly.{SeenAlike}
use Rattle.laws.specs.Isolated.{isolated}
use Rattle.coded.specs.Takes.{numbers_by, spelled_choices}
use Rattle.coded.specs.Answer.{Five, CodedAnswers}
use Rattle.coded.specs.Determined.{five}
use Rattle.tsorvenk.specs.Number.{Coded, coding_of, keeps_of, number_of, coded}
use Rattle.tsorvenk.specs.Step.{WithTotals, StepAnswers}

-- where the owner tests are kept, what is told is what the team's call promises
pub owned_by : {o : Team} {s r : ℕ} {Same Told : Type 0} → Kept (owner_rules o s) → Told → Owned o s r Same Told
owned_by {o} {s} k h = record { told = λ _. h; refused = λ j w. absurd (broken_not_kept (owner_rules o s) j w k) }

-- ---- a step
pub record SameStep (n : ℕ) (Which : ℕ → Type 0) (r : ℕ) (y : WithTotals) (r' : ℕ) (z : WithTotals) : Type 0 where
  pub number : r ≡ r'
  pub view : SameView n Which y.buffers y.totals z.buffers z.totals

module _
    (o : Team) (mode form coding keeps : ℕ) (c : Call) (p : Choices) (l d y z : WithTotals) (r r' : ℕ)
    (view : SameView c.lattice.n (Ours o c.lattice.s) l.buffers l.totals d.buffers d.totals)
  where
    abbrev spelling : Bool
    spelling = numbers_by (coding_of coding) c.mode c.form

    abbrev keeping : Bool
    keeping = keeps_by (keeps_of keeps) c.form

    abbrev Alike : Type 0
    Alike = SameStep c.lattice.n (Ours o c.lattice.s) r y r' z

    -- both left everything as it was
    kept_alike : r ≡ r' → y ≡ l → z ≡ d → Alike
    kept_alike e q q' = record { number = e; view = rw (q, q') view }

    module _ (h : Kept (owner_rules o c.lattice.s)) where
      coded_alike :
          (a a' : Answer)
          → CodedAnswers spelling keeping (read_call o c) p l.buffers l.totals a y.buffers y.totals
          → CodedAnswers spelling keeping (read_call o c) p d.buffers d.totals a' z.buffers z.totals
          → SeenAlike c.lattice.n (Ours o c.lattice.s) a y.buffers y.totals a' z.buffers z.totals
      coded_alike a a' f g = go (five spelling c.group.len)
        where
          go : Dec (Five spelling c.group.len) → SeenAlike c.lattice.n (Ours o c.lattice.s) a y.buffers y.totals a' z.buffers z.totals
          go (yes k) =
              isolated o keeping c (spelled_choices spelling p) l.buffers d.buffers l.totals d.totals a a' y.buffers z.buffers y.totals
              z.totals view (owned_by h (f.five k)) (owned_by h (g.five k))
          go (no k) =
              let u = f.other k in
              let v = g.other k in
              record { answer = u.number ∙ sym v.number; view = rw (u.kept, u.totals_kept, v.kept, v.totals_kept) view }

      told : StepAnswers mode form coding keeps (read_call o c) p l r y → StepAnswers mode form coding keeps (read_call o c) p d r' z → Alike
      told f g = go (coded mode form coding keeps)
        where
          go : Dec (Coded mode form coding keeps) → Alike
          go (yes k) =
              let u = f.known k in
              let v = g.known k in
              let s = coded_alike u.answer v.answer u.allowed v.allowed in
              record { number = u.number ∙ (ap number_of s.answer ∙ sym v.number); view = s.view }
          go (no k) =
              let u = f.unknown k in
              let v = g.unknown k in
              kept_alike (u.number ∙ sym v.number) u.kept v.kept

    pub step_isolated :
        Owned o c.lattice.s r (y ≡ l) (StepAnswers mode form coding keeps (read_call o c) p l r y)
        → Owned o c.lattice.s r' (z ≡ d) (StepAnswers mode form coding keeps (read_call o c) p d r' z)
        → Alike
    step_isolated = owned_both told (λ k some e e' q q'. kept_alike (e ∙ sym e') q q')

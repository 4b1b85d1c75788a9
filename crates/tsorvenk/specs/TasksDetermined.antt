-- The calls on tasks allow one number and one content of every buffer.
use Rattle.std.specs.Prelude.{ℕ, ◌≡◌, List, ℤ}
use Rattle.std.proofs.Common.{sym, ◌∙◌, ap}
use Rattle.paper.specs.Panel.Input.{Call, Choices, Buffers}
use Rattle.paper.specs.Panel.Takes.{keeps_by}
use Rattle.paper.specs.Refusal.Verdict.{verdict_unique}
use Rattle.paper.specs.Answer.Task.{Sweep}
use Rattle.paper.specs.Answer.Totals.{swept_rules}
use Rattle.paper.specs.Answer.Team.{Team, Owned, read_sweep}
use Rattle.laws.specs.Owners.{owned_both}
use Rattle.packing.specs.Bytes.{own_group}
use Rattle.task_steps.specs.Choose.{Found}
use Rattle.task_steps.specs.Write.{Shape, Writing}
use Rattle.task_steps.specs.Determined.{SameChosen, task_label_determined, task_choose_determined, SameWritten, task_write_determined}
use Rattle.tsorvenk.specs.Number.{keeps_of, number_of, coded}
use Rattle.tsorvenk.specs.Tasks.{ByRows, TestNumbers, LabelNumbers, ChooseNumbers, WriteNumbers}

pub record SameLabelled (r : ℕ) (y : Buffers) (u : List ℕ) (r' : ℕ) (z : Buffers) (v : List ℕ) : Type 0 where
  pub number : r ≡ r'
  pub buffers : y ≡ z
  pub blue : u ≡ v

-- ---- the tests of a sweep
test_determined :
    (mode form keeps : ℕ) (w : Sweep) (b : Buffers) (ts : List ℤ) (r r' : ℕ) → TestNumbers mode form keeps w b ts r → TestNumbers mode form keeps w b ts r'
    → r ≡ r'
test_determined mode form keeps w b ts r r' f g = go (coded mode form 0 keeps)
  where
    go : Dec (ByRows mode form keeps) → r ≡ r'
    go (yes k) = verdict_unique (swept_rules (keeps_by (keeps_of keeps) w.form) w b ts) r r' (f.known k) (g.known k)
    go (no n) = f.unknown n ∙ sym (g.unknown n)

pub tsorvenk_test_sweep_determined :
    (o : Team) (mode form keeps : ℕ) (w : Sweep) (b : Buffers) (ts : List ℤ) (r r' : ℕ)
    → Owned o w.lattice.s r (Unit {0}) (TestNumbers mode form keeps (read_sweep o w) b ts r)
    → Owned o w.lattice.s r' (Unit {0}) (TestNumbers mode form keeps (read_sweep o w) b ts r')
    → r ≡ r'
tsorvenk_test_sweep_determined o mode form keeps w b ts r r' =
    owned_both (λ _. test_determined mode form keeps (read_sweep o w) b ts r r') (λ k some e e' q q'. e ∙ sym e')

-- ---- the steps
pub tsorvenk_task_label_determined :
    (mode form : ℕ) (c : Call) (p : Choices) (b : Buffers) (blue : List ℕ) (y z : Buffers) (u v : List ℕ) (r r' : ℕ)
    → LabelNumbers mode form c p b blue r y u
    → LabelNumbers mode form c p b blue r' z v
    → SameLabelled r y u r' z v
tsorvenk_task_label_determined mode form c p b blue y z u v r r' f g = go (coded mode form 0 0)
  where
    go : Dec (ByRows mode form 0) → SameLabelled r y u r' z v
    go (yes k) =
        let m = f.known k in
        let n = g.known k in
        let s = task_label_determined c p b blue y z u v m.answer n.answer m.allowed n.allowed in
        record { number = m.number ∙ (ap number_of s.answer ∙ sym n.number); buffers = s.buffers; blue = s.blue }
    go (no n) =
        let h = f.unknown n in
        let k = g.unknown n in
        record { number = h.number ∙ sym k.number; buffers = h.kept ∙ sym k.kept; blue = h.blue_kept ∙ sym k.blue_kept }

pub tsorvenk_task_choose_determined :
    (mode form : ℕ) (c : Call) (p : Choices) (xs : List ℤ) (f : Found) (area y z : List ℕ) (r r' : ℕ)
    → ChooseNumbers mode form c p xs f area r y
    → ChooseNumbers mode form c p xs f area r' z
    → SameChosen r y r' z
tsorvenk_task_choose_determined mode form c p xs f area y z r r' w v = go (coded mode form 0 0)
  where
    go : Dec (ByRows mode form 0) → SameChosen r y r' z
    go (yes k) = task_choose_determined c p xs f area y z r r' (w.known k) (v.known k)
    go (no n) =
        let h = w.unknown n in
        let k = v.unknown n in
        record { answer = h.number ∙ sym k.number; area = h.kept ∙ sym k.kept }

-- of a task on rows of its own, as every call is
pub tsorvenk_task_write_determined :
    (mode form keeps : ℕ) (h : Shape) (l : Writing) (own : h.lattice.s ≡ h.group.len) (group : h.group ≡ own_group h.group.len)
    (ys zs us vs : List ℤ) (r r' : ℕ)
    → WriteNumbers mode form keeps h l r ys us
    → WriteNumbers mode form keeps h l r' zs vs
    → SameWritten r ys us r' zs vs
tsorvenk_task_write_determined mode form keeps h l own group ys zs us vs r r' w v = go (coded mode form 0 keeps)
  where
    go : Dec (ByRows mode form keeps) → SameWritten r ys us r' zs vs
    go (yes k) = task_write_determined (keeps_by (keeps_of keeps) h.form) h l own group ys zs us vs r r' (w.known k) (v.known k)
    go (no n) =
        let a = w.unknown n in
        let b = v.unknown n in
        record { answer = a.number ∙ sym b.number; rows = a.kept ∙ sym b.kept; totals = a.totals_kept ∙ sym b.totals_kept }

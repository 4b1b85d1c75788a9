-- The number that a call on tasks returns is the one that was told; and a sweep's verdict where its order is not looked at.
use Prim.Native.Nat.{ℕ, zero, suc}
use mathlib.Core.Path.{◌≡◌, refl, ◌∙◌, ap, subst}
use mathlib.Core.Bool.{Bool, true, false, cond, ◌&&◌}
use mathlib.Core.List.{List, map}
use lib.Dec.{leb}
use lib.ListN.{length, take}
use lib.IntN.{ℤ}
use Rattle.paper.specs.Answer.Cases.{Answer}
use Rattle.paper.specs.declared.Group.{Group}
use Rattle.paper.specs.declared.Mode.{Mode}
use Rattle.paper.specs.declared.Form.{Form}
use Rattle.paper.specs.Panel.Input.{Lattice, Call, Choices, Buffers}
use Rattle.paper.specs.Panel.Takes.{keeps_by}
use Rattle.paper.specs.Refusal.Rule.{Kept}
use Rattle.paper.specs.Refusal.Verdict.{Verdict}
use Rattle.paper.specs.Answer.Task.{Sweep}
use Rattle.paper.specs.Answer.Sweep.{SweepRanged}
use Rattle.paper.specs.Answer.Totals.{swept_rules}
use Rattle.paper.specs.Answer.Team.{Team, owner_rules, own_count, read, read_sweep}
use Rattle.systems.specs.Owners.{read_length, OrderRead, order_entries}
use Rattle.coded.specs.Long.{second}
use Rattle.task_steps.specs.Label as steps
use Rattle.task_steps.specs.Choose.{Found, ChooseAnswers}
use Rattle.task_steps.specs.Write.{Shape, Writing, WriteAnswers}
use Rattle.tsorvenk.specs.Number.{keeps_of, number_of}
use Rattle.tsorvenk.specs.Tasks.{ByRows, TestNumbers, LabelNumbers, ChooseNumbers, WriteNumbers}
use Rattle.tsorvenk.proofs.Teams.{with_order, with_systems, take_all, none_fit, long_unfit}

-- ---- the steps
pub label_unknown :
    {mode form : ℕ} {c : Call} {p : Choices} {b : Buffers} {blue : List ℕ} → (ByRows mode form 0 → ⊥) → LabelNumbers mode form c p b blue 1 b blue
label_unknown none = record { known = λ k. absurd (none k); unknown = λ _. record { number = refl; kept = refl; blue_kept = refl } }

pub label_known :
    {mode form : ℕ} {c c' : Call} {p p' : Choices} {b b' : Buffers} {blue blue' : List ℕ} {k : ℕ} (a : Answer) → k ≡ number_of a → c ≡ c' → p ≡ p'
    → ByRows mode form 0 → steps.LabelAnswers c p b blue a b' blue' → LabelNumbers mode form c' p' b blue k b' blue'
label_known {c = c} {c'} {p} {p'} {b} {b'} {blue} {blue'} a ek ec ep d h = record {
  known = λ _. record {
    answer = a;
    allowed = subst (λ (q : Choices). steps.LabelAnswers c' q b blue a b' blue') ep (subst (λ (v : Call). steps.LabelAnswers v p b blue a b' blue') ec h);
    number = ek;
  };
  unknown = λ none. absurd (none d);
}

pub choose_unknown :
    {mode form : ℕ} {c : Call} {p : Choices} {xs : List ℤ} {f : Found} {area : List ℕ} → (ByRows mode form 0 → ⊥)
    → ChooseNumbers mode form c p xs f area 1 area
choose_unknown none = record { known = λ k. absurd (none k); unknown = λ _. record { number = refl; kept = refl } }

pub choose_known :
    {mode form : ℕ} {c c' : Call} {p p' : Choices} {xs : List ℤ} {f : Found} {area area' : List ℕ} {k : ℕ} → c ≡ c' → p ≡ p'
    → ByRows mode form 0 → ChooseAnswers c p xs f area k area' → ChooseNumbers mode form c' p' xs f area k area'
choose_known {c = c} {c'} {p} {p'} {xs} {f} {area} {area'} {k} ec ep d h = record {
  known = λ _.
      subst (λ (q : Choices). ChooseAnswers c' q xs f area k area') ep (subst (λ (v : Call). ChooseAnswers v p xs f area k area') ec h);
  unknown = λ none. absurd (none d);
}

abbrev shape_by : Mode → Form → Lattice → Group → Shape
shape_by m f g o = record { mode = m; form = f; lattice = g; group = o }

pub same_shape : {g : Lattice} {o : Group} {m m' : Mode} {f f' : Form} → m ≡ m' → f ≡ f' → shape_by m f g o ≡ shape_by m' f' g o
same_shape {g} {o} em ef = λ i. shape_by (em i) (ef i) g o

pub write_unknown :
    {mode form keeps : ℕ} {h : Shape} {l : Writing} → (ByRows mode form keeps → ⊥) → WriteNumbers mode form keeps h l 1 l.rows l.totals
write_unknown none = record { known = λ k. absurd (none k); unknown = λ _. record { number = refl; kept = refl; totals_kept = refl } }

pub write_known :
    {mode form keeps : ℕ} {q : Bool} {h h' : Shape} {l : Writing} {k : ℕ} {ys us : List ℤ} → q ≡ keeps_by (keeps_of keeps) h'.form → h ≡ h'
    → ByRows mode form keeps → WriteAnswers q h l k ys us → WriteNumbers mode form keeps h' l k ys us
write_known {q = q} {h} {h'} {l} {k} {ys} {us} eq eh d w = record {
  known = λ _.
      subst (λ (x : Bool). WriteAnswers x h' l k ys us) eq (subst (λ (z : Shape). WriteAnswers q z l k ys us) eh w);
  unknown = λ none. absurd (none d);
}

-- ---- the tests of a sweep
pub test_unknown :
    {mode form keeps : ℕ} {w : Sweep} {b : Buffers} {ts : List ℤ} → (ByRows mode form keeps → ⊥) → TestNumbers mode form keeps w b ts 1
test_unknown none = record { known = λ k. absurd (none k); unknown = λ _. refl }

pub test_known :
    {mode form keeps : ℕ} {q : Bool} {w w' : Sweep} {b : Buffers} {ts : List ℤ} {k : ℕ} → q ≡ keeps_by (keeps_of keeps) w'.form → w ≡ w'
    → ByRows mode form keeps → Verdict (swept_rules q w b ts) k → TestNumbers mode form keeps w' b ts k
test_known {q = q} {w} {w'} {b} {ts} {k} eq ew d v = record {
  known = λ _.
      subst (λ (x : Bool). Verdict (swept_rules x w' b ts) k) eq (subst (λ (z : Sweep). Verdict (swept_rules q z b ts) k) ew v);
  unknown = λ none. absurd (none d);
}

-- where two orders are both of a wrong length, the verdict does not depend on which it is
module _ (w : Sweep) (xs ys : List ℕ) where
  abbrev Unfit : List ℕ → Type 0
  Unfit zs = SweepRanged w → length zs ≡ w.systems → ⊥

  ranged : (us vs : List ℕ) → SweepRanged (with_order us w) → SweepRanged (with_order vs w)
  ranged us vs k = record { ranged = k.ranged; few = k.few; some = k.some; all = k.all; enough = k.enough }

  plain : (us : List ℕ) → SweepRanged (with_order us w) → SweepRanged w
  plain us k = record { ranged = k.ranged; few = k.few; some = k.some; all = k.all; enough = k.enough }

  module _ (ux : Unfit xs) (uy : Unfit ys) where
    verdict_alike :
        (keeping : Bool) (b : Buffers) (ts : List ℤ) (r : ℕ) → Verdict (swept_rules keeping (with_order xs w) b ts) r
        → Verdict (swept_rules keeping (with_order ys w) b ts) r
    verdict_alike keeping b ts zero v = absurd (ux (plain xs v.0) v.1.1.0.order)
    verdict_alike keeping b ts (suc r) v =
        second (ranged xs ys) (ranged ys xs) (λ q e. ux (plain xs q) e.order) (λ q e. uy (plain ys q) e.order) v

    tests_alike :
        {mode form keeps : ℕ} (b : Buffers) (ts : List ℤ) (r : ℕ) → TestNumbers mode form keeps (with_order xs w) b ts r
        → TestNumbers mode form keeps (with_order ys w) b ts r
    tests_alike b ts r h = record { known = λ k. verdict_alike _ b ts r (h.known k); unknown = h.unknown }

-- an order that is too long is not read
module _ (w : Sweep) (f : ℕ → ℕ) (order : List ℕ) where
  test_alike :
      {mode form keeps : ℕ} (b : Buffers) (ts : List ℤ) (r : ℕ)
      → TestNumbers mode form keeps (with_order (map f (take (read_length w.lattice.s (length order)) order)) w) b ts r
      → TestNumbers mode form keeps (with_order (map f order) w) b ts r
  test_alike {mode} {form} {keeps} b ts r = go (leb w.lattice.s 64 && leb (length order) 64) refl
    where
      With : List ℕ → Type 0
      With xs = TestNumbers mode form keeps (with_order (map f xs) w) b ts r

      go : (q : Bool) → (leb w.lattice.s 64 && leb (length order) 64) ≡ q → With (take (cond q (length order) 0) order) → With order
      go true e h = subst With (take_all w f order order) h
      go false e h = tests_alike w (map f (take 0 order)) (map f order) (none_fit w f order) (long_unfit w f order e) b ts r h

-- from the order and the count that were read to the sweep that the team's is taken to be
module _ (o : Team) (w : Sweep) (mode form keeps : ℕ) (b : Buffers) (ts : List ℤ) (r : ℕ) where
  abbrev Numbers : Sweep → Type 0
  Numbers v = TestNumbers mode form keeps v b ts r

  pub test_read :
      (systems len : ℕ) (named named' : List ℕ)
      → Kept (owner_rules o w.lattice.s)
      → systems ≡ own_count o (length o.owners)
      → length named ≡ 64
      → OrderRead o w.lattice.s w.order named len named'
      → Numbers (with_order (take len named') (with_systems systems w))
      → Numbers (read_sweep o w)
  test_read systems len named named' k count room h n =
      test_alike (with_systems (own_count o w.lattice.s) w) (read o w.lattice.s) w.order b ts r
      (subst (λ (m : ℕ). Numbers (with_order (map (read o w.lattice.s) (take m w.order)) (with_systems (own_count o w.lattice.s) w))) h.count
      (subst (λ (xs : List ℕ). Numbers (with_order xs (with_systems (own_count o w.lattice.s) w))) (order_entries room h)
      (subst (λ (m : ℕ). Numbers (with_order (take len named') (with_systems m w))) (count ∙ ap (own_count o) k.0) n)))

-- From the tests' verdict and what choosing leaves to the step's answer.
use Rattle.std.specs.Prelude.{ℕ, zero, suc, ◌≡◌, refl, Bool, true, false, cond, ◌&&◌, List, [], get_or, ℤ}
use Rattle.std.proofs.Common.{sym, ◌∙◌, ap, eq-eqb, eqb-true}
use Rattle.lemmas.specs.Bools.{never}
use Rattle.paper.specs.declared.Task.{Task}
use Rattle.paper.specs.Panel.Input.{Call, Choices, size}
use Rattle.paper.specs.Panel.Made.{call_of, choices_of}
use Rattle.paper.specs.Panel.Takes.{grows_by, labels_by, moves}
use Rattle.paper.specs.Move.Moving.{final}
use Rattle.paper.specs.Refusal.Rule.{Kept}
use Rattle.paper.specs.Refusal.Rules.{Grouped}
use Rattle.paper.specs.Refusal.Verdict.{Verdict}
use Rattle.laws.specs.Forms.{not_grows, not_labels}
use Rattle.columns.specs.Column.{column_of, Columns}
use Rattle.grow.specs.Formed.{grown_greys}
use Rattle.task_steps.specs.Choose.{Found, found_of, choose_rules, ChooseAccepts, ChooseAnswers}
use Rattle.task_choose.specs.Asked.{asks_of}
use Rattle.task_choose.specs.Grown.{GrownAsks, GrownLeaves, takers_of}
use Rattle.task_choose.specs.Labelled.{LabelledAsks}

-- refused, the area is what it was
pub refused_by : (c : Call) (p : Choices) (xs : List ℤ) (f : Found) (area : List ℕ) (r : ℕ) → (r ≡ 0 → ⊥) → Verdict (choose_rules c p xs f area) r
    → ChooseAnswers c p xs f area r area
refused_by c p xs f area zero e v = absurd (e refl)
refused_by c p xs f area (suc r) e v = record { why = v; kept = refl }

module _ (t : Task) (pins choices greys labels grey_labels members blue : List ℕ) (xs : List ℤ) (area : List ℕ) where
  abbrev c : Call
  c = call_of t [] [] pins [] []

  abbrev p : Choices
  p = choices_of choices greys

  abbrev f : Found
  f = found_of labels grey_labels members blue

  module _ (k : Kept (choose_rules c p xs f area)) (g : Grouped t.s t.group) where
    -- ---- the form that grows
    module _ (grows : grows_by t.form ≡ true) where
      pub grown_asks : GrownAsks t xs pins choices greys members blue area
      grown_asks = record {
        grows = grows;
        asks = asks_of c p xs f area k g;
        members_long = k.1.1.0.members grows;
        blue_long = λ q. k.1.1.0.blue (rw (grows, grown_greys t.form t.mode grows, q) refl);
        area_long = k.1.1.0.area_long;
      }

      pub grown_accepts : {area' : List ℕ} → GrownLeaves c p xs members blue area area' → ChooseAccepts c p xs f area area'
      grown_accepts {area'} w = record {
        valid = k;
        long = w.long;
        chosen = λ i h has.
            w.chosen i h (eqb-true (get_or members i 0) 1 (rw (not_labels t.form grows) at has))
            ∙ ap (λ (b : Bool). column_of (size c) (final c p xs (cond b (takers_of t.mode members blue) labels) (cond b members grey_labels) i)) (sym grows);
        left = λ i h none. w.left i (λ on. never (sym (rw (not_labels t.form grows) at none) ∙ eq-eqb (get_or members i 0) 1 on));
      }

    -- ---- those that label
    module _ (labelled : labels_by t.form ≡ true) where
      grows : grows_by t.form ≡ false
      grows = not_grows t.form labelled

      pub labelled_asks : LabelledAsks t xs pins choices greys labels grey_labels area
      labelled_asks = record {
        asks = asks_of c p xs f area k g;
        seeded = k.1.1.1.1.1.1.1.0;
        keys = λ e. let taken : (labels_by t.form && moves t.form) ≡ true = rw (labelled, e) refl in
            record { long = k.1.1.0.labels taken; below = k.1.1.1.1.1.1.0.labels taken };
        grey_keys = λ e. record { long = k.1.1.0.grey_labels (rw (labelled, e) refl); below = k.1.1.1.1.1.1.0.grey_labels (rw (labelled, e) refl) };
        area_long = k.1.1.0.area_long;
      }

      pub labelled_accepts : {area' : List ℕ} → Columns t.n t.group.len (final c p xs labels grey_labels) area' → ChooseAccepts c p xs f area area'
      labelled_accepts {area'} w = record {
        valid = k;
        long = w.long ∙ sym k.1.1.0.area_long;
        chosen = λ i h has.
            w.at i h
            ∙ ap (λ (b : Bool). column_of (size c) (final c p xs (cond b (takers_of t.mode members blue) labels) (cond b members grey_labels) i)) (sym grows);
        left = λ i h none. never (sym none ∙ rw labelled refl);
      }

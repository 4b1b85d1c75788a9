-- `tsorvenk_check_vendor` allows one number, one content of the rows and one of the buffer for a fault.
use Rattle.std.specs.Prelude.{ℕ, ◌≡◌, List, ℤ}
use Rattle.std.proofs.Common.{sym, ◌∙◌, ap}
use Rattle.paper.specs.Panel.Input.{Call}
use Rattle.paper.specs.Refusal.Rule.{Kept, broken_unique, broken_not_kept}
use Rattle.vendor.specs.Checked.{Checked, Checked.Refused, Checked.No, Checked.Yes}
use Rattle.vendor.specs.Vendor.{values, vendor_rules}
use Rattle.vendor.specs.Determined.{SameChecked, check_vendor_determined}
use Rattle.tsorvenk.specs.Number.{values_to}
use Rattle.tsorvenk.specs.Checking.{checked_number, check_rules, Checks, CheckedAs, CheckAnswers}

pub record SameCheck (r : ℕ) (us fs : List ℕ) (s : ℕ) (vs gs : List ℕ) : Type 0 where
  pub number : r ≡ s
  pub rows : us ≡ vs
  pub fault : fs ≡ gs

record SameTold (a : Checked) (us fs : List ℕ) (b : Checked) (vs gs : List ℕ) : Type 0 where
  pub answer : a ≡ b
  pub rows : us ≡ vs
  pub fault : fs ≡ gs

module _ (c : Call) (xs ys : List ℤ) (rows fault us fs vs gs : List ℕ) where
  -- an answer that is no refusal keeps every rule
  kept : (a : Checked) (ws hs : List ℕ) → Checks c xs ys rows fault a ws hs → Kept (vendor_rules c xs ys rows) → Kept (check_rules c xs ys rows fault)
  kept a ws hs w k = (k.0, (k.1.0, (w.room, k)))

  both : (a b : Checked) → Checks c xs ys rows fault a us fs → Checks c xs ys rows fault b vs gs → SameTold a us fs b vs gs
  both a b w v =
      let s : SameChecked a us b vs = check_vendor_determined c xs ys rows a b us vs w.answers v.answers in
      record {
        answer = s.answer;
        rows = s.rows;
        fault = w.written ∙ (ap (λ (z : Checked). values_to (values z) fault) s.answer ∙ sym v.written);
      }

  told :
      (a b : Checked) → CheckedAs c xs ys rows fault a us fs → CheckedAs c xs ys rows fault b vs gs → SameTold a us fs b vs gs
  told (Refused j) (Refused k) w v = record {
    answer = ap Refused (broken_unique (check_rules c xs ys rows fault) j k w.why v.why);
    rows = w.kept ∙ sym v.kept;
    fault = w.fault_kept ∙ sym v.fault_kept;
  }
  told (Refused j) (No r) w v = absurd (broken_not_kept (check_rules c xs ys rows fault) j w.why (kept (No r) vs gs v v.answers.valid))
  told (Refused j) Yes w v = absurd (broken_not_kept (check_rules c xs ys rows fault) j w.why (kept Yes vs gs v v.answers.valid))
  told (No r) (Refused k) w v = absurd (broken_not_kept (check_rules c xs ys rows fault) k v.why (kept (No r) us fs w w.answers.valid))
  told (No r) (No s) w v = both (No r) (No s) w v
  told (No r) Yes w v = both (No r) Yes w v
  told Yes (Refused k) w v = absurd (broken_not_kept (check_rules c xs ys rows fault) k v.why (kept Yes us fs w w.answers.valid))
  told Yes (No s) w v = both Yes (No s) w v
  told Yes Yes w v = both Yes Yes w v

  pub tsorvenk_check_vendor_determined :
      (r s : ℕ) → CheckAnswers c xs ys rows fault r us fs → CheckAnswers c xs ys rows fault s vs gs → SameCheck r us fs s vs gs
  tsorvenk_check_vendor_determined r s w v =
      let t = told w.answer v.answer w.allowed v.allowed in
      record { number = w.number ∙ (ap checked_number t.answer ∙ sym v.number); rows = t.rows; fault = t.fault }

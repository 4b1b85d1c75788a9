-- How tight the promise is: one input has one answer and one content of the lent rows.
use Rattle.std.specs.Prelude.{ℕ, ◌*◌, ◌<◌, ◌≡◌, refl, List, length, ℤ, Option, Result}
use Rattle.paper.specs.declared.Refusal.{Refusal}
use Rattle.vendor.specs.Checked.{checked_of, checked_of_injective}
use Rattle.std.proofs.Common.{sym, ◌∙◌, ap, arith}
use Rattle.std.proofs.Math.Decide.{dec_lt}
use Rattle.paper.specs.Panel.Input.{Call, graph, size}
use Rattle.paper.specs.Site.Bonds.{holds}
use Rattle.paper.specs.Refusal.Rule.{broken_unique, broken_not_kept}
use Rattle.laws.specs.Unique.{labels_unique, found_unique}
use Rattle.vendor.specs.Checked.{Checked, Checked.Refused, Checked.No, Checked.Yes}
use Rattle.vendor.specs.Vendor.{vendor_rules, Denies, Accepts, VendorAnswers}
use Rattle.vendor.specs.Components.{row_same}
use Rattle.matching.specs.Determined.{words_ext}

pub record SameChecked (a : Checked) (us : List ℕ) (b : Checked) (vs : List ℕ) : Type 0 where
  pub answer : a ≡ b
  pub rows : us ≡ vs

module _ (c : Call) (xs ys : List ℤ) (rows : List ℕ) where
  -- of two smallest components at fault neither is smaller
  fault_same : (r s : ℕ) (us vs : List ℕ) → Denies c xs ys rows r us → Denies c xs ys rows s vs → r ≡ s
  fault_same r s us vs f g = go (dec_lt r s) (dec_lt s r)
    where
      same : f.labels ≡ g.labels
      same = labels_unique (graph c) (holds c xs) f.labels g.labels f.numbered g.numbered

      go : Dec (r < s) → Dec (s < r) → r ≡ s
      go (yes h) d = absurd (f.fault (rw same (g.first r h)))
      go (no h) (yes d) = absurd (g.fault (rw (← same) (f.first s d)))
      go (no h) (no d) = omega arith

  -- where no component is at fault, r is not
  not_both : (r : ℕ) (us vs : List ℕ) → Denies c xs ys rows r us → Accepts c xs ys rows vs → ⊥
  not_both r us vs f g = f.fault (rw same (g.fair r (rw count at f.component)))
    where
      same : f.labels ≡ g.labels
      same = labels_unique (graph c) (holds c xs) f.labels g.labels f.numbered g.numbered

      count : f.found ≡ g.found
      count = found_unique (graph c) (holds c xs) f.labels g.labels f.numbered g.numbered

  rows_same : (us vs : List ℕ) → Accepts c xs ys rows us → Accepts c xs ys rows vs → us ≡ vs
  rows_same us vs f g =
      words_ext c.lattice.n (size c) us vs (f.long ∙ lent) (g.long ∙ lent)
      (λ r k h. row_same c xs f.labels r f.numbered.long ys us vs (f.written r h) (rw same (g.written r h)) k)
    where
      lent : length rows ≡ c.lattice.n * size c
      lent = f.valid.1.1.0.rows_long

      same : f.labels ≡ g.labels
      same = labels_unique (graph c) (holds c xs) f.labels g.labels f.numbered g.numbered

pub check_vendor_determined :
    (c : Call) (xs ys : List ℤ) (rows : List ℕ) (a b : Checked) (us vs : List ℕ)
    → VendorAnswers c xs ys rows a us
    → VendorAnswers c xs ys rows b vs
    → SameChecked a us b vs
check_vendor_determined c xs ys rows (Refused k) (Refused m) us vs f g = record {
  answer = ap Refused (broken_unique (vendor_rules c xs ys rows) k m f.why g.why);
  rows = f.kept ∙ sym g.kept;
}
check_vendor_determined c xs ys rows (Refused k) (No s) us vs f g = absurd (broken_not_kept (vendor_rules c xs ys rows) k f.why g.valid)
check_vendor_determined c xs ys rows (Refused k) Yes us vs f g = absurd (broken_not_kept (vendor_rules c xs ys rows) k f.why g.valid)
check_vendor_determined c xs ys rows (No r) (Refused m) us vs f g = absurd (broken_not_kept (vendor_rules c xs ys rows) m g.why f.valid)
check_vendor_determined c xs ys rows (No r) (No s) us vs f g = record {
  answer = ap No (fault_same c xs ys rows r s us vs f g);
  rows = f.kept ∙ sym g.kept;
}
check_vendor_determined c xs ys rows (No r) Yes us vs f g = absurd (not_both c xs ys rows r us vs f g)
check_vendor_determined c xs ys rows Yes (Refused m) us vs f g = absurd (broken_not_kept (vendor_rules c xs ys rows) m g.why f.valid)
check_vendor_determined c xs ys rows Yes (No s) us vs f g = absurd (not_both c xs ys rows s vs us g f)
check_vendor_determined c xs ys rows Yes Yes us vs f g = record { answer = refl; rows = rows_same c xs ys rows us vs f g }

pub check_vendor_result_determined :
    (c : Call) (xs ys : List ℤ) (rows : List ℕ) (a b : Result (Option ℕ) Refusal) (us vs : List ℕ)
    → VendorAnswers c xs ys rows (checked_of a) us
    → VendorAnswers c xs ys rows (checked_of b) vs
    → a ≡ b
check_vendor_result_determined c xs ys rows a b us vs f g =
    checked_of_injective a b (check_vendor_determined c xs ys rows (checked_of a) (checked_of b) us vs f g).answer

-- A vendor's check: the returned number is that of its answer.
use Prim.Native.Nat.{ℕ, zero, suc, ◌≤◌}
use mathlib.Core.Path.{◌≡◌, refl, subst}
use mathlib.Core.Logic.{inl, inr}
use mathlib.Core.List.{List}
use native.Mathlib.Omega.{arith}
use lib.Ieee.{Float, binary32, of_bits, of_int}
use lib.IntN.{ℤ}
use lib.ListN.{length, set}
use Rattle.paper.specs.declared.Mode.{Mode}
use Rattle.paper.specs.declared.Mode.TheVariants.{Cmr}
use Rattle.paper.specs.declared.Form.TheVariants.{Observe}
use Rattle.paper.specs.declared.Keeps.TheVariants.{Nothing}
use Rattle.paper.specs.Panel.Input.{Call, size}
use Rattle.paper.specs.Site.Bonds.{whole}
use Rattle.paper.specs.Refusal.Rule.{Broken}
use Rattle.packing.specs.Bytes.{own_group}
use Rattle.steps.specs.Rule.{task_of}
use Rattle.vendor.specs.Checked.{Checked, Checked.Refused, Checked.No, Checked.Yes}
use Rattle.vendor.specs.Vendor.{asked_by, vendor_rules, VendorAnswers}
use Rattle.tsorvenk.specs.Number.{mode_of}
use Rattle.tsorvenk.specs.Checking.{roomless_rules, check_rules, CheckAnswers}
use Rattle.tsorvenk.proofs.Told.{one_set}

-- a code of 5 or more
pub last_mode : (k : ℕ) → 5 ≤ k → mode_of k ≡ Cmr
last_mode zero h = absurd (omega arith)
last_mode (suc zero) h = absurd (omega arith)
last_mode (suc (suc zero)) h = absurd (omega arith)
last_mode (suc (suc (suc zero))) h = absurd (omega arith)
last_mode (suc (suc (suc (suc zero)))) h = absurd (omega arith)
last_mode (suc (suc (suc (suc (suc k))))) h = refl

-- the literal 1.0, by its bits
pub one : of_bits binary32 1065353216 ≡ whole 1
unfolding of_bits of_int
one = refl

-- the call, with the mode that the code stands for
abbrev pub called : Mode → Float → ℕ → ℕ → ℕ → ℕ → List ℕ → List ℕ → List ℕ → Call
called m x n d k q fwd bwd pins = asked_by (task_of m Observe Nothing n d k (own_group k) x q 0) fwd bwd pins

pub same_called :
    {m m' : Mode} {x x' : Float} {n d k q r : ℕ} {fwd bwd pins rows fault rows' fault' : List ℕ} {xs ys : List ℤ} → m ≡ m' → x ≡ x'
    → CheckAnswers (called m x n d k q fwd bwd pins) xs ys rows fault r rows' fault'
    → CheckAnswers (called m' x' n d k q fwd bwd pins) xs ys rows fault r rows' fault'
same_called {m} {m'} {x} {x'} {n} {d} {k} {q} {r} {fwd} {bwd} {pins} {rows} {fault} {rows'} {fault'} {xs} {ys} em ex w =
    subst (λ (c : Call). CheckAnswers c xs ys rows fault r rows' fault') (λ i. called (em i) (ex i) n d k q fwd bwd pins) w

module _ (c : Call) (xs ys : List ℤ) (rows fault : List ℕ) where
  -- no place for a fault
  pub no_place :
      (k : ℕ) → c.lattice.s ≡ size c → (length fault ≡ 1 → ⊥) → Broken (roomless_rules c.mode c.lattice.n c.lattice.d (size c)) k
      → CheckAnswers c xs ys rows fault k rows fault
  no_place k own none w =
      record { answer = Refused k; allowed = record { why = why w; kept = refl; fault_kept = refl }; number = refl }
    where
      why : Broken (roomless_rules c.mode c.lattice.n c.lattice.d (size c)) k → Broken (check_rules c xs ys rows fault) k
      why (inl x) = inl ((λ r. x.0 (rw own at r)), x.1)
      why (inr (a, inl x)) = inr (rw own a, inl x)
      why (inr (a, inr (p, inl x))) = inr (rw own a, inr (p, inl (none, x.1)))
      why (inr (a, inr (p, inr x))) = absurd x.1

  -- past that the refusal is the check's
  past : (k : ℕ) → length fault ≡ 1 → Broken (vendor_rules c xs ys rows) k → Broken (check_rules c xs ys rows fault) k
  past k room (inl x) = inl x
  past k room (inr (a, inl x)) = inr (a, inl x)
  past k room (inr (a, inr (p, w))) = inr (a, inr (p, inr (room, inr (a, inr (p, w)))))

  module _ (rows' : List ℕ) (room : length fault ≡ 1) where
    pub refused : {a : Checked} (k : ℕ) → a ≡ Refused k → VendorAnswers c xs ys rows a rows' → CheckAnswers c xs ys rows fault k rows' fault
    refused k e v =
        let w = subst (λ (z : Checked). VendorAnswers c xs ys rows z rows') e v in
        record { answer = Refused k; allowed = record { why = past k room w.why; kept = w.kept; fault_kept = refl }; number = refl }

    pub denied : {a : Checked} (r : ℕ) → a ≡ No r → VendorAnswers c xs ys rows a rows' → CheckAnswers c xs ys rows fault 67 rows' (set fault 0 r)
    denied r e v =
        let w = subst (λ (z : Checked). VendorAnswers c xs ys rows z rows') e v in
        record { answer = No r; allowed = record { room = room; answers = w; written = one_set fault r room }; number = refl }

    pub accepted : {a : Checked} → a ≡ Yes → VendorAnswers c xs ys rows a rows' → CheckAnswers c xs ys rows fault 0 rows' fault
    accepted e v =
        let w = subst (λ (z : Checked). VendorAnswers c xs ys rows z rows') e v in
        record { answer = Yes; allowed = record { room = room; answers = w; written = refl }; number = refl }

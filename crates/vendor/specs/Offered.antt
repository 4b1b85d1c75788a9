-- Tests 1, 2 and 3 of a pair, as the functions are handed it, and the rules as those of these tests and the rest.
use Rattle.std.specs.Prelude.{ℕ, zero, suc, ◌*◌, ◌≡◌, true, List, [], ◌∷◌, length, ℤ}
use Rattle.std.proofs.Common.{inl, inr}
use Rattle.paper.specs.declared.Task.{Task}
use Rattle.paper.specs.Panel.Input.{Call, size}
use Rattle.paper.specs.Panel.Takes.{is_perm}
use Rattle.paper.specs.Refusal.Rule.{Rule, rule, Kept}
use Rattle.paper.specs.Refusal.Rules.{Ranged, AllSystems, Spins}
use Rattle.paper.specs.Refusal.Verdict.{Verdict}
use Rattle.vendor.specs.declared.tested.Offer.{Offer}
use Rattle.vendor.specs.Vendor.{asked_by, Lent}

-- l has the lengths of both sides
pub record Handed (l : Offer) (xs ys : List ℤ) : Type 0 where
  pub before_is : l.before ≡ length xs
  pub after_is : l.after ≡ length ys

pub record Fitting (n d m : ℕ) (l : Offer) : Type 0 where
  pub before : l.before ≡ m * n
  pub after : l.after ≡ m * n
  pub fwd : l.fwd ≡ n * d
  pub bwd : l.bwd ≡ n * d
  pub pins : l.pins ≡ n
  pub rows : l.rows ≡ n * m

abbrev pub offer_rules : Task → Offer → List ℤ → List ℤ → List Rule
offer_rules t l xs ys =
    rule 1 (Ranged t.n t.d t.group.len t.mode t.group.len)
    ∷ rule 1 (is_perm t.mode ≡ true)
    ∷ rule 2 (Fitting t.n t.d t.group.len l)
    ∷ rule 3 (Spins t.n (AllSystems t.group.len) xs)
    ∷ rule 3 (Spins t.n (AllSystems t.group.len) ys)
    ∷ []

-- ---- of the call
abbrev pub head_rules : Call → List ℤ → List ℤ → List ℕ → List Rule
head_rules c xs ys rows =
    rule 1 (Ranged c.lattice.n c.lattice.d c.lattice.s c.mode (size c))
    ∷ rule 1 (is_perm c.mode ≡ true)
    ∷ rule 2 (Lent c xs ys rows)
    ∷ rule 3 (Spins c.lattice.n (AllSystems (size c)) xs)
    ∷ rule 3 (Spins c.lattice.n (AllSystems (size c)) ys)
    ∷ []

-- what they ask, by name
pub record Offered (c : Call) (xs ys : List ℤ) (rows : List ℕ) : Type 0 where
  pub ranged : Ranged c.lattice.n c.lattice.d c.lattice.s c.mode (size c)
  pub perm : is_perm c.mode ≡ true
  pub lent : Lent c xs ys rows
  pub before : Spins c.lattice.n (AllSystems (size c)) xs
  pub after : Spins c.lattice.n (AllSystems (size c)) ys

pub offered_of : {c : Call} {xs ys : List ℤ} {rows : List ℕ} → Kept (head_rules c xs ys rows) → Offered c xs ys rows
offered_of k = record { ranged = k.0; perm = k.1.0; lent = k.1.1.0; before = k.1.1.1.0; after = k.1.1.1.1.0 }

pub offered_kept : {c : Call} {xs ys : List ℤ} {rows : List ℕ} → Offered c xs ys rows → Kept (head_rules c xs ys rows)
offered_kept o = (o.ranged, (o.perm, (o.lent, (o.before, (o.after, tt)))))

-- the lengths are those of the buffers
module _ (t : Task) (fwd bwd pins : List ℕ) (xs ys : List ℤ) (rows : List ℕ) where
  abbrev l : Offer
  l = record { before = length xs; after = length ys; fwd = length fwd; bwd = length bwd; pins = length pins; rows = length rows }

  abbrev c : Call
  c = asked_by t fwd bwd pins

  lent_of : Fitting t.n t.d t.group.len l → Lent c xs ys rows
  lent_of f = record { before = f.before; after = f.after; fwd = f.fwd; bwd = f.bwd; pins = f.pins; rows_long = f.rows }

  of_lent : Lent c xs ys rows → Fitting t.n t.d t.group.len l
  of_lent f = record { before = f.before; after = f.after; fwd = f.fwd; bwd = f.bwd; pins = f.pins; rows = f.rows_long }

  pub head_of : (r : ℕ) → Verdict (offer_rules t l xs ys) r → Verdict (head_rules c xs ys rows) r
  head_of zero k = (k.0, (k.1.0, (lent_of k.1.1.0, k.1.1.1)))
  head_of (suc r) (inl w) = inl w
  head_of (suc r) (inr (a, inl w)) = inr (a, inl w)
  head_of (suc r) (inr (a, inr (p, inl w))) = inr (a, inr (p, inl ((λ f. w.0 (of_lent f)), w.1)))
  head_of (suc r) (inr (a, inr (p, inr (f, w)))) = inr (a, inr (p, inr (lent_of f, w)))

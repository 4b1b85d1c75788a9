-- A step of a reversible mode turns the two ends of every bond alike, so the group's sum over the bond stays.
use Rattle.std.specs.Prelude.{ℕ, ◌<◌, ◌≡◌, Bool, true, cond, List, ℤ, ◌*ℤ◌}
use Rattle.std.proofs.Math.Path.{refl}
use Rattle.std.proofs.Common.{sym, ◌∙◌, ap}
use Rattle.std.proofs.Math.Bool.{false}
use Rattle.lemmas.specs.Sums.{sum, sum_ext}
use Rattle.paper.specs.declared.Form.{Form}
use Rattle.paper.specs.declared.Form.TheVariants.{Sw, Wolff, Observe, Grow}
use Rattle.paper.specs.Panel.Input.{Call, Choices, pattern, size, ahead}
use Rattle.paper.specs.Site.Acting.{acts}
use Rattle.paper.specs.Site.Bonds.{holds}
use Rattle.paper.specs.Component.Sizes.{label_of}
use Rattle.paper.specs.Move.Moving.{chosen, reached, reached_by}
use Rattle.paper.specs.Refusal.Rules.{Permutes}
use Rattle.paper.specs.Site.Energy.{bond_sum}
use Rattle.laws.specs.Permuted.{sum_permuted}
use Rattle.laws.specs.Patterns.{Spinning}
use Rattle.demand3.specs.Reversible.{holds_both, gauge_product, still}
use Rattle.demand3.specs.Step.{Step, reached_no}
use Rattle.demand3.specs.Turns.{seen_at, permutes_at, turned, spins_kept}

same_reached :
    (f : Form) (c : Call) (l : List ℕ) (i j : ℕ)
    → label_of l i ≡ label_of l j
    → reached_by f c.mode c.seed l i ≡ reached_by f c.mode c.seed l j
same_reached Sw c l i j e = rw e refl
same_reached Wolff c l i j e = rw e refl
same_reached Observe c l i j e = refl
same_reached Grow c l i j e = rw e refl

module _ {c : Call} {p : Choices} {xs : List ℤ} {l : List ℕ} {ys : List ℤ} (s : Step c p xs l ys) where
  -- one permutation of the places turns both sites
  record Together (i j : ℕ) : Type 0 where
    way : ℕ → ℕ
    permutes : Permutes (size c) way
    left : (k : ℕ) → k < size c → seen_at c ys i k ≡ seen_at c xs i (way k)
    right : (k : ℕ) → k < size c → seen_at c ys j k ≡ seen_at c xs j (way k)

  swap : {i j : ℕ} → Together i j → Together j i
  swap t = record { way = t.way; permutes = t.permutes; left = t.right; right = t.left }

  -- a site that is reached turns by its choice, and one that is not stays
  by_choice :
      (i : ℕ)
      → i < c.lattice.n
      → (t : Bool)
      → reached c xs l i ≡ t
      → (k : ℕ)
      → k < size c
      → seen_at c ys i k ≡ seen_at c xs i (cond t (chosen c p (label_of l i) k) k)
  by_choice i hi t e k hk = turned s i k hi hk ∙ ap (λ (t : Bool). seen_at c xs i (cond t (chosen c p (label_of l i) k) k)) e

  neither : (i j : ℕ) → i < c.lattice.n → j < c.lattice.n → reached c xs l i ≡ false → reached c xs l j ≡ false → Together i j
  neither i j hi hj ei ej = record {
    way = λ k. k;
    permutes = record { within = λ k h. h; distinct = λ a b _ _ e. e };
    left = by_choice i hi false ei;
    right = by_choice j hj false ej;
  }

  -- a site that does not act looks the same turned by any choice
  resting : (i j : ℕ) → i < c.lattice.n → j < c.lattice.n → acts c xs j ≡ false → Together i j
  unfolding acts
  resting i j hi hj aj = go (reached c xs l i) refl
    where
      off : reached c xs l j ≡ false
      off = reached_no c xs l j aj

      alike : reached c xs l i ≡ true → (k : ℕ) → k < size c → seen_at c xs j (chosen c p (label_of l i) k) ≡ seen_at c xs j k
      alike e =
          still c.mode c p (label_of l i) (pattern c xs c.reference) (pattern c xs j) s.reversible (permutes_at s i hi e) (s.spins j hj) aj

      go : (t : Bool) → reached c xs l i ≡ t → Together i j
      go false e = neither i j hi hj e off
      go true e = record {
        way = chosen c p (label_of l i);
        permutes = permutes_at s i hi e;
        left = by_choice i hi true e;
        right = λ k hk. by_choice j hj false off k hk ∙ sym (alike e k hk);
      }

  -- both ends act: the bond holds, so they have one label
  joint : (i e : ℕ) → i < c.lattice.n → e < c.lattice.d → acts c xs i ≡ true → acts c xs (ahead c i e) ≡ true → Together i (ahead c i e)
  unfolding holds reached
  joint i e hi he ai aj = go (reached c xs l i) refl
    where
      hj : ahead c i e < c.lattice.n
      hj = s.inside i e hi he

      on : holds c xs i e ≡ true
      on = holds_both c.mode (size c) s.reversible c xs i e ∙ rw (ai, aj) refl

      label : label_of l i ≡ label_of l (ahead c i e)
      label = s.told.joint i e hi he on

      alike : reached c xs l i ≡ reached c xs l (ahead c i e)
      alike = rw (ai, aj, same_reached c.form c l i (ahead c i e) label, label) refl

      go : (t : Bool) → reached c xs l i ≡ t → Together i (ahead c i e)
      go false q = neither i (ahead c i e) hi hj q (sym alike ∙ q)
      go true q = record {
        way = chosen c p (label_of l i);
        permutes = permutes_at s i hi q;
        left = by_choice i hi true q;
        right = λ k hk.
            by_choice (ahead c i e) hj true (sym alike ∙ q) k hk
            ∙ ap (λ (r : ℕ). seen_at c xs (ahead c i e) (chosen c p r k)) (sym label);
      }

  together : (i e : ℕ) → i < c.lattice.n → e < c.lattice.d → Together i (ahead c i e)
  together i e hi he = go (acts c xs i) (acts c xs (ahead c i e)) refl refl
    where
      go : (a b : Bool) → acts c xs i ≡ a → acts c xs (ahead c i e) ≡ b → Together i (ahead c i e)
      go a false p q = resting i (ahead c i e) hi (s.inside i e hi he) q
      go false true p q = swap (resting (ahead c i e) i (s.inside i e hi he) hi p)
      go true true p q = joint i e hi he p q

  -- the sum of the products of end spins is that of the gauged patterns
  gauged_sum :
      (zs : List ℤ)
      → ((i : ℕ) → i < c.lattice.n → Spinning (size c) (pattern c zs i))
      → (i e : ℕ)
      → i < c.lattice.n
      → e < c.lattice.d
      → sum (size c) (λ k. seen_at c zs i k *ℤ seen_at c zs (ahead c i e) k) ≡ bond_sum c zs i e
  gauged_sum zs h i e hi he =
      sum_ext (size c) _ _
      (λ k hk.
      gauge_product c.mode (pattern c zs c.reference) (pattern c zs i) (pattern c zs (ahead c i e)) k
      (λ q. h c.reference (s.reference q) k hk) (h i hi k hk) (h (ahead c i e) (s.inside i e hi he) k hk))

  pub sum_kept : (i e : ℕ) → i < c.lattice.n → e < c.lattice.d → bond_sum c ys i e ≡ bond_sum c xs i e
  sum_kept i e hi he =
      sym (gauged_sum ys (spins_kept s) i e hi he)
      ∙ (sum_ext (size c) _ (λ k. seen_at c xs i (t.way k) *ℤ seen_at c xs (ahead c i e) (t.way k)) (λ k hk. cc (t.left k hk, t.right k hk))
      ∙ (sum_permuted (size c) t.way (λ k. seen_at c xs i k *ℤ seen_at c xs (ahead c i e) k) t.permutes
      ∙ gauged_sum xs s.spins i e hi he))
    where
      t : Together i (ahead c i e)
      t = together i e hi he

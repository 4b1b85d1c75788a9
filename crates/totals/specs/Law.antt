-- The energy's change is the sum over the sites of what is looked at from each.
use Rattle.std.specs.Prelude.{ℕ, zero, suc, ◌+◌, ◌*◌, ◌<◌, ◌≡◌, refl, Bool, true, false, cond, List, eqb, get_or, ℤ, pos, neg_ℤ, ◌+ℤ◌, ◌-ℤ◌, ◌*ℤ◌}
use Rattle.std.proofs.Common.{sym, ◌∙◌, ap, eqb-true}
use Rattle.std.proofs.Math.IntN.{+ℤ_idl, +ℤ_idr, +ℤ_comm, +ℤ_invr, neg_ℤ-neg_ℤ, neg_ℤ-+ℤ}
use Rattle.lemmas.specs.Sums.{sum, sum_ext, sum_zero, sum_add, sum_swap}
use Rattle.paper.specs.Panel.Input.{Lattice, spin, ahead_of, bond_of}
use Rattle.paper.specs.Refusal.Rules.{Inverse, Permutes}
use Rattle.paper.specs.Site.Energy.{energy}
use Rattle.laws.specs.Permuted.{sum_permuted}
use Rattle.columns.specs.Column.{shown}
use Rattle.totals.specs.Gain.{Change, ahead, behind, gain, back_gain, site_gain}

-- ---- sums over bonds

-- over n sites and d directions
abbrev twofold : ℕ → ℕ → (ℕ → ℕ → ℤ) → ℤ
twofold n d f = sum n (λ i. sum d (λ e. f i e))

twofold_ext : (n d : ℕ) (f g : ℕ → ℕ → ℤ) → ((i e : ℕ) → i < n → e < d → f i e ≡ g i e) → twofold n d f ≡ twofold n d g
twofold_ext n d f g h = sum_ext n (λ i. sum d (λ e. f i e)) (λ i. sum d (λ e. g i e)) (λ i li. sum_ext d (f i) (g i) (λ e le. h i e li le))

twofold_add : (n d : ℕ) (f g : ℕ → ℕ → ℤ) → twofold n d (λ i e. f i e +ℤ g i e) ≡ twofold n d f +ℤ twofold n d g
twofold_add n d f g =
    sum_ext n (λ i. sum d (λ e. f i e +ℤ g i e)) (λ i. sum d (λ e. f i e) +ℤ sum d (λ e. g i e)) (λ i li. sum_add d (f i) (g i))
    ∙ sum_add n (λ i. sum d (λ e. f i e)) (λ i. sum d (λ e. g i e))

-- the bonds of each direction taken by the site that they lead to
twofold_turned :
    (n d : ℕ) (p : ℕ → ℕ → ℕ) (f : ℕ → ℕ → ℤ) → ((e : ℕ) → e < d → Permutes n (λ i. p i e)) → twofold n d f ≡ twofold n d (λ i e. f (p i e) e)
twofold_turned n d p f h =
    sum_swap n d f
    ∙ (sum_ext d (λ e. sum n (λ i. f i e)) (λ e. sum n (λ i. f (p i e) e)) (λ e le. sym (sum_permuted n (λ i. p i e) (λ i. f i e) (h e le)))
    ∙ sym (sum_swap n d (λ i e. f (p i e) e)))

sum_or : (d : ℕ) (t : Bool) (f : ℕ → ℤ) → sum d (λ e. cond t (pos 0) (f e)) ≡ cond t (pos 0) (sum d f)
sum_or d true f = sum_zero d
sum_or d false f = refl

-- ---- of a move

module _ (n : ℕ) (w : Change) (k : ℕ) (tables : Inverse n w.d w.fwd w.bwd) where
  -- the column of i did not change
  abbrev still : ℕ → Bool
  still i = eqb (w.old i) (w.new i)

  -- the bond (i, e), counted at i; and counted at the other end, if that changed and i did not
  abbrev here : ℕ → ℕ → ℤ
  here i e = cond (still i) (pos 0) (gain w k i e)

  abbrev there : ℕ → ℕ → ℤ
  there i e = cond (still i) (cond (still (ahead w i e)) (pos 0) (gain w k i e)) (pos 0)

  -- a bond between two ends that did not change
  quiet : (i e : ℕ) → still i ≡ true → still (ahead w i e) ≡ true → gain w k i e ≡ pos 0
  quiet i e p q =
      let j = get_or w.couplings (i * w.d + e) (pos 0) in
      ap (λ (x : ℕ). j *ℤ shown x k *ℤ shown (w.old (ahead w i e)) k -ℤ j *ℤ shown (w.new i) k *ℤ shown (w.new (ahead w i e)) k) (eqb-true _ _ p)
      ∙ (ap (λ (x : ℕ). j *ℤ shown (w.new i) k *ℤ shown x k -ℤ j *ℤ shown (w.new i) k *ℤ shown (w.new (ahead w i e)) k) (eqb-true _ _ q)
      ∙ +ℤ_invr (j *ℤ shown (w.new i) k *ℤ shown (w.new (ahead w i e)) k))

  once : (i e : ℕ) → gain w k i e ≡ here i e +ℤ there i e
  once i e = go (still i) (still (ahead w i e)) (gain w k i e) (quiet i e)
    where
      go : (s t : Bool) (z : ℤ) → (s ≡ true → t ≡ true → z ≡ pos 0) → z ≡ cond s (pos 0) z +ℤ cond s (cond t (pos 0) z) (pos 0)
      go true true z q = q refl refl
      go true false z q = sym (+ℤ_idl z)
      go false t z q = sym (+ℤ_idr z)

  -- the site behind leads back
  home : (i e : ℕ) → i < n → e < w.d → ahead w (behind w i e) e ≡ i
  home i e li le = (tables.here i e li le).home

  turns : (e : ℕ) → e < w.d → Permutes n (λ i. behind w i e)
  turns e le = record {
    within = λ i li. (tables.here i e li le).inside;
    distinct = λ a b la lb q. sym (home a e la le) ∙ (ap (λ (x : ℕ). ahead w x e) q ∙ home b e lb le);
  }

  back : (i e : ℕ) → i < n → e < w.d → here i e +ℤ there (behind w i e) e ≡ cond (still i) (pos 0) (gain w k i e +ℤ back_gain w k i e)
  back i e li le =
      ap (λ (x : ℕ). here i e +ℤ cond (still h) (cond (still x) (pos 0) (at x)) (pos 0)) (home i e li le)
      ∙ go (still i) (still h) (gain w k i e) (at i)
    where
      h : ℕ
      h = behind w i e

      at : ℕ → ℤ
      at x = let j = get_or w.couplings (h * w.d + e) (pos 0) in
          j *ℤ shown (w.old h) k *ℤ shown (w.old x) k -ℤ j *ℤ shown (w.new h) k *ℤ shown (w.new x) k

      go : (s t : Bool) (y z : ℤ) → cond s (pos 0) y +ℤ cond t (cond s (pos 0) z) (pos 0) ≡ cond s (pos 0) (y +ℤ cond t z (pos 0))
      go true true y z = refl
      go true false y z = refl
      go false true y z = refl
      go false false y z = refl

  -- each bond that changes is counted once
  pub counted_once : sum n (λ i. sum w.d (λ e. gain w k i e)) ≡ sum n (site_gain w k)
  counted_once =
      twofold_ext n w.d (gain w k) (λ i e. here i e +ℤ there i e) (λ i e li le. once i e)
      ∙ (twofold_add n w.d here there
      ∙ (ap (λ (z : ℤ). twofold n w.d here +ℤ z) (twofold_turned n w.d (behind w) there turns)
      ∙ (sym (twofold_add n w.d here (λ i e. there (behind w i e) e))
      ∙ (twofold_ext n w.d (λ i e. here i e +ℤ there (behind w i e) e) (λ i e. cond (still i) (pos 0) (gain w k i e +ℤ back_gain w k i e)) back
      ∙ sum_ext n (λ i. sum w.d (λ e. cond (still i) (pos 0) (gain w k i e +ℤ back_gain w k i e))) (site_gain w k)
      (λ i li. sum_or w.d (still i) (λ e. gain w k i e +ℤ back_gain w k i e))))))

-- ---- of an energy

sum_neg : (n : ℕ) (f : ℕ → ℤ) → sum n (λ i. neg_ℤ (f i)) ≡ neg_ℤ (sum n f)
unfolding sum
sum_neg zero f = refl
sum_neg (suc n) f = ap (λ (z : ℤ). z +ℤ neg_ℤ (f n)) (sum_neg n f) ∙ sym (neg_ℤ-+ℤ (sum n f) (f n))

twofold_neg : (n d : ℕ) (f : ℕ → ℕ → ℤ) → twofold n d (λ i e. neg_ℤ (f i e)) ≡ neg_ℤ (twofold n d f)
twofold_neg n d f =
    sum_ext n (λ i. sum d (λ e. neg_ℤ (f i e))) (λ i. neg_ℤ (sum d (λ e. f i e))) (λ i li. sum_neg d (f i)) ∙ sum_neg n (λ i. sum d (λ e. f i e))

-- the coupling of the bond (i, e) times the spins of the system t at its ends
abbrev term : Lattice → ℕ → List ℤ → ℕ → ℕ → ℤ
term g t zs i e = get_or g.couplings (bond_of g i e) (pos 0) *ℤ spin g.n zs t i *ℤ spin g.n zs t (ahead_of g i e)

-- a system whose spins are those that the columns show at the place k
pub record Shows (n : ℕ) (cols : ℕ → ℕ) (k : ℕ) (xs : List ℤ) (t : ℕ) : Type 0 where
  pub at : (i : ℕ) → i < n → spin n xs t i ≡ shown (cols i) k

-- the tables of a lattice, and columns before and after
abbrev pub change_in : Lattice → (old new : ℕ → ℕ) → Change
change_in g old new = record { d = g.d; fwd = g.fwd; bwd = g.bwd; couplings = g.couplings; old = old; new = new }

module _ (g : Lattice) (old new : ℕ → ℕ) (k : ℕ) (xs ys : List ℤ) (t : ℕ) (tables : Inverse g.n g.d g.fwd g.bwd)
    (before : Shows g.n old k xs t) (after : Shows g.n new k ys t) where
  bond : (i e : ℕ) → i < g.n → e < g.d → term g t xs i e -ℤ term g t ys i e ≡ gain (change_in g old new) k i e
  bond i e li le =
      let j = get_or g.couplings (bond_of g i e) (pos 0) in
      let f = ahead_of g i e in
      let lf = (tables.there i e li le).inside in
      λ x. j *ℤ before.at i li x *ℤ before.at f lf x -ℤ j *ℤ after.at i li x *ℤ after.at f lf x

  pub energy_change : energy g ys t -ℤ energy g xs t ≡ sum g.n (site_gain (change_in g old new) k)
  energy_change =
      ap (λ (z : ℤ). energy g ys t +ℤ z) (neg_ℤ-neg_ℤ (twofold g.n g.d (term g t xs)))
      ∙ (+ℤ_comm (energy g ys t) (twofold g.n g.d (term g t xs))
      ∙ (ap (λ (z : ℤ). twofold g.n g.d (term g t xs) +ℤ z) (sym (twofold_neg g.n g.d (term g t ys)))
      ∙ (sym (twofold_add g.n g.d (term g t xs) (λ i e. neg_ℤ (term g t ys i e)))
      ∙ (twofold_ext g.n g.d (λ i e. term g t xs i e -ℤ term g t ys i e) (gain (change_in g old new) k) bond
      ∙ counted_once g.n (change_in g old new) k tables))))

-- a system whose spins stay has the energy that it had
pub energy_same :
    (g : Lattice) (xs ys : List ℤ) (t : ℕ) → Inverse g.n g.d g.fwd g.bwd → ((i : ℕ) → i < g.n → spin g.n ys t i ≡ spin g.n xs t i)
    → energy g ys t -ℤ energy g xs t ≡ pos 0
energy_same g xs ys t tables h =
    ap (λ (z : ℤ). neg_ℤ z -ℤ energy g xs t) (twofold_ext g.n g.d (term g t ys) (term g t xs) same) ∙ +ℤ_invr (energy g xs t)
  where
    same : (i e : ℕ) → i < g.n → e < g.d → term g t ys i e ≡ term g t xs i e
    same i e li le =
        let f = ahead_of g i e in
        λ x. get_or g.couplings (bond_of g i e) (pos 0) *ℤ h i li x *ℤ h f (tables.there i e li le).inside x

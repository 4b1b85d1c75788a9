-- What acts, holds, is reached and is written is read from what a move takes alone, and so is every rule.
use Rattle.std.specs.Prelude.{ℕ, zero, suc, ◌/◌, ◌<◌, ◌≡◌, Bool, List, ℤ}
use Rattle.std.proofs.Math.Path.{refl}
use Rattle.std.proofs.Common.{◌∙◌, ap, arith}
use Rattle.std.proofs.Math.Bool.{true, false}
use Rattle.lemmas.specs.Sums.{sum, sum_ext}
use Rattle.paper.specs.declared.Mode.{Mode}
use Rattle.paper.specs.declared.Mode.TheVariants.{Houd, Pair, Perm, Gperm, Jorg, Cmr}
use Rattle.paper.specs.declared.Form.{Form}
use Rattle.paper.specs.declared.Form.TheVariants.{Sw, Wolff, Observe, Grow}
use Rattle.paper.specs.Panel.Input.{Call, Choices, Buffers, Pattern, pattern, spin, size, ahead}
use Rattle.paper.specs.Panel.Takes.{is_perm, is_gperm, is_cmr, one_cluster, draws_bonds, flips_by, takes_cuts, takes_greys}
use Rattle.paper.specs.Site.Acting.{differs, pair_differs, gauge, test_by, acts}
use Rattle.paper.specs.Site.Bonds.{pair_term, strength, coupling_at, kind_at, both_act, holds_by, holds, holds_grey}
use Rattle.paper.specs.Component.Sizes.{label_of}
use Rattle.paper.specs.Move.Moving.{flip_by, act_by, reached_by, reached, after, final}
use Rattle.paper.specs.Refusal.Rules.{Permutes}
use Rattle.paper.specs.Answer.Same.{SameCall, SameChoices}
use Rattle.laws.specs.Choices.{flips_taken, perms_taken}
use Rattle.laws.specs.Local.{Agree, term_ext, act_ext, kind_ext}
use Rattle.laws.specs.Entries.{perm_of, flip_of, reached_moves}
use Rattle.laws.specs.Acting.{test_ext, gauge_ext}

-- ---- the call c with all of a that may differ; the lent buffers d with the spins of b
abbrev pub over : Call → Call → Call
over c a = record {
  mode = c.mode;
  form = c.form;
  lattice = record {
    n = c.lattice.n;
    d = c.lattice.d;
    s = c.lattice.s;
    fwd = c.lattice.fwd;
    bwd = c.lattice.bwd;
    couplings = a.lattice.couplings;
  };
  pins = c.pins;
  group = record { len = c.group.len; systems = a.group.systems };
  temperature = a.temperature;
  cuts = a.cuts;
  reference = a.reference;
  seed = a.seed;
}

pub is_over : {c a : Call} → SameCall c a → a ≡ over c a
is_over {c} {a} h = λ i. record {
  mode = h.mode i;
  form = h.form i;
  lattice = record {
    n = h.panel.n i;
    d = h.panel.d i;
    s = h.panel.s i;
    fwd = h.panel.fwd i;
    bwd = h.panel.bwd i;
    couplings = a.lattice.couplings;
  };
  pins = h.pins i;
  group = record { len = h.members i; systems = a.group.systems };
  temperature = a.temperature;
  cuts = a.cuts;
  reference = a.reference;
  seed = a.seed;
}

abbrev pub onto : Buffers → Buffers → Buffers
onto b d = record {
  spins = b.spins;
  labels = d.labels;
  grey_labels = d.grey_labels;
  counts = d.counts;
  sizes = d.sizes;
  members = d.members;
  found = d.found;
  grey_found = d.grey_found;
}

-- ---- by cases of the mode or the form
none_told : (m : Mode) (u w : Pattern) → test_by m 0 u ≡ test_by m 0 w
unfolding sum differs pair_differs
none_told Houd u w = refl
none_told Pair u w = refl
none_told Perm u w = refl
none_told Gperm u w = refl
none_told Jorg u w = refl
none_told Cmr u w = refl

told : (m : Mode) (s : ℕ) (u w : Pattern) → Agree s u w → test_by m s u ≡ test_by m s w
told m zero u w e = none_told m u w
told m (suc s) u w e = test_ext m (suc s) u w (omega arith) e

seed_in : (f : Form) (m : Mode) (x y : ℕ) (l : List ℕ) (i : ℕ) → (one_cluster f ≡ true → y ≡ x) → reached_by f m y l i ≡ reached_by f m x l i
seed_in Sw m x y l i h = refl
seed_in Wolff m x y l i h = rw (h refl)
seed_in Observe m x y l i h = refl
seed_in Grow m x y l i h = refl

flip_in : (f : Form) (m : Mode) (x y : List ℕ) (r : ℕ) → is_perm m ≡ false → (flips_by m f ≡ true → y ≡ x) → flip_by f y r ≡ flip_by f x r
flip_in Sw m x y r e h = ap (λ (z : List ℕ). flip_by Sw z r) (h (rw e))
flip_in Wolff m x y r e h = refl
flip_in Observe m x y r e h = refl
flip_in Grow m x y r e h = refl

module _ (c a : Call) (p o : Choices) where
  choice_in :
      (m : Mode) (r : ℕ) (P f : Pattern)
      → (is_perm m ≡ false → flip_of c o r ≡ flip_of c p r)
      → (is_perm m ≡ true → o.choices ≡ p.choices)
      → (k : ℕ)
      → act_by m (over c a) o P r f k ≡ act_by m c p P r f k
  choice_in Houd r P f flips perms k = rw (flips refl)
  choice_in Pair r P f flips perms k = rw (flips refl)
  choice_in Perm r P f flips perms k = rw (perms refl)
  choice_in Gperm r P f flips perms k = rw (perms refl)
  choice_in Jorg r P f flips perms k = rw (flips refl)
  choice_in Cmr r P f flips perms k = rw (flips refl)

module _ {c a : Call} (same : SameCall c a) (xs : List ℤ) where
  pub pattern_same : (i : ℕ) → Agree (size c) (pattern (over c a) xs i) (pattern c xs i)
  pattern_same i k h = ap (λ (t : ℕ). spin c.lattice.n xs t i) (same.systems k h)

  reference_same : is_gperm c.mode ≡ true → Agree (size c) (pattern (over c a) xs a.reference) (pattern c xs c.reference)
  reference_same g k h = pattern_same a.reference k h ∙ ap (λ (i : ℕ). pattern c xs i k) (same.reference g)

  pub acts_same : (i : ℕ) → acts (over c a) xs i ≡ acts c xs i
  unfolding acts
  acts_same i =
      told c.mode (size c) (gauge c.mode (pattern (over c a) xs a.reference) (pattern (over c a) xs i))
      (gauge c.mode (pattern c xs c.reference) (pattern c xs i))
      (λ k h.
      gauge_ext c.mode (pattern (over c a) xs a.reference) (pattern c xs c.reference) (pattern (over c a) xs i) (pattern c xs i) k
      (λ g. reference_same g k h) (pattern_same i k h))

  both_same : (i e : ℕ) → both_act (over c a) xs i e ≡ both_act c xs i e
  both_same i e = cc (acts_same i, acts_same (ahead c i e))

  coupling_same : takes_cuts c ≡ true → (i e : ℕ) → coupling_at (over c a) i e ≡ coupling_at c i e
  coupling_same t i e = rw (same.panel.couplings t)

  -- the strength of a Jörg bond
  abbrev strength_at : Call → ℕ → ℕ → ℤ
  strength_at z i e = strength (coupling_at z i e) (size z) (pattern z xs i) (pattern z xs (ahead z i e))

  strength_same : takes_cuts c ≡ true → (i e : ℕ) → strength_at (over c a) i e ≡ strength_at c i e
  strength_same t i e = cc (coupling_same t i e, sum_ext (size c / 2) _ _ terms)
    where
      terms :
          (x : ℕ)
          → x < size c / 2
          → pair_term (pattern (over c a) xs i) (pattern (over c a) xs (ahead c i e)) x ≡ pair_term (pattern c xs i) (pattern c xs (ahead c i e)) x
      terms = term_ext (size c) _ _ _ _ (pattern_same i) (pattern_same (ahead c i e))

  module _ (two : is_cmr c.mode ≡ true → size c ≡ 2) where
    kind_same : takes_cuts c ≡ true → is_cmr c.mode ≡ true → (i e : ℕ) → kind_at (over c a) xs i e ≡ kind_at c xs i e
    kind_same t q i e =
        rw (coupling_same t i e)
        (kind_ext (coupling_at c i e) (pattern (over c a) xs i) (pattern (over c a) xs (ahead c i e)) (pattern c xs i) (pattern c xs (ahead c i e))
        (λ k l. pattern_same i k (omega (arith, two q))) (λ k l. pattern_same (ahead c i e) k (omega (arith, two q))))

    holds_in :
        (m : Mode)
        → (draws_bonds m ≡ true → takes_cuts c ≡ true)
        → (is_cmr m ≡ true → is_cmr c.mode ≡ true)
        → (i e : ℕ)
        → holds_by m (over c a) xs i e ≡ holds_by m c xs i e
    holds_in Houd t q i e = both_same i e
    holds_in Pair t q i e = both_same i e
    holds_in Perm t q i e = both_same i e
    holds_in Gperm t q i e = both_same i e
    holds_in Jorg t q i e = cc (both_same i e, strength_same (t refl) i e, same.temperature (t refl), same.cuts (t refl))
    holds_in Cmr t q i e = cc (kind_same (t refl) (q refl) i e, same.temperature (t refl), same.cuts (t refl))

    pub holds_same : (i e : ℕ) → holds (over c a) xs i e ≡ holds c xs i e
    unfolding holds
    holds_same i e = holds_in c.mode (λ t. t) (λ q. q) i e

    pub grey_same : takes_cuts c ≡ true → is_cmr c.mode ≡ true → (i e : ℕ) → holds_grey (over c a) xs i e ≡ holds_grey c xs i e
    unfolding holds_grey
    grey_same t q i e = cc (kind_same t q i e, same.temperature t, same.cuts t)

  pub reached_same : (l : List ℕ) (i : ℕ) → reached (over c a) xs l i ≡ reached c xs l i
  unfolding reached
  reached_same l i = cc (acts_same i, seed_in c.form c.mode c.seed a.seed l i same.seed)

  module _ {p o : Choices} (chosen : SameChoices c p o) where
    after_same :
        (l : List ℕ) (i k : ℕ)
        → k < size c
        → (reached c xs l i ≡ true → is_perm c.mode ≡ true → Permutes (size c) (perm_of c p (label_of l i)))
        → after (over c a) o xs l i k ≡ after c p xs l i k
    after_same l i k hk perms = go (reached c xs l i) refl
      where
        go : (t : Bool) → reached c xs l i ≡ t → after (over c a) o xs l i k ≡ after c p xs l i k
        go true e =
            rw (reached_same l i, e)
            (choice_in c a p o c.mode (label_of l i) (pattern (over c a) xs a.reference) (pattern (over c a) xs i)
            (λ q. flip_in c.form c.mode p.choices o.choices (label_of l i) q (λ t. chosen.choices (flips_taken c.mode c.form t)))
            (λ q. chosen.choices (perms_taken c.mode c.form (rw (reached_moves c xs l i e, q)))) k
            ∙ act_ext c.mode c p (label_of l i) (pattern (over c a) xs a.reference) (pattern c xs c.reference) (pattern (over c a) xs i)
            (pattern c xs i) (perms e) reference_same (pattern_same i) k hk)
        go false e = rw (reached_same l i, e) (pattern_same i k hk)

    -- grey labels are read where they are taken
    pub final_same :
        (l g g' : List ℕ) (i k : ℕ)
        → (takes_greys c ≡ true → g' ≡ g)
        → k < size c
        → (reached c xs l i ≡ true → is_perm c.mode ≡ true → Permutes (size c) (perm_of c p (label_of l i)))
        → final (over c a) o xs l g' i k ≡ final c p xs l g i k
    unfolding final
    final_same l g g' i k same-grey hk perms = go (takes_greys c) refl
      where
        go : (t : Bool) → takes_greys c ≡ t → final (over c a) o xs l g' i k ≡ final c p xs l g i k
        go true e = cc (same-grey e, reached_same g i, chosen.greys e, after_same l i k hk perms)
        go false e = rw e (after_same l i k hk perms)

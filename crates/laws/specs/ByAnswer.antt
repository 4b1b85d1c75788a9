-- Answers by computing a test, for worked examples.
use Rattle.std.specs.Prelude.{ℕ, zero, suc, ◌+◌, ◌*◌, ◌≤◌, ◌<◌, ◌≡◌, refl, ◌⊎◌, Bool, true, false, not, ◌&&◌, List, length, get_or, ℤ, pos}
use Rattle.std.proofs.Common.{sym, ◌∙◌, ap, subst, inl, inr, arith, mul-le-mul_right, ext_get_or}
use Rattle.std.proofs.Math.Decide.{dec_lt}
use Rattle.std.proofs.Math.ListN.{get_or-eq_default}
use Rattle.paper.specs.Answer.Cases.{Answer.Idle, Answer.Held, Answer.Moved}
use Rattle.paper.specs.Panel.Input.{Graph, leads_to, graph, Call, Choices, Buffers, spin, pattern, size, system}
use Rattle.paper.specs.Panel.Takes.{one_cluster, labels_by, takes_greys}
use Rattle.paper.specs.Site.Acting.{acts, NoneActs}
use Rattle.paper.specs.Site.Bonds.{holds, holds_grey}
use Rattle.lemmas.specs.Bools.{never, and_left, and_right}
use Rattle.lemmas.specs.Counts.{count_where}
use Rattle.lemmas.specs.Places.{Placed}
use Rattle.paper.specs.Component.Links.{Linked.stay, Linked.along, Linked.against, trans, back}
use Rattle.paper.specs.Component.Labels.{Bond, Joined, Numbered}
use Rattle.paper.specs.Component.Sizes.{label_of, is_first, of_size, at_least, Counted, Rank, Largest}
use Rattle.paper.specs.Move.Moving.{held, final, Moves}
use Rattle.paper.specs.Refusal.Rule.{Kept}
use Rattle.paper.specs.Refusal.Rules.{When, rules}
use Rattle.paper.specs.Refusal.Kept.{valid_of}
use Rattle.paper.specs.Refusal.Verdict.{Verdict}
use Rattle.paper.specs.Answer.Move.{Seen, SeedHeld, Answers}
use Rattle.laws.specs.Forms.{forms_apart}
use Rattle.laws.specs.Numbering.{first_one, first_of, count_rises, nth}
use Rattle.laws.specs.Unique.{OthersOf}
use Rattle.laws.specs.Holding.{held_labels}
use Rattle.laws.specs.Decided.{Decided, denies, le, lt, eq, same, is, iff, both, either, implies, when, all, some}
use Rattle.laws.specs.Verdicts.{some_acts, refusal_of, verdict}

-- ---- labels, by a parent for each site: itself where the site is the first with its label, or a smaller site with the same label and a bond between
-- the two
abbrev pub HopsTo : Graph → (ℕ → ℕ → Bool) → ℕ → ℕ → Type 0
HopsTo t holding i j = (e : ℕ) × (e < t.d) × ((holding i e ≡ true) × (leads_to t i e ≡ j))

abbrev pub Rooted : Graph → (ℕ → ℕ → Bool) → List ℕ → ℕ → ℕ → Type 0
Rooted t holding l i j = (is_first l i ≡ true) ⊎ ((j < i) × ((label_of l j ≡ label_of l i) × (HopsTo t holding i j ⊎ HopsTo t holding j i)))

-- firsts have the numbers from 0 up, in their order
pub record Forest (t : Graph) (holding : ℕ → ℕ → Bool) (parents l found : List ℕ) : Type 0 where
  pub long : length l ≡ t.n
  pub one : length found ≡ 1
  pub rank : (i : ℕ) → i < t.n → is_first l i ≡ true → label_of l i ≡ count_where (is_first l) i
  pub all : get_or found 0 0 ≡ count_where (is_first l) t.n
  pub alike : (i : ℕ) → i < t.n → (e : ℕ) → e < t.d → holding i e ≡ true → label_of l i ≡ label_of l (leads_to t i e)
  pub rooted : (i : ℕ) → i < t.n → Rooted t holding l i (get_or parents i 0)

abbrev pub hops : (t : Graph) (holding : ℕ → ℕ → Bool) (i j : ℕ) → Decided (HopsTo t holding i j)
hops t holding i j = some t.d (λ e. both (is (holding i e)) (eq (leads_to t i e) j))

abbrev pub forest : (t : Graph) (holding : ℕ → ℕ → Bool) (parents l found : List ℕ) → Decided (Forest t holding parents l found)
forest t holding parents l found =
    iff (λ (a, (b, (c, (d, (e, f))))). record { long = a; one = b; rank = c; all = d; alike = e; rooted = f })
    (λ r. (r.long, (r.one, (r.rank, (r.all, (r.alike, r.rooted))))))
    (both (eq (length l) t.n)
    (both (eq (length found) 1)
    (both (all t.n (λ i. implies (is (is_first l i)) (eq (label_of l i) (count_where (is_first l) i))))
    (both (eq (get_or found 0 0) (count_where (is_first l) t.n))
    (both (all t.n (λ i. all t.d (λ e. implies (is (holding i e)) (eq (label_of l i) (label_of l (leads_to t i e))))))
    (all t.n (λ i. let j = get_or parents i 0 in
    either (is (is_first l i))
    (both (lt j i) (both (eq (label_of l j) (label_of l i)) (either (hops t holding i j) (hops t holding j i)))))))))))

module _ {t : Graph} {holding : ℕ → ℕ → Bool} {parents l found : List ℕ} (f : Forest t holding parents l found) where
  bond : {i j : ℕ} → i < t.n → HopsTo t holding i j → Bond t holding i j
  bond h e = record { site = h; dir = e.0; dir_lt = e.1; on = e.2.0; leads = e.2.1 }

  -- each site is joined to the first with its label
  abbrev ToFirst : ℕ → Type 0
  ToFirst i = (r : ℕ) → is_first l r ≡ true → label_of l r ≡ label_of l i → Joined t holding i r

  up : (i j : ℕ) → i < t.n → (j < i → ToFirst j) → Rooted t holding l i j → ToFirst i
  up i j h ih (inl e) r first same = rw (first_one l r i first e same) stay
  up i j h ih (inr (less, (alike, inl e))) r first same = along (bond h e) (ih less r first (same ∙ sym alike))
  up i j h ih (inr (less, (alike, inr e))) r first same = against (bond (omega arith) e) (ih less r first (same ∙ sym alike))

  to_first : (m i : ℕ) → i < m → i < t.n → ToFirst i
  to_first zero i h hi = absurd (omega arith)
  to_first (suc m) i h hi = up i (get_or parents i 0) hi (λ less. to_first m (get_or parents i 0) (omega arith) (omega arith)) (f.rooted i hi)

  step : {i j : ℕ} → Bond t holding i j → label_of l i ≡ label_of l j
  step {i} e = f.alike i e.site e.dir e.dir_lt e.on ∙ ap (label_of l) e.leads

  one : {i j : ℕ} → Joined t holding i j → label_of l i ≡ label_of l j
  one stay = refl
  one (along e r) = step e ∙ one r
  one (against e r) = sym (step e) ∙ one r

  joined : (i j : ℕ) → i < t.n → j < t.n → label_of l i ≡ label_of l j → Joined t holding i j
  joined i j hi hj e =
      let r = first_of l i in
      trans (to_first (suc i) i (omega arith) hi r.at r.is r.same)
      (back (to_first (suc j) j (omega arith) hj r.at r.is (r.same ∙ e)))

  below : (i : ℕ) → i < t.n → label_of l i < get_or found 0 0
  below i hi =
      let r = first_of l i in
      let h : r.at < t.n = omega (arith, r.low) in
      omega (arith, r.same, f.rank r.at h r.is, count_rises (is_first l) r.at t.n h r.is, f.all)

  used : (r : ℕ) → r < get_or found 0 0 → Placed t.n (label_of l) r
  used r h =
      let w = nth (is_first l) t.n r (rw f.all at h) in
      (w.at, w.below, sym (f.rank w.at w.below w.passes ∙ w.before))

  rising : (i j : ℕ) → i < j → j < t.n → is_first l i ≡ true → is_first l j ≡ true → label_of l i < label_of l j
  rising i j less hj a b = rw (f.rank i (omega arith) a, f.rank j hj b) (count_rises (is_first l) i j less a)

  pub labels_by_lem : Numbered t holding l found
  labels_by_lem = record {
    labels = record { long = f.long; joined = joined; same = λ i j hi hj w. one w; below = below; used = used; rising = rising };
    one = f.one;
  }

-- ---- counts and sizes
abbrev pub counted : (mark : ℕ → Bool) (l counts : List ℕ) → Decided (Counted mark l counts)
counted mark l counts =
    iff (λ (a, (b, c)). record { long = a; zeroth = b; each = λ s h. c s (omega arith) }) (λ r. (r.long, (r.zeroth, λ s h. r.each s (omega arith))))
    (both (eq (length counts) (length l + 1)) (both (eq (get_or counts 0 0) 0) (all (length l + 1) (λ s. eq (get_or counts s 0) (of_size mark l s)))))

abbrev pub rank : (mark : ℕ → Bool) (l : List ℕ) (t a : ℕ) → Decided (Rank mark l t a)
rank mark l t a =
    iff (λ (b, c). record { larger = b; reached = c }) (λ r. (r.larger, r.reached))
    (both (le (at_least mark l (a + 1)) t) (either (eq a 0) (lt t (at_least mark l a))))

abbrev pub largest : (mark : ℕ → Bool) (l sizes : List ℕ) → Decided (Largest mark l sizes)
largest mark l sizes =
    iff (λ (a, b). record { long = a; each = b }) (λ r. (r.long, r.each))
    (both (eq (length sizes) 4) (all 4 (λ t. rank mark l t (get_or sizes t 0))))

abbrev pub alike : (xs ys : List ℕ) → Decided (xs ≡ ys)
alike xs ys =
    iff (λ (a, b). ext_get_or 0 xs ys a b) (λ e. (ap length e, λ i h. ap (λ (z : List ℕ). get_or z i 0) e))
    (both (eq (length xs) (length ys)) (all (length xs) (λ i. eq (get_or xs i 0) (get_or ys i 0))))

-- ---- the answer of a form that labels: what is computed of it, with the parents of each site in its component and in its grey component
abbrev pub Untouched : Call → List ℤ → List ℤ → ℕ → Type 0
Untouched c xs ys t = (i : ℕ) → i < c.lattice.n → spin c.lattice.n ys t i ≡ spin c.lattice.n xs t i

abbrev pub InGroup : Call → ℕ → Type 0
InGroup c t = (k : ℕ) × (k < size c) × (t ≡ system c k)

-- all but the verdict
pub record Shown (c : Call) (p : Choices) (b b' : Buffers) (blue grey : List ℕ) : Type 0 where
  pub labelled : labels_by c.form ≡ true
  pub sized : length b.spins ≡ c.lattice.s * c.lattice.n
  pub long : length b'.spins ≡ length b.spins
  pub group :
      (i : ℕ)
      → i < c.lattice.n
      → (k : ℕ)
      → k < size c
      → pattern c b'.spins i k ≡ final c p b.spins b'.labels b'.grey_labels i k
  pub others : (t : ℕ) → t < c.lattice.s → InGroup c t ⊎ Untouched c b.spins b'.spins t
  pub labels : Forest (graph c) (holds c b.spins) blue b'.labels b'.found
  pub grey_labels : When (takes_greys c) (Forest (graph c) (holds_grey c b.spins) grey b'.grey_labels b'.grey_found)
  pub counts : Counted (acts c b.spins) b'.labels b'.counts
  pub sizes : Largest (acts c b.spins) b'.labels b'.sizes
  pub members : b'.members ≡ b.members

abbrev pub shown : (c : Call) (p : Choices) (b b' : Buffers) (blue grey : List ℕ) → Decided (Shown c p b b' blue grey)
shown c p b b' blue grey =
    iff
    (λ (x0, (x1, (x2, (x3, (x4, (x5, (x6, (x7, (x8, x9))))))))). record {
      labelled = x0;
      sized = x1;
      long = x2;
      group = x3;
      others = x4;
      labels = x5;
      grey_labels = x6;
      counts = x7;
      sizes = x8;
      members = x9;
    })
    (λ r. (
      r.labelled,
      (r.sized, (r.long, (r.group, (r.others, (r.labels, (r.grey_labels, (r.counts, (r.sizes, r.members)))))))),
    ))
    (both (is (labels_by c.form))
    (both (eq (length b.spins) (c.lattice.s * c.lattice.n))
    (both (eq (length b'.spins) (length b.spins))
    (both (all c.lattice.n (λ i. all (size c) (λ k. same (pattern c b'.spins i k) (final c p b.spins b'.labels b'.grey_labels i k))))
    (both (all c.lattice.s (λ t.
    either (some (size c) (λ k. eq t (system c k)))
    (all c.lattice.n (λ i. same (spin c.lattice.n b'.spins t i) (spin c.lattice.n b.spins t i)))))
    (both (forest (graph c) (holds c b.spins) blue b'.labels b'.found)
    (both (when (takes_greys c) (forest (graph c) (holds_grey c b.spins) grey b'.grey_labels b'.grey_found))
    (both (counted (acts c b.spins) b'.labels b'.counts)
    (both (largest (acts c b.spins) b'.labels b'.sizes)
    (alike b'.members b.members))))))))))

module _ (c : Call) (p : Choices) (b b' : Buffers) (blue grey : List ℕ) (w : Shown c p b b' blue grey) where
  others : OthersOf c b.spins b'.spins
  others i t hi out = go (dec_lt t c.lattice.s)
    where
      at : InGroup c t ⊎ Untouched c b.spins b'.spins t → spin c.lattice.n b'.spins t i ≡ spin c.lattice.n b.spins t i
      at (inl r) = absurd (out r.0 r.1 r.2)
      at (inr r) = r i hi

      beyond : c.lattice.s ≤ t → length b.spins ≤ t * c.lattice.n + i
      beyond h = omega (arith, w.sized, mul-le-mul_right c.lattice.n h)

      go : Dec (t < c.lattice.s) → spin c.lattice.n b'.spins t i ≡ spin c.lattice.n b.spins t i
      go (yes h) = at (w.others t h)
      go (no h) =
          let far = beyond (omega arith) in
          get_or-eq_default b'.spins (pos 0) (omega (arith, far, w.long)) ∙ sym (get_or-eq_default b.spins (pos 0) far)

  -- what moves, whatever the verdict is
  pub moves_by : Moves c p b.spins b'.labels b'.grey_labels b'.spins
  moves_by = record { long = w.long; group = λ i k hi hk. w.group i hi k hk; others = others }

  pub numbered_by : Numbered (graph c) (holds c b.spins) b'.labels b'.found
  numbered_by = labels_by_lem w.labels

-- and that the call is accepted
abbrev pub worked : (c : Call) (p : Choices) (b b' : Buffers) (blue grey : List ℕ) → Decided ((refusal_of c p b ≡ 0) × Shown c p b b' blue grey)
worked c p b b' blue grey = both (eq (refusal_of c p b) 0) (shown c p b b' blue grey)

module _
    (c : Call) (p : Choices) (b b' : Buffers) (blue grey : List ℕ)
    (test : (worked c p b b' blue grey).test ≡ true)
    (grey_kept : takes_greys c ≡ false → (b'.grey_labels ≡ b.grey_labels) × (b'.grey_found ≡ b.grey_found))
  where
    w : Shown c p b b' blue grey
    w = ((worked c p b b' blue grey).holds test).1

    kept : Kept (rules c p b)
    kept = subst (Verdict (rules c p b)) ((worked c p b b' blue grey).holds test).0 (verdict c p b)

    seen : Seen c b b'
    seen = record {
      all = λ _. record {
        labels = labels_by_lem w.labels;
        grey_labels = λ t. labels_by_lem (w.grey_labels t);
        grey_kept = λ t. (grey_kept t).0;
        grey_found_kept = λ t. (grey_kept t).1;
        counts = w.counts;
        sizes = w.sizes;
        members_kept = w.members;
      };
      one = forms_apart c.form w.labelled;
    }

    seed_lt : one_cluster c.form ≡ true → c.seed < c.lattice.n
    seed_lt t = (valid_of c p b kept).fit.seeded.below t

    -- the form moves one component, and that is held
    abbrev held_seed : Bool
    held_seed = one_cluster c.form && held c b'.labels c.seed

    pub goes_by : ((some_acts c b.spins).test && not held_seed) ≡ true → Answers c p b Moved b'
    goes_by e = record {
      valid = kept;
      some = (some_acts c b.spins).holds (and_left (some_acts c b.spins).test _ e);
      free = free;
      moved = λ _. moves_by c p b b' blue grey w;
      turned = forms_apart c.form w.labelled;
      seen = seen;
    }
      where
        free : one_cluster c.form ≡ true → SeedHeld c b.spins → ⊥
        free one h =
            let on = (held_labels c b.spins (seed_lt one) b'.labels (labels_by_lem w.labels).labels).1 h in
            never (rw (one, on) at (and_right (some_acts c b.spins).test (not held_seed) e))

    pub stays_by : ((some_acts c b.spins).test && held_seed) ≡ true → b'.spins ≡ b.spins → Answers c p b Held b'
    stays_by e still = record {
      valid = kept;
      some = (some_acts c b.spins).holds (and_left (some_acts c b.spins).test _ e);
      one = one;
      held = (held_labels c b.spins (seed_lt one) b'.labels (labels_by_lem w.labels).labels).0 (and_right (one_cluster c.form) _ both);
      still = still;
      seen = seen;
    }
      where
        both : held_seed ≡ true
        both = and_right (some_acts c b.spins).test held_seed e

        one : one_cluster c.form ≡ true
        one = and_left (one_cluster c.form) _ both

    pub rests_by : (some_acts c b.spins).test ≡ false → b'.spins ≡ b.spins → Answers c p b Idle b'
    rests_by e still = record { valid = kept; none = none; still = still; seen = seen }
      where
        none : NoneActs c b.spins
        none i h = off (acts c b.spins i) refl
          where
            off : (t : Bool) → acts c b.spins i ≡ t → acts c b.spins i ≡ false
            off false q = q
            off true q = absurd (denies (some_acts c b.spins) e (record { site = i; below = h; does = q }))

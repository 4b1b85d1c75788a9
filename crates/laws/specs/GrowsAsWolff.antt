-- What grows is what Wolff moves: the two forms have the same answer and the same spins, and the members are the sites with the seed's label.
use Rattle.std.specs.Prelude.{ℕ, ◌+◌, ◌<◌, ◌≡◌, ◌↔◌, Bool, not, cond, ◌&&◌, List, length, get_or, ℤ}
use Rattle.std.proofs.Math.Path.{refl}
use Rattle.std.proofs.Common.{sym, ◌∙◌, ap, subst, eq-eqb, ne_eqb, eqb-true}
use Rattle.std.proofs.Math.Bool.{true, false}
use Rattle.std.proofs.Math.Decide.{ℕ_discrete}
use Rattle.std.proofs.Math.Dec.{eqb}
use Rattle.lemmas.specs.Bools.{never}
use Rattle.paper.specs.declared.Mode.{Mode}
use Rattle.paper.specs.declared.Mode.TheVariants.{Houd, Pair, Perm, Gperm, Jorg, Cmr}
use Rattle.paper.specs.declared.Form.{Form}
use Rattle.paper.specs.declared.Form.TheVariants.{Wolff, Grow}
use Rattle.paper.specs.Answer.Cases.{Answer, Answer.Refused, Answer.Idle, Answer.Held, Answer.Moved}
use Rattle.paper.specs.Panel.Input.{Graph, graph, Call, Choices, Buffers, Pattern, pinned, pattern}
use Rattle.paper.specs.Panel.Takes.{is_cmr}
use Rattle.paper.specs.Site.Acting.{acts, SomeActs}
use Rattle.paper.specs.Site.Bonds.{holds_by, holds, holds_grey}
use Rattle.paper.specs.Component.Links.{back}
use Rattle.paper.specs.Component.Labels.{Labels}
use Rattle.paper.specs.Component.Members.{Members}
use Rattle.paper.specs.Component.Sizes.{label_of}
use Rattle.paper.specs.Move.Moving.{act_by, has_one, held, reached, after, final}
use Rattle.paper.specs.Refusal.Rule.{Kept, Broken, broken_unique, broken_not_kept}
use Rattle.paper.specs.Refusal.Rules.{When, Exact, Chosen, Seeded, choice_rules, rules}
use Rattle.paper.specs.Refusal.Kept.{Valid, valid_of}
use Rattle.paper.specs.Answer.Move.{member_bonds, SeenAll, SeenOne, SeedHeld, Turns, Goes, Answers}
use Rattle.laws.specs.Unique.{HoldAlike, same_label, joined_ext, members_ext, spins_equal}
use Rattle.laws.specs.Holding.{one_ext}
use Rattle.laws.specs.Determined.{buffers_equal, not_both}
use Rattle.laws.specs.Matched.{Matched, matched_kept, matched_broken, itself}
use Rattle.laws.specs.Counting.{idle_members}
use Rattle.laws.specs.Untaken.{onto}

-- the call in another form
abbrev pub with_form : Form → Call → Call
with_form f c = record {
  mode = c.mode;
  form = f;
  lattice = c.lattice;
  pins = c.pins;
  group = c.group;
  temperature = c.temperature;
  cuts = c.cuts;
  reference = c.reference;
  seed = c.seed;
}

-- the same spins are lent to Wolff's call with b and to the call that grows with d, and each one's own outputs have their exact lengths
pub record OwnOutputs (c : Call) (b d : Buffers) : Type 0 where
  pub spins : d.spins ≡ b.spins
  pub labels : length b.labels ≡ c.lattice.n
  pub grey_labels : When (is_cmr c.mode) (length b.grey_labels ≡ c.lattice.n)
  pub counts : length b.counts ≡ c.lattice.n + 1
  pub sizes : length b.sizes ≡ 4
  pub members : length d.members ≡ c.lattice.n
  pub found : length b.found ≡ 1
  pub grey_found : When (is_cmr c.mode) (length b.grey_found ≡ 1)

-- the labels that tell the members
abbrev pub member_labels : Call → Buffers → List ℕ
member_labels c b = cond (is_cmr c.mode) b.grey_labels b.labels

-- what the members then are. A refusal writes nothing
abbrev pub MembersBy : Answer → Call → Buffers → Buffers → Type 0
MembersBy (Refused r) c b' d' = Unit {0}
MembersBy Idle c b' d' = (i : ℕ) → i < c.lattice.n → get_or d'.members i 0 ≡ 0
MembersBy Held c b' d' =
    (i : ℕ) → i < c.lattice.n → (get_or d'.members i 0 ≡ 1) ↔ (label_of (member_labels c b') i ≡ label_of (member_labels c b') c.seed)
MembersBy Moved c b' d' =
    (i : ℕ) → i < c.lattice.n → (get_or d'.members i 0 ≡ 1) ↔ (label_of (member_labels c b') i ≡ label_of (member_labels c b') c.seed)

-- Wolff answers a and leaves b'; the call that grows answers a' and leaves d'
pub record GrowsAs (c : Call) (a : Answer) (b' : Buffers) (a' : Answer) (d' : Buffers) : Type 0 where
  pub answer : a' ≡ a
  pub spins : d'.spins ≡ b'.spins
  pub members : MembersBy a c b' d'

-- ---- labels and members of one component
member_label :
    (t : Graph) (holding : ℕ → ℕ → Bool) (seed : ℕ) {found : ℕ} (l m : List ℕ)
    → seed < t.n
    → Labels t holding l found
    → Members t holding seed m
    → (i : ℕ)
    → i < t.n
    → (get_or m i 0 ≡ 1) ↔ (label_of l i ≡ label_of l seed)
member_label t holding seed l m hs w v i hi =
    let same = same_label t holding l w i seed hi hs in
    ((λ e. same.1 (back (v.joined i hi e))), (λ e. v.marked i hi (back (same.0 e))))

tests_same : (a b x y : ℕ) → (a ≡ b) ↔ (x ≡ y) → eqb x y ≡ eqb a b
tests_same a b x y f = go (ℕ_discrete a b)
  where
    go : Dec (a ≡ b) → eqb x y ≡ eqb a b
    go (yes e) = eq-eqb x y (f.0 e) ∙ sym (eq-eqb a b e)
    go (no e) = ne_eqb x y (λ q. e (f.1 q)) ∙ sym (ne_eqb a b e)

module _ (c : Call) where
  abbrev wolff : Call
  wolff = with_form Wolff c

  abbrev grow : Call
  grow = with_form Grow c

  -- ---- what the form does not change
  module _ (xs : List ℤ) where
    acts_same : (i : ℕ) → acts wolff xs i ≡ acts grow xs i
    unfolding acts
    acts_same i = refl

    holds_in : (m : Mode) (i e : ℕ) → holds_by m grow xs i e ≡ holds_by m wolff xs i e
    unfolding acts
    holds_in Houd i e = refl
    holds_in Pair i e = refl
    holds_in Perm i e = refl
    holds_in Gperm i e = refl
    holds_in Jorg i e = refl
    holds_in Cmr i e = refl

    holds_same : HoldAlike (graph c) (holds grow xs) (holds wolff xs)
    unfolding holds
    holds_same i e hi he = holds_in c.mode i e

    grey_same : HoldAlike (graph c) (holds_grey grow xs) (holds_grey wolff xs)
    unfolding holds_grey
    grey_same i e hi he = refl

    some_there : SomeActs wolff xs → SomeActs grow xs
    some_there q = record { site = q.site; below = q.below; does = sym (acts_same q.site) ∙ q.does }

    some_back : SomeActs grow xs → SomeActs wolff xs
    some_back q = record { site = q.site; below = q.below; does = acts_same q.site ∙ q.does }

    -- the seed's component is held for both
    held_there : SeedHeld wolff xs → SeedHeld grow xs
    held_there h = record {
      site = h.site;
      below = h.below;
      pin = h.pin;
      joined = joined_ext (graph c) (holds wolff xs) (holds grow xs) (λ i e hi he. sym (holds_same i e hi he)) h.joined;
    }

    held_back : SeedHeld grow xs → SeedHeld wolff xs
    held_back h = record {
      site = h.site;
      below = h.below;
      pin = h.pin;
      joined = joined_ext (graph c) (holds grow xs) (holds wolff xs) holds_same h.joined;
    }

    -- the list m has a 1 where the list l has the seed's label: they tell the same component, and so whether it is held
    reached_same :
        (l m : List ℕ)
        → length l ≡ c.lattice.n
        → length m ≡ c.lattice.n
        → ((i : ℕ) → i < c.lattice.n → (get_or m i 0 ≡ 1) ↔ (label_of l i ≡ label_of l c.seed))
        → (i : ℕ)
        → i < c.lattice.n
        → reached wolff xs l i ≡ reached grow xs m i
    unfolding reached
    reached_same l m ll lm e i h = cc (acts_same i, go (eqb (get_or m i 0) 1) refl)
      where
        same : (j : ℕ) → j < c.lattice.n → eqb (label_of l j) (label_of l c.seed) ≡ eqb (get_or m j 0) 1
        same j hj = tests_same (get_or m j 0) 1 (label_of l j) (label_of l c.seed) (e j hj)

        one : has_one (pinned c) l (label_of l c.seed) ≡ has_one (pinned c) m 1
        one = one_ext (pinned c) l m (label_of l c.seed) 1 (ll ∙ sym lm) (λ j hj. same j (rw ll at hj))

        go :
            (t : Bool)
            → eqb (get_or m i 0) 1 ≡ t
            → (eqb (label_of l i) (label_of l c.seed) && not (held wolff l i)) ≡ (eqb (label_of m i) 1 && not (held grow m i))
        go true q =
            let at : get_or m i 0 ≡ 1 = eqb-true _ _ q in
            rw (same i h, q, (e i h).0 at, at, one) refl
        go false q = rw (same i h, q) refl

  act_same : (m : Mode) (p : Choices) (P f : Pattern) (r r' k : ℕ) → act_by m grow p P r' f k ≡ act_by m wolff p P r f k
  act_same Houd p P f r r' k = refl
  act_same Pair p P f r r' k = refl
  act_same Perm p P f r r' k = refl
  act_same Gperm p P f r r' k = refl
  act_same Jorg p P f r r' k = refl
  act_same Cmr p P f r r' k = refl

  -- ---- the rules
  module _ (p : Choices) (b d : Buffers) (own : OwnOutputs c b d) where
    exact_same : Exact wolff p b ↔ Exact grow p (onto b d)
    exact_same = (
      (λ h. record {
        spins = h.spins;
        fwd = h.fwd;
        bwd = h.bwd;
        pins = h.pins;
        couplings = h.couplings;
        cuts = h.cuts;
        choices = h.choices;
        greys = h.greys;
        labels = λ t. never t;
        grey_labels = λ t. never t;
        counts = λ t. never t;
        sizes = λ t. never t;
        members = λ _. own.members;
        found = λ t. never t;
        grey_found = λ t. never t;
      }),
      (λ h. record {
        spins = h.spins;
        fwd = h.fwd;
        bwd = h.bwd;
        pins = h.pins;
        couplings = h.couplings;
        cuts = h.cuts;
        choices = h.choices;
        greys = h.greys;
        labels = λ _. own.labels;
        grey_labels = own.grey_labels;
        counts = λ _. own.counts;
        sizes = λ _. own.sizes;
        members = λ t. never t;
        found = λ _. own.found;
        grey_found = own.grey_found;
      }),
    )

    chosen_there : Chosen wolff p → Chosen grow p
    chosen_there h = record {
      perms = h.perms;
      not_identity_lem = h.not_identity_lem;
      flips = h.flips;
      greys = h.greys;
      grey_some = h.grey_some;
      reference = h.reference;
    }

    chosen_back : Chosen grow p → Chosen wolff p
    chosen_back h = record {
      perms = h.perms;
      not_identity_lem = h.not_identity_lem;
      flips = h.flips;
      greys = h.greys;
      grey_some = h.grey_some;
      reference = h.reference;
    }

    seeded_same : (xs : List ℤ) → Seeded wolff xs ↔ Seeded grow xs
    seeded_same xs = (
      (λ h. record { below = h.below; acting = λ t q. sym (acts_same xs c.seed) ∙ h.acting t (some_back xs q) }),
      (λ h. record { below = h.below; acting = λ t q. acts_same xs c.seed ∙ h.acting t (some_there xs q) }),
    )

    rules_same : Matched (rules wolff p b) (rules grow p (onto b d))
    rules_same =
        let choices : Matched (choice_rules wolff p b.spins) (choice_rules grow p b.spins) =
        (refl, itself, (refl, (chosen_there, chosen_back), (refl, seeded_same b.spins, tt))) in
        (refl, itself, (refl, itself, (refl, exact_same, (refl, itself, (refl, itself, (refl, itself, (refl, itself, (refl, itself, (refl, itself, choices)))))))))

    abbrev xs : List ℤ
    xs = b.spins

    seed_lt : Valid wolff p b → c.seed < c.lattice.n
    seed_lt valid = valid.fit.seeded.below refl

    -- ---- what is seen: the seed's component
    module _ (b' d' : Buffers) (valid : Valid wolff p b) (some : SomeActs wolff b.spins) (all : SeenAll wolff b b') (one : SeenOne grow (onto b d) d') where
      members : Members (graph c) (member_bonds grow xs) c.seed d'.members
      members = one.members (sym (acts_same xs c.seed) ∙ valid.fit.seeded.acting refl some)

      -- by the bonds that hold and in CMR by the grey ones
      grey_label :
          is_cmr c.mode ≡ true
          → (i : ℕ)
          → i < c.lattice.n
          → (get_or d'.members i 0 ≡ 1) ↔ (label_of b'.grey_labels i ≡ label_of b'.grey_labels c.seed)
      grey_label q =
          member_label (graph c) (holds_grey wolff xs) c.seed b'.grey_labels d'.members (seed_lt valid) (all.grey_labels q).labels
          (members_ext (graph c) (holds_grey grow xs) (holds_grey wolff xs) c.seed d'.members (grey_same xs) (rw q at members))

      plain_label :
          is_cmr c.mode ≡ false
          → (i : ℕ)
          → i < c.lattice.n
          → (get_or d'.members i 0 ≡ 1) ↔ (label_of b'.labels i ≡ label_of b'.labels c.seed)
      plain_label q =
          member_label (graph c) (holds wolff xs) c.seed b'.labels d'.members (seed_lt valid) all.labels.labels
          (members_ext (graph c) (holds grow xs) (holds wolff xs) c.seed d'.members (holds_same xs) (rw q at members))

      members_are : MembersBy Moved c b' d'
      members_are i h = go (is_cmr c.mode) refl
        where
          go :
              (t : Bool)
              → is_cmr c.mode ≡ t
              → (get_or d'.members i 0 ≡ 1) ↔ (label_of (member_labels c b') i ≡ label_of (member_labels c b') c.seed)
          go true q = rw q (grey_label q i h)
          go false q = rw q (plain_label q i h)

    -- ---- the spins
    module _ (b' d' : Buffers) (w : Goes wolff p b b') (g : Goes grow p (onto b d) d') where
      valid : Valid wolff p b
      valid = valid_of wolff p b w.valid

      all : SeenAll wolff b b'
      all = w.seen.all refl

      turned : Turns grow p xs d'.members d'.spins
      turned = g.turned refl

      blue_label : (i : ℕ) → i < c.lattice.n → (get_or turned.blue i 0 ≡ 1) ↔ (label_of b'.labels i ≡ label_of b'.labels c.seed)
      blue_label =
          member_label (graph c) (holds wolff xs) c.seed b'.labels turned.blue (seed_lt valid) all.labels.labels
          (members_ext (graph c) (holds grow xs) (holds wolff xs) c.seed turned.blue (holds_same xs) turned.joined)

      after_same : (i k : ℕ) → i < c.lattice.n → after wolff p xs b'.labels i k ≡ after grow p xs turned.blue i k
      after_same i k h = cc (
        reached_same xs b'.labels turned.blue all.labels.labels.long turned.joined.long blue_label i h,
        act_same c.mode p (pattern c xs c.reference) (pattern c xs i) (label_of b'.labels i) (label_of turned.blue i) k,
      )

      grey_reached : is_cmr c.mode ≡ true → (i : ℕ) → i < c.lattice.n → reached wolff xs b'.grey_labels i ≡ reached grow xs d'.members i
      grey_reached q =
          reached_same xs b'.grey_labels d'.members (all.grey_labels q).labels.long
          (members b' d' valid w.some all (g.seen.one refl)).long (grey_label b' d' valid w.some all (g.seen.one refl) q)

      final_same :
          (i k : ℕ)
          → i < c.lattice.n
          → final wolff p xs b'.labels b'.grey_labels i k ≡ final grow p xs turned.blue d'.members i k
      unfolding final
      final_same i k h = go (is_cmr c.mode) refl
        where
          go : (t : Bool) → is_cmr c.mode ≡ t → final wolff p xs b'.labels b'.grey_labels i k ≡ final grow p xs turned.blue d'.members i k
          go true q = cc (grey_reached q i h, after_same i k h)
          go false q = rw q (after_same i k h)

      spins_same : d'.spins ≡ b'.spins
      spins_same =
          let m = w.moved refl in
          let t = turned.moved in
          spins_equal c d'.spins b'.spins valid.sound.ranged.lattice.n_low (t.long ∙ sym m.long)
          (λ i k hi hk. t.group i k hi hk ∙ (sym (final_same i k hi) ∙ sym (m.group i k hi hk)))
          (λ i x hi out. t.others i x hi out ∙ sym (m.others i x hi out))

    -- ---- the answer
    kept_there : Kept (rules wolff p b) → Kept (rules grow p (onto b d))
    kept_there = matched_kept (rules wolff p b) (rules grow p (onto b d)) rules_same

    broken_there : (r : ℕ) → Broken (rules wolff p b) r → Broken (rules grow p (onto b d)) r
    broken_there r = matched_broken (rules wolff p b) (rules grow p (onto b d)) r rules_same

    there :
        (a : Answer) (b' : Buffers) (a' : Answer) (d' : Buffers)
        → Answers wolff p b a b'
        → Answers grow p (onto b d) a' d'
        → GrowsAs c a b' a' d'
    there (Refused r) b' (Refused s) d' f g = record {
      answer = ap Refused (broken_unique (rules grow p (onto b d)) s r g.why (broken_there r f.why));
      spins = ap (λ (z : Buffers). z.spins) g.kept ∙ sym (ap (λ (z : Buffers). z.spins) f.kept);
      members = tt;
    }
    there (Refused r) b' Idle d' f g = absurd (broken_not_kept (rules grow p (onto b d)) r (broken_there r f.why) g.valid)
    there (Refused r) b' Held d' f g = absurd (broken_not_kept (rules grow p (onto b d)) r (broken_there r f.why) g.valid)
    there (Refused r) b' Moved d' f g = absurd (broken_not_kept (rules grow p (onto b d)) r (broken_there r f.why) g.valid)
    there Idle b' (Refused s) d' f g = absurd (broken_not_kept (rules grow p (onto b d)) s g.why (kept_there f.valid))
    there Idle b' Idle d' f g = record { answer = refl; spins = g.still ∙ sym f.still; members = idle_members grow p (onto b d) d' g refl }
    there Idle b' Held d' f g = absurd (not_both wolff b.spins (some_back b.spins g.some) f.none)
    there Idle b' Moved d' f g = absurd (not_both wolff b.spins (some_back b.spins g.some) f.none)
    there Held b' (Refused s) d' f g = absurd (broken_not_kept (rules grow p (onto b d)) s g.why (kept_there f.valid))
    there Held b' Idle d' f g = absurd (not_both grow b.spins (some_there b.spins f.some) g.none)
    there Held b' Held d' f g = record {
      answer = refl;
      spins = g.still ∙ sym f.still;
      members = members_are b' d' (valid_of wolff p b f.valid) f.some (f.seen.all refl) (g.seen.one refl);
    }
    there Held b' Moved d' f g = absurd (g.free refl (held_there b.spins f.held))
    there Moved b' (Refused s) d' f g = absurd (broken_not_kept (rules grow p (onto b d)) s g.why (kept_there f.valid))
    there Moved b' Idle d' f g = absurd (not_both grow b.spins (some_there b.spins f.some) g.none)
    there Moved b' Held d' f g = absurd (f.free refl (held_back b.spins g.held))
    there Moved b' Moved d' f g = record {
      answer = refl;
      spins = spins_same b' d' f g;
      members = members_are b' d' (valid_of wolff p b f.valid) f.some (f.seen.all refl) (g.seen.one refl);
    }

    pub grows_as_wolff :
        (a : Answer) (b' : Buffers) (a' : Answer) (d' : Buffers)
        → Answers wolff p b a b'
        → Answers grow p d a' d'
        → GrowsAs c a b' a' d'
    grows_as_wolff a b' a' d' f g = there a b' a' d' f (subst (λ (z : Buffers). Answers grow p z a' d') is_onto g)
      where
        is_onto : d ≡ onto b d
        is_onto = buffers_equal d (onto b d) own.spins refl refl refl refl refl refl refl

-- Houd of two replicas and pair of two are one move (`houd_is_pair`): the same sites act, the same components are found, and with the same choices the same
-- answer is given, the same spins are left and the same outputs written; refusals too.
use Rattle.std.specs.Prelude.{ℕ, zero, suc, ◌*◌, ◌/◌, ◌<◌, ◌≡◌, ◌↔◌, Bool, true, false, cond, ◌&&◌, List, ◌∷◌, ltb, length, ℤ, pos, neg_ℤ}
use Rattle.std.proofs.Math.Path.{refl}
use Rattle.std.proofs.Common.{sym, ◌∙◌, inl, inr, arith, lt-ltb}
use Rattle.std.proofs.Math.Bool.{not}
use Rattle.lemmas.specs.Bools.{never, and_left, and_no}
use Rattle.lemmas.specs.Ints.{eq_z}
use Rattle.lemmas.specs.Sums.{sum}
use Rattle.paper.specs.declared.Mode.{Mode}
use Rattle.paper.specs.declared.Mode.TheVariants.{Houd, Pair}
use Rattle.paper.specs.declared.Form.{Form}
use Rattle.paper.specs.declared.Form.TheVariants.{Sw, Wolff, Observe, Grow}
use Rattle.paper.specs.Answer.Cases.{Answer, Answer.Refused, Answer.Idle, Answer.Held, Answer.Moved}
use Rattle.paper.specs.Panel.Input.{graph, Call, Choices, Buffers, Pattern, pattern, size, system, ahead}
use Rattle.paper.specs.Panel.Takes.{is_cmr, moves, takes_greys}
use Rattle.paper.specs.Site.Acting.{pair_differs, acts, SomeActs}
use Rattle.paper.specs.Site.Bonds.{holds}
use Rattle.paper.specs.Component.Sizes.{label_of}
use Rattle.paper.specs.Move.Moving.{other, partner, flip_by, reached_by, held, reached, after, final, Moves}
use Rattle.paper.specs.Refusal.Rules.{Ranged, HoudOfTwo, Exact, Spin, group_names, Named, Spins, Inverse, Grouped, Chosen, Seeded, rules}
use Rattle.paper.specs.Refusal.Rule.{Rule, rule}
use Rattle.paper.specs.Refusal.Kept.{named, Valid, valid_of}
use Rattle.paper.specs.Answer.Move.{SeenAll, SeenOne, Seen, SeedHeld, Turns, Answers}
use Rattle.laws.specs.Forms.{grows_one}
use Rattle.laws.specs.Unique.{HoldAlike, joined_ext, numbered_ext, members_ext, counts_ext, sizes_ext}
use Rattle.laws.specs.Matched.{SameVerdict, verdict_back, unchanged, behind, behind_if, reworded, past}

abbrev pub with_mode : Mode → Call → Call
with_mode m c = record {
  mode = m;
  form = c.form;
  lattice = c.lattice;
  pins = c.pins;
  group = c.group;
  temperature = c.temperature;
  cuts = c.cuts;
  reference = c.reference;
  seed = c.seed;
}

-- ---- two spins
acts_two : (f : Pattern) → Spin (f 0) → Spin (f 1) → eq_z (sum 2 f) (pos 0) ≡ pair_differs 1 f
unfolding sum pair_differs
acts_two f (inl a) (inl b) = rw (a, b) refl
acts_two f (inl a) (inr b) = rw (a, b) refl
acts_two f (inr a) (inl b) = rw (a, b) refl
acts_two f (inr a) (inr b) = rw (a, b) refl

-- where they differ, to negate both is to exchange them
negates : (f : Pattern) → Spin (f 0) → Spin (f 1) → pair_differs 1 f ≡ true → (k : ℕ) → k < 2 → neg_ℤ (f k) ≡ f (other k)
unfolding pair_differs other
negates f (inl a) (inl b) e k h = never (rw (a, b) at e)
negates f (inl a) (inr b) e zero h = rw (a, b) refl
negates f (inl a) (inr b) e (suc zero) h = rw (a, b) refl
negates f (inl a) (inr b) e (suc (suc k)) h = absurd (omega arith)
negates f (inr a) (inl b) e zero h = rw (a, b) refl
negates f (inr a) (inl b) e (suc zero) h = rw (a, b) refl
negates f (inr a) (inl b) e (suc (suc k)) h = absurd (omega arith)
negates f (inr a) (inr b) e k h = never (rw (a, b) at e)

-- the two modes reach components of the same sizes
reach_same : (f : Form) (seed : ℕ) (l : List ℕ) (i : ℕ) → reached_by f Houd seed l i ≡ reached_by f Pair seed l i
reach_same Sw seed l i = refl
reach_same Wolff seed l i = refl
reach_same Observe seed l i = refl
reach_same Grow seed l i = refl

-- ---- two modes that see, join and move alike on the spins xs
pub record Twins (m o : Mode) (c : Call) (p : Choices) (xs : List ℤ) : Type 0 where
  pub acting : (i : ℕ) → i < c.lattice.n → acts (with_mode m c) xs i ≡ acts (with_mode o c) xs i
  pub bonds : HoldAlike (graph c) (holds (with_mode m c) xs) (holds (with_mode o c) xs)
  pub moved : (l g : List ℕ) (i k : ℕ) → i < c.lattice.n → k < size c → final (with_mode m c) p xs l g i k ≡ final (with_mode o c) p xs l g i k
  pub one_colour : is_cmr m ≡ false
  pub one_colour_too : is_cmr o ≡ false

twins_back : {m o : Mode} {c : Call} {p : Choices} {xs : List ℤ} → Twins m o c p xs → Twins o m c p xs
twins_back w = record {
  acting = λ i h. sym (w.acting i h);
  bonds = λ i e hi he. sym (w.bonds i e hi he);
  moved = λ l g i k hi hk. sym (w.moved l g i k hi hk);
  one_colour = w.one_colour_too;
  one_colour_too = w.one_colour;
}

module _ (m o : Mode) (c : Call) (p : Choices) (b b' : Buffers) (w : Twins m o c p b.spins) where
  abbrev one : Call
  one = with_mode m c

  abbrev two : Call
  two = with_mode o c

  abbrev xs : List ℤ
  xs = b.spins

  no_greys : takes_greys one ≡ false
  no_greys = rw w.one_colour (and_no (moves c.form))

  no_greys_too : takes_greys two ≡ true → takes_greys one ≡ true
  no_greys_too e = never (sym (rw w.one_colour_too (and_no (moves c.form))) ∙ e)

  all_there : SeenAll one b b' → SeenAll two b b'
  all_there s = record {
    labels = numbered_ext (graph c) (holds one xs) (holds two xs) b'.labels b'.found w.bonds s.labels;
    grey_labels = λ e. never (sym no_greys ∙ no_greys_too e);
    grey_kept = λ _. s.grey_kept no_greys;
    grey_found_kept = λ _. s.grey_found_kept no_greys;
    counts = counts_ext b'.labels marks s.counts;
    sizes = sizes_ext b'.labels marks s.sizes;
    members_kept = s.members_kept;
  }
    where
      marks : (i : ℕ) → i < length b'.labels → acts one xs i ≡ acts two xs i
      marks i h = w.acting i (rw s.labels.labels.long at h)

  some_there : SomeActs one xs → SomeActs two xs
  some_there q = record { site = q.site; below = q.below; does = sym (w.acting q.site q.below) ∙ q.does }

  held_there : SeedHeld one xs → SeedHeld two xs
  held_there h = record {
    site = h.site;
    below = h.below;
    pin = h.pin;
    joined = joined_ext (graph c) (holds one xs) (holds two xs) w.bonds h.joined;
  }

  one_there : c.seed < c.lattice.n → SeenOne one b b' → SeenOne two b b'
  one_there below s = record {
    members = λ e.
        rw w.one_colour_too
        (members_ext (graph c) (holds one xs) (holds two xs) c.seed b'.members w.bonds
        (rw w.one_colour at (s.members (w.acting c.seed below ∙ e))));
    none = λ e. s.none (w.acting c.seed below ∙ e);
    labels_kept = s.labels_kept;
    grey_kept = s.grey_kept;
    counts_kept = s.counts_kept;
    sizes_kept = s.sizes_kept;
    found_kept = s.found_kept;
    grey_found_kept = s.grey_found_kept;
  }

  moves_there : (l g : List ℕ) (ys : List ℤ) → Moves one p xs l g ys → Moves two p xs l g ys
  moves_there l g ys q = record { long = q.long; group = λ i k hi hk. q.group i k hi hk ∙ w.moved l g i k hi hk; others = q.others }

  turns_there : (l : List ℕ) (ys : List ℤ) → Turns one p xs l ys → Turns two p xs l ys
  turns_there l ys t = record {
    blue = t.blue;
    joined = members_ext (graph c) (holds one xs) (holds two xs) c.seed t.blue w.bonds t.joined;
    moved = moves_there t.blue l ys t.moved;
  }

  seen_there : Valid one p b → Seen one b b' → Seen two b b'
  seen_there v s = record { all = λ t. all_there (s.all t); one = λ t. one_there (v.fit.seeded.below (grows_one c.form t)) (s.one t) }

  held_home : SeedHeld two xs → SeedHeld one xs
  held_home h = record {
    site = h.site;
    below = h.below;
    pin = h.pin;
    joined = joined_ext (graph c) (holds two xs) (holds one xs) (λ i e hi he. sym (w.bonds i e hi he)) h.joined;
  }

  -- the answers, where the rules have the same verdict
  carried : SameVerdict (rules one p b) (rules two p b) → (a : Answer) → Answers one p b a b' → Answers two p b a b'
  carried rs (Refused r) f = record { why = (rs.broken r).0 f.why; kept = f.kept }
  carried rs Idle f = record {
    valid = rs.kept.0 f.valid;
    none = λ i h. sym (w.acting i h) ∙ f.none i h;
    still = f.still;
    seen = seen_there (valid_of one p b f.valid) f.seen;
  }
  carried rs Held f = record {
    valid = rs.kept.0 f.valid;
    some = some_there f.some;
    one = f.one;
    held = held_there f.held;
    still = f.still;
    seen = seen_there (valid_of one p b f.valid) f.seen;
  }
  carried rs Moved f = record {
    valid = rs.kept.0 f.valid;
    some = some_there f.some;
    free = λ t h. f.free t (held_home h);
    moved = λ t. moves_there b'.labels b'.grey_labels b'.spins (f.moved t);
    turned = λ t. turns_there b'.members b'.spins (f.turned t);
    seen = seen_there (valid_of one p b f.valid) f.seen;
  }

-- ---- houd and pair of two
module _ (c : Call) (two : size c ≡ 2) (p : Choices) where
  abbrev houd : Call
  houd = with_mode Houd c

  abbrev pair : Call
  pair = with_mode Pair c

  -- the group's patterns are of spins, and bonds lead to sites
  pub record Sane (xs : List ℤ) : Type 0 where
    pub first : (i : ℕ) → i < c.lattice.n → Spin (pattern c xs i 0)
    pub second : (i : ℕ) → i < c.lattice.n → Spin (pattern c xs i 1)
    pub inside : (i e : ℕ) → i < c.lattice.n → e < c.lattice.d → ahead c i e < c.lattice.n

  module _ (xs : List ℤ) (s : Sane xs) where
    acting : (i : ℕ) → i < c.lattice.n → acts houd xs i ≡ acts pair xs i
    unfolding acts
    acting i h = rw two (acts_two (pattern c xs i) (s.first i h) (s.second i h))

    bonds : HoldAlike (graph c) (holds houd xs) (holds pair xs)
    unfolding holds
    bonds i e hi he = cc (acting i hi, acting (ahead c i e) (s.inside i e hi he))

    reached_same : (l : List ℕ) (i : ℕ) → i < c.lattice.n → reached houd xs l i ≡ reached pair xs l i
    unfolding reached
    reached_same l i h = rw (acting i h, reach_same c.form c.seed l i) refl

    -- a reached site differs
    differ : (l : List ℕ) (i : ℕ) → reached pair xs l i ≡ true → pair_differs 1 (pattern c xs i) ≡ true
    unfolding reached acts
    differ l i e = rw two at (and_left (acts pair xs i) (reached_by c.form Pair c.seed l i && not (held c l i)) e)

    flip_same :
        (t : Bool) (i k : ℕ)
        → i < c.lattice.n
        → k < size c
        → pair_differs 1 (pattern c xs i) ≡ true
        → cond (t && ltb k (2 * (size c / 2))) (neg_ℤ (pattern c xs i k)) (pattern c xs i k) ≡ pattern c xs i (cond t (partner (size c) k) k)
    flip_same true i k hi hk e =
        rw (two, lt-ltb k 2 (rw two at hk)) (negates (pattern c xs i) (s.first i hi) (s.second i hi) e k (rw two at hk))
    flip_same false i k hi hk e = refl

    after_same : (l : List ℕ) (i k : ℕ) → i < c.lattice.n → k < size c → after houd p xs l i k ≡ after pair p xs l i k
    after_same l i k hi hk = go (reached pair xs l i) refl
      where
        go : (t : Bool) → reached pair xs l i ≡ t → after houd p xs l i k ≡ after pair p xs l i k
        go true e = rw (reached_same l i hi, e) (flip_same (flip_by c.form p.choices (label_of l i)) i k hi hk (differ l i e))
        go false e = rw (reached_same l i hi, e) refl

    twins : Twins Houd Pair c p xs
    unfolding final
    twins = record {
      acting = acting;
      bonds = bonds;
      moved = λ l g i k hi hk. cc (after_same l i k hi hk, reached_same g i hi);
      one_colour = refl;
      one_colour_too = refl;
    }

  module _ (b : Buffers) where
    -- ---- the rules
    ranged_same : Ranged c.lattice.n c.lattice.d c.lattice.s Houd (size c) ↔ Ranged c.lattice.n c.lattice.d c.lattice.s Pair (size c)
    ranged_same = (
      (λ r. record { lattice = r.lattice; size_low = r.size_low; size_high = r.size_high; cmr_two = λ e. never e }),
      (λ r. record { lattice = r.lattice; size_low = r.size_low; size_high = r.size_high; cmr_two = λ e. never e }),
    )

    exact_same : Exact houd p b ↔ Exact pair p b
    exact_same = (
      (λ e. record {
        spins = e.spins;
        fwd = e.fwd;
        bwd = e.bwd;
        pins = e.pins;
        couplings = e.couplings;
        cuts = e.cuts;
        choices = e.choices;
        greys = e.greys;
        labels = e.labels;
        grey_labels = e.grey_labels;
        counts = e.counts;
        sizes = e.sizes;
        members = e.members;
        found = e.found;
        grey_found = e.grey_found;
      }),
      (λ e. record {
        spins = e.spins;
        fwd = e.fwd;
        bwd = e.bwd;
        pins = e.pins;
        couplings = e.couplings;
        cuts = e.cuts;
        choices = e.choices;
        greys = e.greys;
        labels = e.labels;
        grey_labels = e.grey_labels;
        counts = e.counts;
        sizes = e.sizes;
        members = e.members;
        found = e.found;
        grey_found = e.grey_found;
      }),
    )

    chosen_same : Chosen houd p ↔ Chosen pair p
    chosen_same = (
      (λ h. record {
        perms = h.perms;
        not_identity_lem = h.not_identity_lem;
        flips = h.flips;
        greys = h.greys;
        grey_some = h.grey_some;
        reference = h.reference;
      }),
      (λ h. record {
        perms = h.perms;
        not_identity_lem = h.not_identity_lem;
        flips = h.flips;
        greys = h.greys;
        grey_some = h.grey_some;
        reference = h.reference;
      }),
    )

    module _ (t : Twins Houd Pair c p b.spins) where
      seeded_there : (m o : Mode) → Twins m o c p b.spins → Seeded (with_mode m c) b.spins → Seeded (with_mode o c) b.spins
      seeded_there m o w h = record {
        below = h.below;
        acting = λ e q. sym (w.acting c.seed (h.below e)) ∙ h.acting e (some_there o m c p b b (twins_back w) q);
      }

    sane : Spins c.lattice.n (Named c.lattice.s (group_names c.group)) b.spins
        → Inverse c.lattice.n c.lattice.d c.lattice.fwd c.lattice.bwd
        → Grouped c.lattice.s c.group
        → Sane b.spins
    sane spins inverse grouped = record {
      first = λ i h. spins (system c 0) i (named 0 (rw two (omega arith)) grouped) h;
      second = λ i h. spins (system c 1) i (named 1 (rw two (omega arith)) grouped) h;
      inside = λ i e hi he. (inverse.there i e hi he).inside;
    }

    rules_same : SameVerdict (rules houd p b) (rules pair p b)
    rules_same =
        reworded 1 _ _ ranged_same
        (past _ _ _ (λ _. rw two (omega arith))
        (before_15
        (reworded 2 _ _ exact_same
        (behind_if _ _ _ (λ spins. behind_if _ _ _ (λ inverse. behind _ _ _ (behind_if _ _ _ (λ grouped.
        behind _ _ _ (behind _ _ _ (behind _ _ _ (reworded 9 _ _ chosen_same (reworded 10 _ _ (seeded (sane spins inverse grouped)) (unchanged _)))))))))))))
      where
        seeded : Sane b.spins → Seeded houd b.spins ↔ Seeded pair b.spins
        seeded s =
            let t = twins b.spins s in
            (seeded_there t Houd Pair t, seeded_there t Pair Houd (twins_back t))

        before_15 : {qs rs : List Rule} → SameVerdict qs rs → SameVerdict qs (rule 15 (HoudOfTwo Pair c.form (size c)) ∷ rs)
        before_15 s = verdict_back (past _ _ _ (λ e. never e) (verdict_back s))

  -- ---- the theorem
  pub houd_is_pair : (b b' : Buffers) (a : Answer) → Answers houd p b a b' ↔ Answers pair p b a b'
  houd_is_pair b b' a = (there a, home a)
    where
      sane_of : (v : Valid houd p b) → Sane b.spins
      sane_of v = sane b v.sound.spins v.sound.inverse v.sound.grouped

      there : (a : Answer) → Answers houd p b a b' → Answers pair p b a b'
      there (Refused r) f = record { why = ((rules_same b).broken r).0 f.why; kept = f.kept }
      there Idle f = carried Houd Pair c p b b' (twins b.spins (sane_of (valid_of houd p b f.valid))) (rules_same b) Idle f
      there Held f = carried Houd Pair c p b b' (twins b.spins (sane_of (valid_of houd p b f.valid))) (rules_same b) Held f
      there Moved f = carried Houd Pair c p b b' (twins b.spins (sane_of (valid_of houd p b f.valid))) (rules_same b) Moved f

      back : (v : Valid pair p b) → Twins Pair Houd c p b.spins
      back v = twins_back (twins b.spins (sane b v.sound.spins v.sound.inverse v.sound.grouped))

      home : (a : Answer) → Answers pair p b a b' → Answers houd p b a b'
      home (Refused r) f = record { why = ((rules_same b).broken r).1 f.why; kept = f.kept }
      home Idle f = carried Pair Houd c p b b' (back (valid_of pair p b f.valid)) (verdict_back (rules_same b)) Idle f
      home Held f = carried Pair Houd c p b b' (back (valid_of pair p b f.valid)) (verdict_back (rules_same b)) Held f
      home Moved f = carried Pair Houd c p b b' (back (valid_of pair p b f.valid)) (verdict_back (rules_same b)) Moved f

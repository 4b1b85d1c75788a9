-- What a mode and form do not take does not matter: two moves that agree on all that is taken have the same answers.
use Rattle.std.specs.Prelude.{ℕ, ◌<◌, ◌≡◌, refl, ◌⊎◌, ◌↔◌, Bool, true, false, cond, List, length}
use Rattle.std.proofs.Common.{sym, ◌∙◌, ap, subst, inl, inr}
use Rattle.lemmas.specs.Bools.{never, and_right}
use Rattle.paper.specs.declared.Mode.{Mode}
use Rattle.paper.specs.declared.Mode.TheVariants.{Houd, Pair, Perm, Gperm, Jorg, Cmr}
use Rattle.paper.specs.Answer.Cases.{Answer, Answer.Refused, Answer.Idle, Answer.Held, Answer.Moved}
use Rattle.paper.specs.Panel.Input.{graph, Call, Choices, Buffers, size}
use Rattle.paper.specs.Panel.Takes.{is_perm, is_cmr, one_cluster, grows_by, labels_by, moves, draws_bonds, takes_greys, takes_grey_labels}
use Rattle.paper.specs.Site.Acting.{acts}
use Rattle.paper.specs.Site.Bonds.{holds, holds_grey}
use Rattle.paper.specs.Component.Labels.{Joined, Labels}
use Rattle.paper.specs.Component.Members.{Members}
use Rattle.paper.specs.Component.Sizes.{label_of}
use Rattle.paper.specs.Move.Moving.{reached, Moves}
use Rattle.paper.specs.Refusal.Rule.{Kept}
use Rattle.paper.specs.Refusal.Rules.{Permutes, rules}
use Rattle.paper.specs.Refusal.Kept.{Valid, valid_of}
use Rattle.paper.specs.Answer.Move.{SeenAll, SeenOne, Seen, member_bonds, SeedHeld, Turns, Answers}
use Rattle.paper.specs.Answer.Same.{SameCall, SameTaken, SameLent, written, left}
use Rattle.laws.specs.Forms.{by_form, not_grows, grows_one, grows_moves}
use Rattle.laws.specs.Unique.{HoldAlike, label_lt, joined_ext, numbered_ext, members_ext, counts_ext, sizes_ext}
use Rattle.laws.specs.Determined.{buffers_equal}
use Rattle.laws.specs.Matched.{matched_kept, matched_broken}
use Rattle.laws.specs.Untaken.{over, is_over, onto, acts_same, holds_same, grey_same, final_same, pattern_same}
use Rattle.laws.specs.UntakenRules.{seed_acts, some_there, rules_same}
use Rattle.laws.specs.Entries.{perm_of, reached_moves, perms_of, perms_grown}

cmr_draws : (m : Mode) → is_cmr m ≡ true → draws_bonds m ≡ true
cmr_draws Houd e = never e
cmr_draws Pair e = never e
cmr_draws Perm e = never e
cmr_draws Gperm e = never e
cmr_draws Jorg e = never e
cmr_draws Cmr e = refl

module _ {c a : Call} {p o : Choices} (same : SameTaken c p a o) {b d : Buffers} (lent : SameLent c b d) where
  kept_there : Kept (rules c p b) → Kept (rules (over c a) o (onto b d))
  kept_there = matched_kept (rules c p b) (rules (over c a) o (onto b d)) (rules_same same lent)

  module _ (v : Valid c p b) (b' : Buffers) where
    -- the same bonds hold
    blue : HoldAlike (graph c) (holds c b.spins) (holds (over c a) b.spins)
    blue i e hi he = sym (holds_same same.call b.spins v.sound.ranged.cmr_two i e)

    -- the same seed, and so the same component is held
    held_there : one_cluster c.form ≡ true → SeedHeld c b.spins → SeedHeld (over c a) b.spins
    held_there t h = record {
      site = h.site;
      below = h.below;
      pin = h.pin;
      joined =
          subst (λ (s : ℕ). Joined (graph c) (holds (over c a) b.spins) s h.site) (sym (same.call.seed t))
          (joined_ext (graph c) (holds c b.spins) (holds (over c a) b.spins) blue h.joined);
    }

    held_back : one_cluster c.form ≡ true → SeedHeld (over c a) b.spins → SeedHeld c b.spins
    held_back t h = record {
      site = h.site;
      below = h.below;
      pin = h.pin;
      joined =
          joined_ext (graph c) (holds (over c a) b.spins) (holds c b.spins) (λ i e hi he. sym (blue i e hi he))
          (subst (λ (s : ℕ). Joined (graph c) (holds (over c a) b.spins) s h.site) (same.call.seed t) h.joined);
    }

    grey : is_cmr c.mode ≡ true → HoldAlike (graph c) (holds_grey c b.spins) (holds_grey (over c a) b.spins)
    grey q i e hi he = sym (grey_same same.call b.spins v.sound.ranged.cmr_two (cmr_draws c.mode q) q i e)

    bonds : HoldAlike (graph c) (member_bonds c b.spins) (member_bonds (over c a) b.spins)
    bonds i e hi he = go (is_cmr c.mode) refl
      where
        go : (t : Bool) → is_cmr c.mode ≡ t → member_bonds c b.spins i e ≡ member_bonds (over c a) b.spins i e
        go true q = rw q (grey q i e hi he)
        go false q = rw q (blue i e hi he)

    all_there : labels_by c.form ≡ true → SeenAll c b b' → SeenAll (over c a) (onto b d) (written c (onto b d) b')
    all_there l w = record {
      labels = rw l (numbered_ext (graph c) (holds c b.spins) (holds (over c a) b.spins) b'.labels b'.found blue w.labels);
      grey_labels = λ t.
          rw (l, t)
          (numbered_ext (graph c) (holds_grey c b.spins) (holds_grey (over c a) b.spins) b'.grey_labels b'.grey_found
          (grey (and_right (moves c.form) _ t)) (w.grey_labels t));
      grey_kept = λ t. rw (l, t) refl;
      grey_found_kept = λ t. rw (l, t) refl;
      counts = rw l (counts_ext b'.labels marks w.counts);
      sizes = rw l (sizes_ext b'.labels marks w.sizes);
      members_kept = rw (not_grows c.form l) refl;
    }
      where
        marks : (i : ℕ) → i < length b'.labels → acts c b.spins i ≡ acts (over c a) b.spins i
        marks i _ = sym (acts_same same.call b.spins i)

    -- the members of the same seed
    members_there :
        (g h : ℕ → ℕ → Bool) (l : List ℕ)
        → grows_by c.form ≡ true
        → HoldAlike (graph c) g h
        → Members (graph c) g c.seed l
        → Members (graph c) h a.seed l
    members_there g h l t alike w =
        subst (λ (s : ℕ). Members (graph c) h s l) (sym (same.call.seed (grows_one c.form t))) (members_ext (graph c) g h c.seed l alike w)

    one_there : grows_by c.form ≡ true → SeenOne c b b' → SeenOne (over c a) (onto b d) (written c (onto b d) b')
    one_there g w = record {
      members = λ t. rw g (members_there (member_bonds c b.spins) (member_bonds (over c a) b.spins) b'.members g bonds (w.members (sym seed ∙ t)));
      none = λ t. rw g (w.none (sym seed ∙ t));
      labels_kept = rw g refl;
      grey_kept = rw g refl;
      counts_kept = rw g refl;
      sizes_kept = rw g refl;
      found_kept = rw g refl;
      grey_found_kept = rw g refl;
    }
      where
        seed : acts (over c a) b.spins a.seed ≡ acts c b.spins c.seed
        seed = seed_acts same b.spins (grows_one c.form g)

    seen_there : Seen c b b' → Seen (over c a) (onto b d) (written c (onto b d) b')
    seen_there w = record { all = λ t. all_there t (w.all t); one = λ t. one_there t (w.one t) }

    -- the choices are right wherever the list l says that a site is reached
    abbrev PermsAt : List ℕ → Type 0
    PermsAt l =
        (i : ℕ)
        → i < c.lattice.n
        → reached c b.spins l i ≡ true
        → is_perm c.mode ≡ true
        → Permutes (size c) (perm_of c p (label_of l i))

    perms_at : {found : ℕ} → Labels (graph c) (holds c b.spins) b'.labels found → PermsAt b'.labels
    perms_at w i hi e q =
        perms_of v (rw (reached_moves c b.spins b'.labels i e, q)) (label_of b'.labels i)
        (label_lt (graph c) (holds c b.spins) b'.labels w i hi)

    moves_there :
        (l g g' : List ℕ)
        → PermsAt l
        → (takes_greys c ≡ true → g' ≡ g)
        → Moves c p b.spins l g b'.spins
        → Moves (over c a) o b.spins l g' b'.spins
    moves_there l g g' perms greys m = record {
      long = m.long;
      group = λ i k hi hk.
          pattern_same same.call b'.spins i k hk
          ∙ (m.group i k hi hk ∙ sym (final_same same.call b.spins same.choices l g g' i k greys hk (perms i hi)));
      others = λ i t hi out. m.others i t hi (λ k hk e. out k hk (e ∙ sym (same.call.systems k hk)));
    }

    moved_there :
        {found : ℕ} → labels_by c.form ≡ true
        → Labels (graph c) (holds c b.spins) b'.labels found
        → Moves c p b.spins b'.labels b'.grey_labels b'.spins
        → Moves (over c a) o b.spins (written c (onto b d) b').labels (written c (onto b d) b').grey_labels b'.spins
    moved_there l w m =
        rw l
        (moves_there b'.labels b'.grey_labels (cond (takes_greys c) b'.grey_labels d.grey_labels) (perms_at w) (λ t. rw t refl) m)

    turned_there :
        grows_by c.form ≡ true
        → Turns c p b.spins b'.members b'.spins
        → Turns (over c a) o b.spins (written c (onto b d) b').members b'.spins
    turned_there g w = rw g (record {
      blue = w.blue;
      joined = members_there (holds c b.spins) (holds (over c a) b.spins) w.blue g blue w.joined;
      moved =
          moves_there w.blue b'.members b'.members (λ i hi e q. perms_grown v g (rw (grows_moves c.form g, q)) (label_of w.blue i))
          (λ _. refl) w.moved;
    })

  there : (r : Answer) (b' : Buffers) → Answers c p b r b' → Answers (over c a) o (onto b d) r (left c r (onto b d) b')
  there (Refused r) b' w = record {
    why = matched_broken (rules c p b) (rules (over c a) o (onto b d)) r (rules_same same lent) w.why;
    kept = refl;
  }
  there Idle b' w = record {
    valid = kept_there w.valid;
    none = λ i h. acts_same same.call b.spins i ∙ w.none i h;
    still = w.still;
    seen = seen_there (valid_of c p b w.valid) b' w.seen;
  }
  there Held b' w = let v = valid_of c p b w.valid in record {
    valid = kept_there w.valid;
    some = some_there same b.spins w.some;
    one = w.one;
    held = held_there v b' w.one w.held;
    still = w.still;
    seen = seen_there v b' w.seen;
  }
  there Moved b' w = let v = valid_of c p b w.valid in record {
    valid = kept_there w.valid;
    some = some_there same b.spins w.some;
    free = λ t h. w.free t (held_back v b' t h);
    moved = λ t. moved_there v b' t (w.seen.all t).labels.labels (w.moved t);
    turned = λ t. turned_there v b' t (w.turned t);
    seen = seen_there v b' w.seen;
  }

  -- the answer is the same, and so is all that is written; each call keeps its own buffers where nothing is
  pub untaken_lent : (r : Answer) (b' : Buffers) → Answers c p b r b' → Answers a o d r (left c r d b')
  untaken_lent r b' w =
      subst (λ (z : Call). Answers z o d r (left c r d b')) (sym (is_over same.call))
      (subst (λ (z : Buffers). Answers (over c a) o z r (left c r z b')) (sym is_onto) (there r b' w))
    where
      is_onto : d ≡ onto b d
      is_onto = buffers_equal d (onto b d) lent.spins refl refl refl refl refl refl refl

-- ---- to agree is mutual
module _ {c a : Call} (h : SameCall c a) where
  draws_back : draws_bonds a.mode ≡ true → draws_bonds c.mode ≡ true
  draws_back t = sym (ap draws_bonds h.mode) ∙ t

  pub call_back : SameCall a c
  call_back = record {
    mode = sym h.mode;
    form = sym h.form;
    panel = record {
      n = sym h.panel.n;
      d = sym h.panel.d;
      s = sym h.panel.s;
      fwd = sym h.panel.fwd;
      bwd = sym h.panel.bwd;
      couplings = λ t. sym (h.panel.couplings (draws_back t));
    };
    pins = sym h.pins;
    members = sym h.members;
    systems = λ k l. sym (h.systems k (rw h.members at l));
    temperature = λ t. sym (h.temperature (draws_back t));
    cuts = λ t. sym (h.cuts (draws_back t));
    reference = λ t. sym (h.reference (rw h.mode at t));
    seed = λ t. sym (h.seed (rw h.form at t));
  }

pub taken_back : {c a : Call} {p o : Choices} → SameTaken c p a o → SameTaken a o c p
taken_back h = record {
  call = call_back h.call;
  choices = record {
    choices = λ t. sym (h.choices.choices (rw (h.call.mode, h.call.form) at t));
    greys = λ t. sym (h.choices.greys (rw (h.call.mode, h.call.form) at t));
  };
}

-- ---- on the same buffers
lent_itself : (c : Call) (b : Buffers) → SameLent c b b
lent_itself c b = record {
  spins = refl;
  labels = λ _. refl;
  grey_labels = λ _. refl;
  counts = λ _. refl;
  sizes = λ _. refl;
  members = λ _. refl;
  found = λ _. refl;
  grey_found = λ _. refl;
}

written_itself : (c : Call) (b b' : Buffers) → Seen c b b' → written c b b' ≡ b'
written_itself c b b' w = go (by_form c.form)
  where
    greys : labels_by c.form ≡ true → (t : Bool) → takes_greys c ≡ t → cond (takes_grey_labels c) b'.grey_labels b.grey_labels ≡ b'.grey_labels
    greys l true e = rw (l, e) refl
    greys l false e = rw (l, e) (sym ((w.all l).grey_kept e))

    grey_found : labels_by c.form ≡ true → (t : Bool) → takes_greys c ≡ t → cond (takes_grey_labels c) b'.grey_found b.grey_found ≡ b'.grey_found
    grey_found l true e = rw (l, e) refl
    grey_found l false e = rw (l, e) (sym ((w.all l).grey_found_kept e))

    go : (labels_by c.form ≡ true) ⊎ (grows_by c.form ≡ true) → written c b b' ≡ b'
    go (inl l) =
        buffers_equal (written c b b') b' refl (rw l refl) (greys l (takes_greys c) refl) (rw l refl) (rw l refl)
        (rw (not_grows c.form l) (sym (w.all l).members_kept)) (rw l refl) (grey_found l (takes_greys c) refl)
    go (inr g) = let k = w.one g in
        buffers_equal (written c b b') b' refl (rw g (sym k.labels_kept)) (rw g (sym k.grey_kept)) (rw g (sym k.counts_kept))
        (rw g (sym k.sizes_kept)) (rw g refl) (rw g (sym k.found_kept)) (rw g (sym k.grey_found_kept))

left_itself : (c : Call) (p : Choices) (b : Buffers) (r : Answer) (b' : Buffers) → Answers c p b r b' → left c r b b' ≡ b'
left_itself c p b (Refused r) b' w = sym w.kept
left_itself c p b Idle b' w = written_itself c b b' w.seen
left_itself c p b Held b' w = written_itself c b b' w.seen
left_itself c p b Moved b' w = written_itself c b b' w.seen

alike : {c a : Call} {p o : Choices} → SameTaken c p a o → (b : Buffers) (r : Answer) (b' : Buffers) → Answers c p b r b' → Answers a o b r b'
alike {c} {a} {p} {o} same b r b' w =
    subst (λ (z : Buffers). Answers a o b r z) (left_itself c p b r b' w) (untaken_lent same (lent_itself c b) r b' w)

pub untaken : {c a : Call} {p o : Choices} → SameTaken c p a o → (b : Buffers) (r : Answer) (b' : Buffers) → Answers c p b r b' ↔ Answers a o b r b'
untaken same b r b' = (alike same b r b', alike (taken_back same) b r b')

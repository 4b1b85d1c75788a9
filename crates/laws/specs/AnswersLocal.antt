-- A move's answer on one list of spins is its answer on another with the same rows of its group.
use Rattle.std.specs.Prelude.{ℕ, ◌<◌, ◌≡◌, refl, Bool, true, false, List, length, ℤ}
use Rattle.std.proofs.Common.{sym, ◌∙◌, ap, subst, arith}
use Rattle.lemmas.specs.Bools.{and_right}
use Rattle.paper.specs.Answer.Cases.{Answer, Answer.Idle, Answer.Held, Answer.Moved, Answer.Refused}
use Rattle.paper.specs.Panel.Input.{graph, Call, Choices, Buffers, pattern, spin, size, system}
use Rattle.paper.specs.Panel.Takes.{is_cmr, is_perm, grows_by, moves}
use Rattle.paper.specs.Site.Acting.{acts, SomeActs}
use Rattle.paper.specs.Site.Bonds.{holds, holds_grey}
use Rattle.paper.specs.Component.Labels.{Labels}
use Rattle.paper.specs.Component.Sizes.{label_of}
use Rattle.paper.specs.Move.Moving.{reached, Moves}
use Rattle.paper.specs.Refusal.Rules.{Spin, group_names, Named, Spins, Exact, Seeded, Permutes}
use Rattle.paper.specs.Refusal.Kept.{named, Valid, valid_of, valid_kept}
use Rattle.paper.specs.Answer.Move.{SeenAll, SeenOne, Seen, member_bonds, SeedHeld, Turns, Answers, Accepted, Accepted.idle, Accepted.held, Accepted.moved}
use Rattle.laws.specs.Forms.{grows_one, grows_moves}
use Rattle.laws.specs.Unique.{HoldAlike, GroupIs, OthersOf, label_lt, spins_equal, joined_ext, numbered_ext, members_ext, counts_ext, sizes_ext}
use Rattle.laws.specs.Entries.{perm_of, reached_moves, perms_of, perms_grown}
use Rattle.laws.specs.Local.{Agree, Alike, acts_local, holds_local, grey_local, final_local}

abbrev pub with_spins : Buffers → List ℤ → Buffers
with_spins b xs = record {
  spins = xs;
  labels = b.labels;
  grey_labels = b.grey_labels;
  counts = b.counts;
  sizes = b.sizes;
  members = b.members;
  found = b.found;
  grey_found = b.grey_found;
}

-- ys has the group's rows of `to` and the other rows of xs
pub record Rows (c : Call) (xs to ys : List ℤ) : Type 0 where
  pub long : length ys ≡ length xs
  pub group : (i : ℕ) → i < c.lattice.n → Agree (size c) (pattern c ys i) (pattern c to i)
  pub others : OthersOf c xs ys

-- xs has the group's rows of the buffers b
pub record Instead (c : Call) (b : Buffers) (xs : List ℤ) : Type 0 where
  pub long : length xs ≡ length b.spins
  pub same : (i : ℕ) → i < c.lattice.n → Agree (size c) (pattern c xs i) (pattern c b.spins i)

module _ {c : Call} {p : Choices} {b : Buffers} {xs : List ℤ} (s : Instead c b xs) (v : Valid c p b) where
  alike : Alike c xs b.spins
  alike = record {
    patterns = s.same;
    reference = v.fit.chosen.reference;
    inside = λ i e hi he. (v.sound.inverse.there i e hi he).inside;
    some = omega (arith, v.sound.ranged.size_low);
    two = v.sound.ranged.cmr_two;
  }

  acts_same : (i : ℕ) → i < c.lattice.n → acts c xs i ≡ acts c b.spins i
  acts_same = acts_local c xs b.spins alike

  some_there : SomeActs c xs → SomeActs c b.spins
  some_there q = record { site = q.site; below = q.below; does = sym (acts_same q.site q.below) ∙ q.does }

  some_back : SomeActs c b.spins → SomeActs c xs
  some_back q = record { site = q.site; below = q.below; does = acts_same q.site q.below ∙ q.does }

  exact_there : Exact c p (with_spins b xs)
  exact_there = let e = v.sound.exact in record {
    spins = s.long ∙ e.spins;
    fwd = e.fwd;
    bwd = e.bwd;
    pins = e.pins;
    couplings = e.couplings;
    cuts = e.cuts;
    choices = e.choices;
    greys = e.greys;
    labels = e.labels;
    grey_labels = e.grey_labels;
    counts = e.counts;
    sizes = e.sizes;
    members = e.members;
    found = e.found;
    grey_found = e.grey_found;
  }

  spins_there : Spins c.lattice.n (Named c.lattice.s (group_names c.group)) xs
  spins_there t i h hi =
      subst (λ (u : ℕ). Spin (spin c.lattice.n xs u i)) h.is
      (rw (s.same i hi h.place h.below) (v.sound.spins (system c h.place) i (named h.place h.below v.sound.grouped) hi))

  seeded_there : Seeded c xs
  seeded_there = let h = v.fit.seeded in record {
    below = h.below;
    acting = λ t q. acts_same c.seed (h.below t) ∙ h.acting t (some_there q);
  }

  pub valid_there : Valid c p (with_spins b xs)
  valid_there = record {
    sound = record {
      ranged = v.sound.ranged;
      houd = v.sound.houd;
      exact = exact_there;
      spins = spins_there;
      inverse = v.sound.inverse;
      pins = v.sound.pins;
      grouped = v.sound.grouped;
      couplings = v.sound.couplings;
      warm = v.sound.warm;
    };
    fit = record { cuts = v.fit.cuts; chosen = v.fit.chosen; seeded = seeded_there };
  }

  -- the same bonds hold
  blue : HoldAlike (graph c) (holds c b.spins) (holds c xs)
  blue i e hi he = sym (holds_local c xs b.spins alike i e hi he)

  -- so the seed's component is held by the same site
  held_there : SeedHeld c b.spins → SeedHeld c xs
  held_there h = record {
    site = h.site;
    below = h.below;
    pin = h.pin;
    joined = joined_ext (graph c) (holds c b.spins) (holds c xs) blue h.joined;
  }

  held_back : SeedHeld c xs → SeedHeld c b.spins
  held_back h = record {
    site = h.site;
    below = h.below;
    pin = h.pin;
    joined = joined_ext (graph c) (holds c xs) (holds c b.spins) (λ i e hi he. sym (blue i e hi he)) h.joined;
  }

  grey : is_cmr c.mode ≡ true → HoldAlike (graph c) (holds_grey c b.spins) (holds_grey c xs)
  grey t i e hi he = sym (grey_local c xs b.spins alike t i e hi he)

  bonds : HoldAlike (graph c) (member_bonds c b.spins) (member_bonds c xs)
  bonds i e hi he = go (is_cmr c.mode) refl
    where
      go : (t : Bool) → is_cmr c.mode ≡ t → member_bonds c b.spins i e ≡ member_bonds c xs i e
      go true q = rw q (grey q i e hi he)
      go false q = rw q (blue i e hi he)

  all_there : {b' : Buffers} → SeenAll c b b' → (ys : List ℤ) → SeenAll c (with_spins b xs) (with_spins b' ys)
  all_there {b'} w ys = record {
    labels = numbered_ext (graph c) (holds c b.spins) (holds c xs) b'.labels b'.found blue w.labels;
    grey_labels = λ t.
        numbered_ext (graph c) (holds_grey c b.spins) (holds_grey c xs) b'.grey_labels b'.grey_found (grey (and_right (moves c.form) _ t))
        (w.grey_labels t);
    grey_kept = w.grey_kept;
    grey_found_kept = w.grey_found_kept;
    counts = counts_ext b'.labels marks w.counts;
    sizes = sizes_ext b'.labels marks w.sizes;
    members_kept = w.members_kept;
  }
    where
      marks : (i : ℕ) → i < length b'.labels → acts c b.spins i ≡ acts c xs i
      marks i h = sym (acts_same i (rw w.labels.labels.long at h))

  one_there : {b' : Buffers} → grows_by c.form ≡ true → SeenOne c b b' → (ys : List ℤ) → SeenOne c (with_spins b xs) (with_spins b' ys)
  one_there {b'} g w ys = record {
    members = λ t. members_ext (graph c) (member_bonds c b.spins) (member_bonds c xs) c.seed b'.members bonds (w.members (sym seed ∙ t));
    none = λ t. w.none (sym seed ∙ t);
    labels_kept = w.labels_kept;
    grey_kept = w.grey_kept;
    counts_kept = w.counts_kept;
    sizes_kept = w.sizes_kept;
    found_kept = w.found_kept;
    grey_found_kept = w.grey_found_kept;
  }
    where
      seed : acts c xs c.seed ≡ acts c b.spins c.seed
      seed = acts_same c.seed (v.fit.seeded.below (grows_one c.form g))

  seen_there : {b' : Buffers} → Seen c b b' → (ys : List ℤ) → Seen c (with_spins b xs) (with_spins b' ys)
  seen_there w ys = record { all = λ t. all_there (w.all t) ys; one = λ t. one_there t (w.one t) ys }

  perms_at :
      {found : ℕ} (l : List ℕ)
      → Labels (graph c) (holds c b.spins) l found
      → (i : ℕ)
      → i < c.lattice.n
      → reached c xs l i ≡ true
      → is_perm c.mode ≡ true
      → Permutes (size c) (perm_of c p (label_of l i))
  perms_at l h i hi e q =
      perms_of v (rw (reached_moves c xs l i e, q)) (label_of l i)
      (label_lt (graph c) (holds c b.spins) l h i hi)

  -- the choices are right wherever the list l says that a site is reached
  abbrev PermsAt : List ℕ → Type 0
  PermsAt l = (i : ℕ) → i < c.lattice.n → reached c xs l i ≡ true → is_perm c.mode ≡ true → Permutes (size c) (perm_of c p (label_of l i))

  moves_there : (l g : List ℕ) {zs : List ℤ} → PermsAt l → Moves c p b.spins l g zs → (ys : List ℤ) → Rows c xs zs ys → Moves c p xs l g ys
  moves_there l g perms w ys r = record {
    long = r.long;
    group = λ i k hi hk. r.group i hi k hk ∙ (w.group i k hi hk ∙ sym (final_local c xs b.spins alike p l g i k hi hk (perms i hi)));
    others = r.others;
  }

  turned_there : {m : List ℕ} {zs : List ℤ} → grows_by c.form ≡ true → Turns c p b.spins m zs → (ys : List ℤ) → Rows c xs zs ys → Turns c p xs m ys
  turned_there {m} g w ys r = record {
    blue = w.blue;
    joined = members_ext (graph c) (holds c b.spins) (holds c xs) c.seed w.blue blue w.joined;
    moved = moves_there w.blue m (λ i hi e q. perms_grown v g (rw (grows_moves c.form g, q)) (label_of w.blue i)) w.moved ys r;
  }

-- whatever the other systems' rows are
module _
    (c : Call) (p : Choices) (b b' : Buffers) (xs : List ℤ) (long : length xs ≡ length b.spins)
    (same : (i : ℕ) → i < c.lattice.n → Agree (size c) (pattern c xs i) (pattern c b.spins i))
  where
    s : Instead c b xs
    s = record { long = long; same = same }

    -- spins that stay stay here too
    stays : {ys : List ℤ} → Valid c p b → b'.spins ≡ b.spins → Rows c xs b'.spins ys → ys ≡ xs
    stays {ys} v still r = spins_equal c ys xs v.sound.ranged.lattice.n_low r.long back r.others
      where
        back : GroupIs c ys (pattern c xs)
        back i k hi hk = r.group i hi k hk ∙ (ap (λ (z : List ℤ). pattern c z i k) still ∙ sym (same i hi k hk))

    pub local : (a : Answer) → Accepted a → Answers c p b a b' → (ys : List ℤ) → Rows c xs b'.spins ys → Answers c p (with_spins b xs) a (with_spins b' ys)
    local Idle idle w ys r = let v = valid_of c p b w.valid in record {
      valid = valid_kept c p (with_spins b xs) (valid_there s v);
      none = λ i h. acts_same s v i h ∙ w.none i h;
      still = stays v w.still r;
      seen = seen_there s v w.seen ys;
    }
    local Held held w ys r = let v = valid_of c p b w.valid in record {
      valid = valid_kept c p (with_spins b xs) (valid_there s v);
      some = some_back s v w.some;
      one = w.one;
      held = held_there s v w.held;
      still = stays v w.still r;
      seen = seen_there s v w.seen ys;
    }
    local Moved moved w ys r = let v = valid_of c p b w.valid in record {
      valid = valid_kept c p (with_spins b xs) (valid_there s v);
      some = some_back s v w.some;
      free = λ one h. w.free one (held_back s v h);
      moved = λ t. moves_there s v b'.labels b'.grey_labels (perms_at s v b'.labels (w.seen.all t).labels.labels) (w.moved t) ys r;
      turned = λ t. turned_there s v t (w.turned t) ys r;
      seen = seen_there s v w.seen ys;
    }
    local (Refused _) x4 w ys r = elim x4 [ ]

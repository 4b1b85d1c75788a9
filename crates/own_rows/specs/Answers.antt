-- What is asked of a move is asked of it on its group's own rows, and its answer there is its answer in the panel.
use Rattle.std.specs.Prelude.{ℕ, ◌≤◌, ◌<◌, ◌≡◌, refl, Bool, true, false, List, length, ℤ, nat_abs}
use Rattle.std.proofs.Common.{sym, ◌∙◌, ap, subst, arith}
use Rattle.lemmas.specs.Bools.{and_right}
use Rattle.paper.specs.Answer.Cases.{Answer, Answer.Idle, Answer.Held, Answer.Moved, Answer.Refused}
use Rattle.paper.specs.Panel.Input.{graph, Call, Choices, Buffers, pattern, spin, size, system}
use Rattle.paper.specs.Panel.Takes.{is_cmr, is_perm, grows_by, moves}
use Rattle.paper.specs.Site.Acting.{acts, SomeActs}
use Rattle.paper.specs.Site.Bonds.{holds, holds_grey}
use Rattle.paper.specs.Component.Labels.{Labels}
use Rattle.paper.specs.Component.Sizes.{label_of}
use Rattle.paper.specs.Move.Moving.{reached, Moves}
use Rattle.paper.specs.Refusal.Rule.{Kept}
use Rattle.paper.specs.Refusal.Rules.{Spin, group_names, Named, Spins, Exact, Ranged, Chosen, Seeded, Permutes, rules}
use Rattle.paper.specs.Refusal.Kept.{named, Valid, valid_of, valid_kept}
use Rattle.paper.specs.Answer.Move.{SeenAll, SeenOne, Seen, member_bonds, SeedHeld, Turns, Answers, Accepted, Accepted.idle, Accepted.held, Accepted.moved}
use Rattle.paper.specs.Answer.Totals.{total, TotalsAsked, kept_rules, kept_valid, kept_asked, asked_kept}
use Rattle.laws.specs.Forms.{grows_one, grows_moves}
use Rattle.laws.specs.Unique.{HoldAlike, GroupIs, label_lt, spins_equal, joined_ext, numbered_ext, members_ext, counts_ext, sizes_ext}
use Rattle.laws.specs.Entries.{perm_of, reached_moves, perms_of, perms_grown}
use Rattle.laws.specs.AnswersLocal.{with_spins}
use Rattle.packing.specs.Bytes.{own_group}
use Rattle.packing.specs.Gathered.{group_rows, length_group, own_of}
use Rattle.packing.proofs.Laws.{own_grouped}
use Rattle.own_rows.specs.PutBack.{group_totals, length_totals, total_at, PutBack, own_sees, back_sees}
use Rattle.own_rows.specs.Alike.{OwnAlike, acts_own, holds_own, grey_own, final_own}

-- the buffers of the call on the group's own rows
abbrev pub own_buffers : Call → Buffers → Buffers
own_buffers c b = with_spins b (group_rows c b.spins)

module _ {c : Call} {p : Choices} {b : Buffers} (v : Valid c p b) where
  abbrev o : Call
  o = own_of c

  abbrev xs : List ℤ
  xs = b.spins

  abbrev rows : List ℤ
  rows = group_rows c b.spins

  few : size c ≤ 8
  few = v.sound.ranged.size_high

  alike : OwnAlike c xs rows
  alike = record {
    patterns = own_sees c few xs;
    reference = v.fit.chosen.reference;
    inside = λ i e hi he. (v.sound.inverse.there i e hi he).inside;
    some = omega (arith, v.sound.ranged.size_low);
    two = v.sound.ranged.cmr_two;
  }

  acts_same : (i : ℕ) → i < c.lattice.n → acts c xs i ≡ acts o rows i
  acts_same = acts_own c xs rows alike

  some_there : SomeActs o rows → SomeActs c xs
  some_there q = record { site = q.site; below = q.below; does = acts_same q.site q.below ∙ q.does }

  -- ---- the rules

  ranged_own : Ranged c.lattice.n c.lattice.d (size c) c.mode (size c)
  ranged_own = let r = v.sound.ranged in record {
    lattice = record {
      n_low = r.lattice.n_low;
      n_high = r.lattice.n_high;
      d_low = r.lattice.d_low;
      d_high = r.lattice.d_high;
      s_low = omega (arith, r.size_low);
      s_high = omega (arith, r.size_high);
    };
    size_low = r.size_low;
    size_high = r.size_high;
    cmr_two = r.cmr_two;
  }

  exact_own : Exact o p (own_buffers c b)
  exact_own = let e = v.sound.exact in record {
    spins = length_group c xs;
    fwd = e.fwd;
    bwd = e.bwd;
    pins = e.pins;
    couplings = e.couplings;
    cuts = e.cuts;
    choices = e.choices;
    greys = e.greys;
    labels = e.labels;
    grey_labels = e.grey_labels;
    counts = e.counts;
    sizes = e.sizes;
    members = e.members;
    found = e.found;
    grey_found = e.grey_found;
  }

  spins_own : Spins c.lattice.n (Named (size c) (group_names (own_group (size c)))) rows
  spins_own t i h hi =
      subst (λ (u : ℕ). Spin (spin c.lattice.n rows u i)) h.is
      (rw (← own_sees c few xs i hi h.place h.below)
      (v.sound.spins (system c h.place) i (named h.place h.below v.sound.grouped) hi))

  chosen_own : Chosen o p
  chosen_own = let f = v.fit.chosen in record {
    perms = f.perms;
    not_identity_lem = f.not_identity_lem;
    flips = f.flips;
    greys = f.greys;
    grey_some = f.grey_some;
    reference = f.reference;
  }

  seeded_own : Seeded o rows
  seeded_own = let h = v.fit.seeded in record {
    below = h.below;
    acting = λ t q. sym (acts_same c.seed (h.below t)) ∙ h.acting t (some_there q);
  }

  pub valid_own : Valid (own_of c) p (own_buffers c b)
  valid_own = record {
    sound = record {
      ranged = ranged_own;
      houd = v.sound.houd;
      exact = exact_own;
      spins = spins_own;
      inverse = v.sound.inverse;
      pins = v.sound.pins;
      grouped = own_grouped (size c) few;
      couplings = v.sound.couplings;
      warm = v.sound.warm;
    };
    fit = record { cuts = v.fit.cuts; chosen = chosen_own; seeded = seeded_own };
  }

  pub asked_own :
      (keeping : Bool) (ts : List ℤ) → TotalsAsked keeping c.lattice (group_names c.group) ts
      → TotalsAsked keeping (own_of c).lattice (group_names (own_group (size c))) (group_totals c ts)
  asked_own keeping ts a = record {
    lengths = λ e. record { couplings = (a.lengths e).couplings; totals = length_totals c ts };
    couplings = a.couplings;
    small = λ e t h. at e t h.inside;
  }
    where
      at : keeping ≡ true → (k : ℕ) → k < size c → nat_abs (total (group_totals c ts) k) ≤ 16384000000
      at e k h = rw (total_at c ts k h) (a.small e (system c k) (named k h v.sound.grouped))

  -- ---- what is written beside the spins

  -- the same bonds hold
  blue : HoldAlike (graph c) (holds o rows) (holds c xs)
  blue i e hi he = sym (holds_own c xs rows alike i e hi he)

  grey : is_cmr c.mode ≡ true → HoldAlike (graph c) (holds_grey o rows) (holds_grey c xs)
  grey t i e hi he = sym (grey_own c xs rows alike t i e hi he)

  bonds : HoldAlike (graph c) (member_bonds o rows) (member_bonds c xs)
  bonds i e hi he = go (is_cmr c.mode) refl
    where
      go : (t : Bool) → is_cmr c.mode ≡ t → member_bonds o rows i e ≡ member_bonds c xs i e
      go true q = rw q (grey q i e hi he)
      go false q = rw q (blue i e hi he)

  -- so the seed's component is held by the same site
  held_there : SeedHeld o rows → SeedHeld c xs
  held_there h = record {
    site = h.site;
    below = h.below;
    pin = h.pin;
    joined = joined_ext (graph c) (holds o rows) (holds c xs) blue h.joined;
  }

  held_back : SeedHeld c xs → SeedHeld o rows
  held_back h = record {
    site = h.site;
    below = h.below;
    pin = h.pin;
    joined = joined_ext (graph c) (holds c xs) (holds o rows) (λ i e hi he. sym (blue i e hi he)) h.joined;
  }

  all_there : {b' : Buffers} → SeenAll o (own_buffers c b) b' → (ys : List ℤ) → SeenAll c b (with_spins b' ys)
  all_there {b'} w ys = record {
    labels = numbered_ext (graph c) (holds o rows) (holds c xs) b'.labels b'.found blue w.labels;
    grey_labels = λ t.
        numbered_ext (graph c) (holds_grey o rows) (holds_grey c xs) b'.grey_labels b'.grey_found (grey (and_right (moves c.form) _ t))
        (w.grey_labels t);
    grey_kept = w.grey_kept;
    grey_found_kept = w.grey_found_kept;
    counts = counts_ext b'.labels marks w.counts;
    sizes = sizes_ext b'.labels marks w.sizes;
    members_kept = w.members_kept;
  }
    where
      marks : (i : ℕ) → i < length b'.labels → acts o rows i ≡ acts c xs i
      marks i h = sym (acts_same i (rw w.labels.labels.long at h))

  one_there : {b' : Buffers} → grows_by c.form ≡ true → SeenOne o (own_buffers c b) b' → (ys : List ℤ) → SeenOne c b (with_spins b' ys)
  one_there {b'} g w ys = record {
    members = λ t. members_ext (graph c) (member_bonds o rows) (member_bonds c xs) c.seed b'.members bonds (w.members (sym seed ∙ t));
    none = λ t. w.none (sym seed ∙ t);
    labels_kept = w.labels_kept;
    grey_kept = w.grey_kept;
    counts_kept = w.counts_kept;
    sizes_kept = w.sizes_kept;
    found_kept = w.found_kept;
    grey_found_kept = w.grey_found_kept;
  }
    where
      seed : acts c xs c.seed ≡ acts o rows c.seed
      seed = acts_same c.seed (v.fit.seeded.below (grows_one c.form g))

  seen_there : {b' : Buffers} → Seen o (own_buffers c b) b' → (ys : List ℤ) → Seen c b (with_spins b' ys)
  seen_there w ys = record { all = λ t. all_there (w.all t) ys; one = λ t. one_there t (w.one t) ys }

  -- ---- the spins

  -- the choices are right wherever the list l says that a site is reached
  abbrev PermsAt : List ℕ → Type 0
  PermsAt l = (i : ℕ) → i < c.lattice.n → reached c xs l i ≡ true → is_perm c.mode ≡ true → Permutes (size c) (perm_of c p (label_of l i))

  perms_at : {found : ℕ} (l : List ℕ) → Labels (graph c) (holds o rows) l found → PermsAt l
  perms_at l h i hi e q =
      perms_of v (rw (reached_moves c xs l i e, q)) (label_of l i)
      (label_lt (graph c) (holds o rows) l h i hi)

  moves_there : (l g : List ℕ) {zs : List ℤ} → PermsAt l → Moves o p rows l g zs → (ys : List ℤ) → PutBack c xs zs ys → Moves c p xs l g ys
  moves_there l g perms w ys r = record {
    long = r.long;
    group = λ i k hi hk. back_sees c few r i hi k hk ∙ (w.group i k hi hk ∙ sym (final_own c xs rows alike p l g i k hi hk (perms i hi)));
    others = r.others;
  }

  turned_there : {m : List ℕ} {zs : List ℤ} → grows_by c.form ≡ true → Turns o p rows m zs → (ys : List ℤ) → PutBack c xs zs ys → Turns c p xs m ys
  turned_there {m} g w ys r = record {
    blue = w.blue;
    joined = members_ext (graph c) (holds o rows) (holds c xs) c.seed w.blue blue w.joined;
    moved = moves_there w.blue m (λ i hi e q. perms_grown v g (rw (grows_moves c.form g, q)) (label_of w.blue i)) w.moved ys r;
  }

  -- rows that stay, put back, change nothing
  stays : {zs ys : List ℤ} → zs ≡ rows → PutBack c xs zs ys → ys ≡ xs
  stays {zs} {ys} still r = spins_equal c ys xs v.sound.ranged.lattice.n_low r.long back r.others
    where
      back : GroupIs c ys (pattern c xs)
      back i k hi hk = back_sees c few r i hi k hk ∙ (ap (λ (z : List ℤ). pattern o z i k) still ∙ sym (own_sees c few xs i hi k hk))

-- ---- together

pub own_kept : (c : Call) (p : Choices) (b : Buffers) → Kept (rules c p b) → Kept (rules (own_of c) p (with_spins b (group_rows c b.spins)))
own_kept c p b k = valid_kept (own_of c) p (own_buffers c b) (valid_own (valid_of c p b k))

pub own_kept_totals :
    (keeping : Bool) (c : Call) (p : Choices) (b : Buffers) (ts : List ℤ) → Kept (kept_rules keeping c p b ts)
    → Kept (kept_rules keeping (own_of c) p (with_spins b (group_rows c b.spins)) (group_totals c ts))
own_kept_totals keeping c p b ts k =
    let v = kept_valid keeping c p b ts k in
    asked_kept keeping (own_of c) p (own_buffers c b) (group_totals c ts) (valid_own v) (asked_own v keeping ts (kept_asked keeping c p b ts k))

pub own_answers :
    (c : Call) (p : Choices) (b : Buffers) → Kept (rules c p b)
    → (a : Answer) → Accepted a
    → (b' : Buffers) → Answers (own_of c) p (with_spins b (group_rows c b.spins)) a b'
    → (ys : List ℤ) → PutBack c b.spins b'.spins ys
    → Answers c p b a (with_spins b' ys)
own_answers c p b k Idle idle b' w ys r = let v = valid_of c p b k in record {
  valid = k;
  none = λ i h. acts_same v i h ∙ w.none i h;
  still = stays v w.still r;
  seen = seen_there v w.seen ys;
}
own_answers c p b k Held held b' w ys r = let v = valid_of c p b k in record {
  valid = k;
  some = some_there v w.some;
  one = w.one;
  held = held_there v w.held;
  still = stays v w.still r;
  seen = seen_there v w.seen ys;
}
own_answers c p b k Moved moved b' w ys r = let v = valid_of c p b k in record {
  valid = k;
  some = some_there v w.some;
  free = λ one h. w.free one (held_back v h);
  moved = λ t. moves_there v b'.labels b'.grey_labels (perms_at v b'.labels (w.seen.all t).labels.labels) (w.moved t) ys r;
  turned = λ t. turned_there v t (w.turned t) ys r;
  seen = seen_there v w.seen ys;
}
own_answers c p b k (Refused _) x4 b' w ys r = elim x4 [ ]

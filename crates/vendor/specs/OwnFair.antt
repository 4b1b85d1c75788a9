-- What our own move writes: on each component one permutation by the mode's rule, whatever the form and the pins.
use Rattle.std.specs.Prelude.{ℕ, ◌<◌, ◌≡◌, ◌⊎◌, Bool, true, false, List, eqb, leb, ℤ, ◌*ℤ◌}
use Rattle.std.proofs.Math.Path.{refl}
use Rattle.std.proofs.Common.{sym, ◌∙◌, ap, inl, inr}
use Rattle.lemmas.specs.Bools.{never, and_no}
use Rattle.paper.specs.declared.Mode.{Mode}
use Rattle.paper.specs.declared.Mode.TheVariants.{Houd, Pair, Perm, Gperm, Jorg, Cmr}
use Rattle.paper.specs.declared.Form.{Form}
use Rattle.paper.specs.declared.Form.TheVariants.{Sw, Wolff, Observe, Grow}
use Rattle.paper.specs.Answer.Cases.{Answer, Answer.Idle, Answer.Held, Answer.Moved, Answer.Refused}
use Rattle.paper.specs.Panel.Input.{Call, Choices, Buffers, Pattern, graph, pattern, pinned, size}
use Rattle.paper.specs.Panel.Takes.{is_perm, is_gperm, is_cmr, grows_by, labels_by, moves}
use Rattle.paper.specs.Site.Acting.{acts}
use Rattle.paper.specs.Site.Bonds.{holds}
use Rattle.paper.specs.Component.Links.{trans, back}
use Rattle.paper.specs.Component.Labels.{Joined, Labels}
use Rattle.paper.specs.Component.Sizes.{label_of, size_of}
use Rattle.paper.specs.Move.Moving.{act_by, least_size, reached_by, reached, final, Moves}
use Rattle.paper.specs.Refusal.Rules.{Spin, Permutes}
use Rattle.paper.specs.Refusal.Kept.{Valid, valid_of}
use Rattle.paper.specs.Answer.Move.{Goes, Answers, Accepted, Accepted.idle, Accepted.held, Accepted.moved}
use Rattle.laws.specs.Patterns.{Spinning, times_spin}
use Rattle.laws.specs.Forms.{by_form}
use Rattle.laws.specs.Entries.{perm_of, reached_moves, spin_of, perms_of, perms_grown}
use Rattle.laws.specs.Unique.{one_byte, label_lt}
use Rattle.laws.specs.Counting.{acts_one}
use Rattle.laws.specs.Holding.{one_is}
use Rattle.laws.specs.HeldStill.{held_still}
use Rattle.vendor.specs.Vendor.{turned_by, Explained, ActsIn, Unchanged, Fair}

-- ---- patterns
twice : (a x : ℤ) → Spin a → Spin x → a *ℤ a *ℤ x ≡ x
twice a x (inl p) (inl q) = rw (p, q)
twice a x (inl p) (inr q) = rw (p, q)
twice a x (inr p) (inl q) = rw (p, q)
twice a x (inr p) (inr q) = rw (p, q)

-- the identity turns a pattern of spins into itself
pub identity : (m : ℕ) → Permutes m (λ k. k)
identity m = record { within = λ k h. h; distinct = λ a b ha hb e. e }

pub turned_same : (m : Mode) (P f : Pattern) (k : ℕ) → (is_gperm m ≡ true → Spin (P k)) → Spin (f k) → turned_by m P (λ j. j) f k ≡ f k
turned_same Houd P f k s q = refl
turned_same Pair P f k s q = refl
turned_same Perm P f k s q = refl
turned_same Gperm P f k s q = twice (P k) (f k) (s refl) q
turned_same Jorg P f k s q = refl
turned_same Cmr P f k s q = refl

-- a permutation turns spins into spins
turned_spin :
    (m : Mode) (n : ℕ) (P f : Pattern) (q : ℕ → ℕ) → Permutes n q → (is_gperm m ≡ true → Spinning n P) → Spinning n f → Spinning n (turned_by m P q f)
turned_spin Houd n P f q w s u k h = u (q k) (w.within k h)
turned_spin Pair n P f q w s u k h = u (q k) (w.within k h)
turned_spin Perm n P f q w s u k h = u (q k) (w.within k h)
turned_spin Gperm n P f q w s u k h =
    times_spin (P k *ℤ P (q k)) (f (q k)) (times_spin (P k) (P (q k)) (s refl k h) (s refl (q k) (w.within k h))) (u (q k) (w.within k h))
turned_spin Jorg n P f q w s u k h = u (q k) (w.within k h)
turned_spin Cmr n P f q w s u k h = u (q k) (w.within k h)

act_turned :
    (m : Mode) (c : Call) (p : Choices) (P f : Pattern) (r k : ℕ) → is_perm m ≡ true → act_by m c p P r f k ≡ turned_by m P (perm_of c p r) f k
act_turned Houd c p P f r k e = never e
act_turned Pair c p P f r k e = never e
act_turned Perm c p P f r k e = refl
act_turned Gperm c p P f r k e = refl
act_turned Jorg c p P f r k e = never e
act_turned Cmr c p P f r k e = never e

not_cmr : (m : Mode) → is_perm m ≡ true → is_cmr m ≡ false
not_cmr Houd e = refl
not_cmr Pair e = refl
not_cmr Perm e = refl
not_cmr Gperm e = refl
not_cmr Jorg e = refl
not_cmr Cmr e = never e

-- ---- which sites a move reaches is told by their numbers in its list
one_reached : (f : Form) (m : Mode) (seed : ℕ) (l : List ℕ) (i j : ℕ) → label_of l i ≡ label_of l j → reached_by f m seed l i ≡ reached_by f m seed l j
one_reached Sw m seed l i j e = ap (λ (x : ℕ). leb (least_size m) (size_of l x)) e
one_reached Wolff m seed l i j e = ap (λ (x : ℕ). eqb x (label_of l seed)) e
one_reached Observe m seed l i j e = refl
one_reached Grow m seed l i j e = ap (λ (x : ℕ). eqb x 1) e

reached_one : (c : Call) (xs : List ℤ) (l : List ℕ) (i j : ℕ) → acts c xs i ≡ acts c xs j → label_of l i ≡ label_of l j → reached c xs l i ≡ reached c xs l j
unfolding reached
reached_one c xs l i j a e = cc (one_reached c.form c.mode c.seed l i j e)

-- ---- moved by a list of labels or of members: it has one number on each component, and a permutation for each
record MovedBy (c : Call) (p : Choices) (xs ys : List ℤ) : Type 0 where
  list : List ℕ
  grey : List ℕ
  moved : Moves c p xs list grey ys
  one : (i j : ℕ) → i < c.lattice.n → j < c.lattice.n → Joined (graph c) (holds c xs) i j → label_of list i ≡ label_of list j
  perms : (i : ℕ) → i < c.lattice.n → moves c.form ≡ true → Permutes (size c) (perm_of c p (label_of list i))

moved_by : (c : Call) (p : Choices) (b b' : Buffers) → is_perm c.mode ≡ true → Goes c p b b' → MovedBy c p b.spins b'.spins
moved_by c p b b' perm w = go (by_form c.form)
  where
    v : Valid c p b
    v = valid_of c p b w.valid

    go : (labels_by c.form ≡ true) ⊎ (grows_by c.form ≡ true) → MovedBy c p b.spins b'.spins
    go (inl f) =
        let l = (w.seen.all f).labels.labels in
        record {
          list = b'.labels;
          grey = b'.grey_labels;
          moved = w.moved f;
          one = λ i j hi hj q. l.same i j hi hj q;
          perms = λ i hi e. perms_of v (rw (e, perm)) (label_of b'.labels i) (label_lt (graph c) (holds c b.spins) b'.labels l i hi);
        }
    go (inr f) =
        let t = w.turned f in
        let m = t.joined in
        record {
          list = t.blue;
          grey = b'.members;
          moved = t.moved;
          one = λ i j hi hj q.
              one_byte (label_of t.blue i) (label_of t.blue j) (m.byte i hi) (m.byte j hj)
              (λ e. m.marked j hj (trans (m.joined i hi e) q))
              (λ e. m.marked i hi (trans (m.joined j hj e) (back q)));
          perms = λ i hi e. perms_grown v f (rw (e, perm)) (label_of t.blue i);
        }

module _ (c : Call) (p : Choices) (b : Buffers) (ys : List ℤ) (valid : Valid c p b) (perm : is_perm c.mode ≡ true) where
  abbrev xs : List ℤ
  xs = b.spins

  abbrev P : Pattern
  P = pattern c xs c.reference

  spinning : is_gperm c.mode ≡ true → Spinning (size c) P
  spinning g = spin_of valid c.reference (valid.fit.chosen.reference g)

  -- what stays is explained by the identity
  stays : (l : List ℕ) (r : ℕ) → ((i : ℕ) → i < c.lattice.n → label_of l i ≡ r → Unchanged c xs ys i) → Explained c xs ys l r
  stays l r same = record {
    by = λ k. k;
    explains = record {
      permutes = identity (size c);
      turns = λ i k hi hk q. same i hi q k hk ∙ sym (turned_same c.mode P (pattern c xs i) k (λ g. spinning g k hk) (spin_of valid i hi k hk));
    };
  }

  module _ (w : MovedBy c p xs ys) where
    turned : (i k : ℕ) → i < c.lattice.n → k < size c → reached c xs w.list i ≡ true
        → pattern c ys i k ≡ turned_by c.mode P (perm_of c p (label_of w.list i)) (pattern c xs i) k
    unfolding final
    turned i k hi hk e =
        w.moved.group i k hi hk
        ∙ rw (not_cmr c.mode perm, and_no (moves c.form), e) (act_turned c.mode c p P (pattern c xs i) (label_of w.list i) k perm)

    still : (i : ℕ) → i < c.lattice.n → reached c xs w.list i ≡ false → Unchanged c xs ys i
    unfolding final
    still i hi e k hk = w.moved.group i k hi hk ∙ rw (not_cmr c.mode perm, and_no (moves c.form), e) refl

    idle_still : (i : ℕ) → i < c.lattice.n → acts c xs i ≡ false → Unchanged c xs ys i
    unfolding reached
    idle_still i hi e = still i hi (rw e refl)

    gone_spins : (i : ℕ) → i < c.lattice.n → Spinning (size c) (pattern c ys i)
    gone_spins i hi k hk = go (reached c xs w.list i) refl
      where
        go : (t : Bool) → reached c xs w.list i ≡ t → Spin (pattern c ys i k)
        go true e =
            rw (turned i k hi hk e)
            (turned_spin c.mode (size c) P (pattern c xs i) (perm_of c p (label_of w.list i)) (w.perms i hi (reached_moves c xs w.list i e))
            spinning (spin_of valid i hi) k hk)
        go false e = rw (still i hi e k hk) (spin_of valid i hi k hk)

    -- the sites of a component are all reached, or none is
    gone_explained : {found : ℕ} (l : List ℕ) → Labels (graph c) (holds c xs) l found → (r : ℕ) → ActsIn c xs l r → Explained c xs ys l r
    gone_explained l labels r a = go (reached c xs w.list a.site) refl
      where
        joined : (i : ℕ) → i < c.lattice.n → label_of l i ≡ r → Joined (graph c) (holds c xs) i a.site
        joined i hi q = labels.joined i a.site hi a.below (q ∙ sym a.label)

        number : (i : ℕ) → i < c.lattice.n → label_of l i ≡ r → label_of w.list i ≡ label_of w.list a.site
        number i hi q = w.one i a.site hi a.below (joined i hi q)

        same : (i : ℕ) → i < c.lattice.n → label_of l i ≡ r → reached c xs w.list i ≡ reached c xs w.list a.site
        same i hi q = reached_one c xs w.list i a.site (acts_one c xs (joined i hi q)) (number i hi q)

        go : (t : Bool) → reached c xs w.list a.site ≡ t → Explained c xs ys l r
        go true e = record {
          by = perm_of c p (label_of w.list a.site);
          explains = record {
            permutes = w.perms a.site a.below (reached_moves c xs w.list a.site e);
            turns = λ i k hi hk q. rw (← number i hi q) (turned i k hi hk (same i hi q ∙ e));
          };
        }
        go false e = stays l r (λ i hi q. still i hi (same i hi q ∙ e))

-- ---- any answer that is no refusal
pub own_valid : (c : Call) (p : Choices) (b b' : Buffers) (a : Answer) → Accepted a → Answers c p b a b' → Valid c p b
own_valid c p b b' Idle idle w = valid_of c p b w.valid
own_valid c p b b' Held held w = valid_of c p b w.valid
own_valid c p b b' Moved moved w = valid_of c p b w.valid
own_valid c p b b' (Refused _) x3 w = elim x3 [ ]

module _ (c : Call) (p : Choices) (b b' : Buffers) (perm : is_perm c.mode ≡ true) where
  kept : b'.spins ≡ b.spins → (i : ℕ) → Unchanged c b.spins b'.spins i
  kept e i k hk = ap (λ (z : List ℤ). pattern c z i k) e

  pub own_spins : (a : Answer) → Accepted a → Answers c p b a b' → (i : ℕ) → i < c.lattice.n → Spinning (size c) (pattern c b'.spins i)
  own_spins Idle idle w i hi = rw w.still (spin_of (valid_of c p b w.valid) i hi)
  own_spins Held held w i hi = rw w.still (spin_of (valid_of c p b w.valid) i hi)
  own_spins Moved moved w i hi = gone_spins c p b b'.spins (valid_of c p b w.valid) perm (moved_by c p b b' perm w) i hi
  own_spins (Refused _) x4 w i hi = elim x4 [ ]

  module _ {found : ℕ} (l : List ℕ) (labels : Labels (graph c) (holds c b.spins) l found) (r : ℕ) where
    acting : (a : Answer) → Accepted a → Answers c p b a b' → ActsIn c b.spins l r → Explained c b.spins b'.spins l r
    acting Idle idle w s = stays c p b b'.spins (valid_of c p b w.valid) perm l r (λ i hi q. kept w.still i)
    acting Held held w s = stays c p b b'.spins (valid_of c p b w.valid) perm l r (λ i hi q. kept w.still i)
    acting Moved moved w s = gone_explained c p b b'.spins (valid_of c p b w.valid) perm (moved_by c p b b' perm w) l labels r s
    acting (Refused _) x4 w s = elim x4 [ ]

    resting : (a : Answer) → Accepted a → Answers c p b a b' → (i : ℕ) → i < c.lattice.n → acts c b.spins i ≡ false
        → Unchanged c b.spins b'.spins i
    resting Idle idle w i hi e = kept w.still i
    resting Held held w i hi e = kept w.still i
    resting Moved moved w i hi e = idle_still c p b b'.spins (valid_of c p b w.valid) perm (moved_by c p b b' perm w) i hi e
    resting (Refused _) x5 w i hi e = elim x5 [ ]

    -- no component of the move is at fault
    pub own_fair : (a : Answer) → Accepted a → Answers c p b a b' → Fair c b.spins b'.spins l r
    own_fair a ok w = record {
      acting = acting a ok w;
      idle = λ i hi q e. resting a ok w i hi e;
      held = λ e i hi q.
          let o = one_is (pinned c) l r e in
          let hj = rw labels.long at o.below in
          held_still c p b b' i o.site hi hj o.marked (labels.joined i o.site hi hj (q ∙ sym o.label)) a w;
    }

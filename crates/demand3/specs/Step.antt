-- What an accepted call of a reversible mode tells, all of it from the rules that it keeps.
use Rattle.std.specs.Prelude.{ℕ, ◌<◌, ◌≡◌, refl, true, false, List, length, ℤ}
use Rattle.std.proofs.Common.{sym, ◌∙◌, ap, arith}
use Rattle.std.proofs.Math.Decide.{ℕ_discrete}
use Rattle.lemmas.specs.Bools.{and_left, and_no}
use Rattle.paper.specs.Panel.Input.{graph, Call, Choices, Buffers, pattern, size, ahead}
use Rattle.paper.specs.Panel.Takes.{grows_by, labels_by, moves, is_cmr, takes_perms, takes_reference}
use Rattle.paper.specs.Site.Acting.{acts}
use Rattle.paper.specs.Site.Bonds.{holds}
use Rattle.paper.specs.Component.Links.{Linked.stay, Linked.along, trans, back}
use Rattle.paper.specs.Component.Labels.{Joined, Labels}
use Rattle.paper.specs.Component.Members.{Members}
use Rattle.paper.specs.Component.Sizes.{label_of}
use Rattle.paper.specs.Move.Moving.{reached, after, final}
use Rattle.paper.specs.Refusal.Rules.{When, Permutes}
use Rattle.paper.specs.Refusal.Kept.{Valid, valid_of}
use Rattle.paper.specs.Answer.Move.{SeenAll, Goes}
use Rattle.laws.specs.Forms.{forms_apart}
use Rattle.laws.specs.Unique.{same_label, label_lt, GroupIs, OthersOf}
use Rattle.laws.specs.Patterns.{Spinning}
use Rattle.laws.specs.Entries.{perm_of, perms_of, perms_grown, spin_of}
use Rattle.demand3.specs.Statement.{Reversible, Move}
use Rattle.demand3.specs.Reversible.{not_cmr}
use Rattle.demand3.specs.Held.{none_reached}

-- the list l tells each site's component: its number, or in grow whether it is a member. So it tells the site's entry of the choices
pub record Told (c : Call) (p : Choices) (xs : List ℤ) (l : List ℕ) : Type 0 where
  pub labels : When (labels_by c.form) ((found : ℕ) × Labels (graph c) (holds c xs) l found)
  pub joint : (i e : ℕ) → i < c.lattice.n → e < c.lattice.d → holds c xs i e ≡ true → label_of l i ≡ label_of l (ahead c i e)
  pub perms : takes_perms c ≡ true → (i : ℕ) → i < c.lattice.n → Permutes (size c) (perm_of c p (label_of l i))

-- from the spins xs to the spins ys
pub record Step (c : Call) (p : Choices) (xs : List ℤ) (l : List ℕ) (ys : List ℤ) : Type 0 where
  pub reversible : Reversible c.mode (size c)
  pub some_site : 0 < c.lattice.n
  pub some_size : 0 < size c
  pub inside : (i e : ℕ) → i < c.lattice.n → e < c.lattice.d → ahead c i e < c.lattice.n
  pub spins : (i : ℕ) → i < c.lattice.n → Spinning (size c) (pattern c xs i)
  pub reference : takes_reference c ≡ true → c.reference < c.lattice.n
  pub told : Told c p xs l
  pub long : length ys ≡ length xs
  pub group : GroupIs c ys (after c p xs l)
  pub others : OthersOf c xs ys

pub reached_no : (c : Call) (xs : List ℤ) (l : List ℕ) (i : ℕ) → acts c xs i ≡ false → reached c xs l i ≡ false
unfolding reached
reached_no c xs l i e = rw e

pub reached_acts : (c : Call) (xs : List ℤ) (l : List ℕ) (i : ℕ) → reached c xs l i ≡ true → acts c xs i ≡ true
unfolding reached
reached_acts c xs l i e = and_left (acts c xs i) _ e

pub final_after : (c : Call) (p : Choices) (xs : List ℤ) (l g : List ℕ) (i k : ℕ) → is_cmr c.mode ≡ false → final c p xs l g i k ≡ after c p xs l i k
unfolding final
final_after c p xs l g i k e = rw (e, and_no (moves c.form))

module _ {c : Call} {p : Choices} {b : Buffers} (valid : Valid c p b) where
  inside : (i e : ℕ) → i < c.lattice.n → e < c.lattice.d → ahead c i e < c.lattice.n
  inside i e hi he = (valid.sound.inverse.there i e hi he).inside

  -- a bond that holds, as a way from its site to the one ahead
  over :
      (i e : ℕ)
      → i < c.lattice.n
      → e < c.lattice.d
      → holds c b.spins i e ≡ true
      → Joined (graph c) (holds c b.spins) i (ahead c i e)
  over i e hi he on = along (record { site = hi; dir = e; dir_lt = he; on = on; leads = refl }) stay

  told_labels : {found : ℕ} (l : List ℕ) → Labels (graph c) (holds c b.spins) l found → Told c p b.spins l
  told_labels {found} l labels = record {
    labels = λ _. (found, labels);
    joint = λ i e hi he on. (same_label (graph c) (holds c b.spins) l labels i (ahead c i e) hi (inside i e hi he)).1 (over i e hi he on);
    perms = λ t i hi. perms_of valid t (label_of l i) (label_lt (graph c) (holds c b.spins) l labels i hi);
  }

  told_members : (l : List ℕ) → grows_by c.form ≡ true → Members (graph c) (holds c b.spins) c.seed l → Told c p b.spins l
  told_members l grows m = record {
    labels = λ f. forms_apart c.form f grows;
    joint = joint;
    perms = λ t i hi. perms_grown valid grows t (label_of l i);
  }
    where
      joint : (i e : ℕ) → i < c.lattice.n → e < c.lattice.d → holds c b.spins i e ≡ true → label_of l i ≡ label_of l (ahead c i e)
      joint i e hi he on = go (ℕ_discrete (label_of l i) 1) (ℕ_discrete (label_of l (ahead c i e)) 1)
        where
          hj : ahead c i e < c.lattice.n
          hj = inside i e hi he

          go : Dec (label_of l i ≡ 1) → Dec (label_of l (ahead c i e) ≡ 1) → label_of l i ≡ label_of l (ahead c i e)
          go (yes x) y = x ∙ sym (m.marked (ahead c i e) hj (trans (m.joined i hi x) (over i e hi he on)))
          go (no x) (yes y) = absurd (x (m.marked i hi (trans (m.joined (ahead c i e) hj y) (back (over i e hi he on)))))
          go (no x) (no y) = omega (arith, m.byte i hi, m.byte (ahead c i e) hj)

  step_of :
      (l : List ℕ) (ys : List ℤ)
      → Reversible c.mode (size c)
      → Told c p b.spins l
      → length ys ≡ length b.spins
      → GroupIs c ys (after c p b.spins l)
      → OthersOf c b.spins ys
      → Step c p b.spins l ys
  step_of l ys v told long group others = record {
    reversible = v;
    some_site = valid.sound.ranged.lattice.n_low;
    some_size = omega (arith, valid.sound.ranged.size_low);
    inside = inside;
    spins = spin_of valid;
    reference = valid.fit.chosen.reference;
    told = told;
    long = long;
    group = group;
    others = others;
  }

pub seen_of : {c : Call} {p : Choices} {b b' : Buffers} → labels_by c.form ≡ true → Move c p b b' → SeenAll c b b'
seen_of f (Move.idle w) = w.seen.all f
seen_of f (Move.held w) = w.seen.all f
seen_of f (Move.moved w) = w.seen.all f

pub valid_move : {c : Call} {p : Choices} {b b' : Buffers} → Move c p b b' → Valid c p b
valid_move {c} {p} {b} (Move.idle w) = valid_of c p b w.valid
valid_move {c} {p} {b} (Move.held w) = valid_of c p b w.valid
valid_move {c} {p} {b} (Move.moved w) = valid_of c p b w.valid

pub step :
    {c : Call} {p : Choices} {b b' : Buffers}
    → Reversible c.mode (size c)
    → labels_by c.form ≡ true
    → Move c p b b'
    → Step c p b.spins b'.labels b'.spins
step {c} {p} {b} {b'} v f (Move.idle w) =
    let valid = valid_of c p b w.valid in
    step_of valid b'.labels b'.spins v (told_labels valid b'.labels (w.seen.all f).labels.labels) (ap length w.still)
    (λ i k hi hk. rw (w.still, reached_no c b.spins b'.labels i (w.none i hi)) refl)
    (λ i t hi h. rw w.still refl)
step {c} {p} {b} {b'} v f (Move.held w) =
    let valid = valid_of c p b w.valid in
    let labels = (w.seen.all f).labels.labels in
    let off = none_reached c b.spins f w.one (valid.fit.seeded.below w.one) b'.labels labels w.held in
    step_of valid b'.labels b'.spins v (told_labels valid b'.labels labels) (ap length w.still)
    (λ i k hi hk. rw (w.still, off i) refl)
    (λ i t hi h. rw w.still refl)
step {c} {p} {b} {b'} v f (Move.moved w) =
    let valid = valid_of c p b w.valid in
    let m = w.moved f in
    step_of valid b'.labels b'.spins v (told_labels valid b'.labels (w.seen.all f).labels.labels) m.long
    (λ i k hi hk. m.group i k hi hk ∙ final_after c p b.spins b'.labels b'.grey_labels i k (not_cmr c.mode (size c) v))
    m.others

-- what grows turns the sites of the seed's component
pub step_grown :
    {c : Call} {p : Choices} {b b' : Buffers}
    → Reversible c.mode (size c)
    → (g : grows_by c.form ≡ true) (w : Goes c p b b')
    → Step c p b.spins (w.turned g).blue b'.spins
step_grown {c} {p} {b} {b'} v g w =
    let valid = valid_of c p b w.valid in
    let t = w.turned g in
    let m = t.moved in
    step_of valid t.blue b'.spins v (told_members valid t.blue g t.joined) m.long
    (λ i k hi hk. m.group i k hi hk ∙ final_after c p b.spins t.blue b'.members i k (not_cmr c.mode (size c) v))
    m.others

-- What the first step found, by the paper's words: the lists that tell the components, and the rules that it tested.
use Rattle.std.specs.Prelude.{ℕ, ◌≤◌, ◌<◌, ◌≡◌, refl, ◌⊎◌, Bool, true, false, cond, List, length, get_or, ℤ}
use Rattle.std.proofs.Common.{sym, ◌∙◌, ap, subst, inl, inr, arith}
use Rattle.paper.specs.Answer.Cases.{Answer, Answer.Idle, Answer.Held, Answer.Moved, Answer.Refused}
use Rattle.paper.specs.Panel.Input.{graph, Call, Choices, Buffers, size}
use Rattle.paper.specs.Panel.Takes.{is_cmr, grows_by, labels_by, moves, takes_greys}
use Rattle.paper.specs.Site.Acting.{acts, SomeActs}
use Rattle.paper.specs.Site.Bonds.{holds, holds_grey}
use Rattle.paper.specs.Component.Links.{Linked.stay, Linked.along, Within, bind}
use Rattle.paper.specs.Component.Labels.{Bond, Joined, Labels}
use Rattle.paper.specs.Component.Members.{Members}
use Rattle.paper.specs.Component.Sizes.{label_of}
use Rattle.paper.specs.Move.Moving.{perm_at}
use Rattle.paper.specs.Refusal.Rule.{Kept}
use Rattle.paper.specs.Refusal.Rules.{Permutes}
use Rattle.paper.specs.Refusal.Kept.{Valid, valid_of}
use Rattle.paper.specs.Answer.Move.{member_bonds, Accepted, Accepted.idle, Accepted.held, Accepted.moved}
use Rattle.laws.specs.Entries.{perms_of, perms_grown}
use Rattle.laws.specs.Forms.{by_form, grows_one, grows_moves, not_grows}
use Rattle.laws.specs.Unique.{label_lt}
use Rattle.moves.specs.Moved.{Rows}
use Rattle.grow.specs.Contract.{blue_grey}
use Rattle.task_steps.specs.Label.{label_rules, LabelAccepts, LabelAnswers}
use Rattle.task_steps.specs.Choose.{Found, found_of, first_of, second_of}

-- what the first step leaves to the second
abbrev pub left_by : Buffers → List ℕ → Found
left_by b₁ blue₁ = found_of b₁.labels b₁.grey_labels b₁.members blue₁

-- an answer that is no refusal
pub accepts : (c : Call) (p : Choices) (b b₁ : Buffers) (blue blue₁ : List ℕ) (a : Answer) → Accepted a → LabelAnswers c p b blue a b₁ blue₁
    → LabelAccepts c p b blue a b₁ blue₁
accepts c p b b₁ blue blue₁ Idle idle w = w
accepts c p b b₁ blue blue₁ Held held w = w
accepts c p b b₁ blue blue₁ Moved moved w = w
accepts c p b b₁ blue blue₁ (Refused _) x3 w = elim x3 [ ]

-- the step's rules have the move's among them
pub label_valid : (c : Call) (p : Choices) (b : Buffers) (blue : List ℕ) → Kept (label_rules c p b blue) → Valid c p b
label_valid c p b blue k = valid_of c p b (k.0, (k.1.0, (k.1.1.0, k.1.1.1.1)))

-- ---- in CMR the grey component has the blue one
module _ (c : Call) (xs : List ℤ) (cmr : is_cmr c.mode ≡ true) where
  greyer : Within (Bond (graph c) (holds c xs)) (Bond (graph c) (holds_grey c xs))
  greyer x y e = along (record { site = e.site; dir = e.dir; dir_lt = e.dir_lt; on = blue_grey c xs x e.dir cmr e.on; leads = e.leads }) stay

  pub joined_grey : {i j : ℕ} → Joined (graph c) (holds c xs) i j → Joined (graph c) (holds_grey c xs) i j
  joined_grey q = bind greyer q

-- ---- which lists these are
module _ (c : Call) (f : Found) where
  first_grown : grows_by c.form ≡ true → first_of c f ≡ cond (is_cmr c.mode) f.blue f.members
  first_grown g = ap (λ (t : Bool). cond t (cond (is_cmr c.mode) f.blue f.members) f.labels) g

  pub first_plain : grows_by c.form ≡ true → is_cmr c.mode ≡ false → first_of c f ≡ f.members
  first_plain g e = first_grown g ∙ ap (λ (t : Bool). cond t f.blue f.members) e

  pub first_labelled : labels_by c.form ≡ true → first_of c f ≡ f.labels
  first_labelled l = ap (λ (t : Bool). cond t (cond (is_cmr c.mode) f.blue f.members) f.labels) (not_grows c.form l)

  pub second_grown : grows_by c.form ≡ true → second_of c f ≡ f.members
  second_grown g = ap (λ (t : Bool). cond t f.members f.grey_labels) g

  pub second_labelled : labels_by c.form ≡ true → second_of c f ≡ f.grey_labels
  second_labelled l = ap (λ (t : Bool). cond t f.members f.grey_labels) (not_grows c.form l)

-- ---- what is known of them
module _ {c : Call} {p : Choices} {b b₁ : Buffers} {blue blue₁ : List ℕ} {a : Answer} (w : LabelAccepts c p b blue a b₁ blue₁) where
  abbrev f : Found
  f = left_by b₁ blue₁

  pub valid_by : Valid c p b
  valid_by = label_valid c p b blue w.valid

  pub blue_by : grows_by c.form ≡ true → is_cmr c.mode ≡ true → Members (graph c) (holds c b.spins) c.seed blue₁
  blue_by g cmr = w.blue_sites (rw (g, grows_moves c.form g, cmr) refl)

  -- the members as bytes, also where the seed does not act and there are none
  module _ (g : grows_by c.form ≡ true) where
    pub members_long : length b₁.members ≡ c.lattice.n
    members_long = go (acts c b.spins c.seed) refl
      where
        go : (t : Bool) → acts c b.spins c.seed ≡ t → length b₁.members ≡ c.lattice.n
        go true e = ((w.seen.one g).members e).long
        go false e = ((w.seen.one g).none e).long

    pub members_byte : (i : ℕ) → i < c.lattice.n → get_or b₁.members i 0 ≤ 1
    members_byte i h = go (acts c b.spins c.seed) refl
      where
        go : (t : Bool) → acts c b.spins c.seed ≡ t → get_or b₁.members i 0 ≤ 1
        go true e = ((w.seen.one g).members e).byte i h
        go false e = omega (arith, ((w.seen.one g).none e).zeros i h)

    -- where some site acts the seed does
    module _ (some : SomeActs c b.spins) where
      pub members_by : Members (graph c) (member_bonds c b.spins) c.seed b₁.members
      members_by = (w.seen.one g).members (valid_by.fit.seeded.acting (grows_one c.form g) some)

      pub first_members : Members (graph c) (holds c b.spins) c.seed (first_of c f)
      first_members = subst (Members (graph c) (holds c b.spins) c.seed) (sym (first_grown c f g)) (go (is_cmr c.mode) refl)
        where
          go : (t : Bool) → is_cmr c.mode ≡ t → Members (graph c) (holds c b.spins) c.seed (cond t blue₁ b₁.members)
          go true e = blue_by g e
          go false e = subst (λ (t : Bool). Members (graph c) (cond t (holds_grey c b.spins) (holds c b.spins)) c.seed b₁.members) e members_by

      pub grey_members : is_cmr c.mode ≡ true → Members (graph c) (holds_grey c b.spins) c.seed b₁.members
      grey_members e = subst (λ (t : Bool). Members (graph c) (cond t (holds_grey c b.spins) (holds c b.spins)) c.seed b₁.members) e members_by

  module _ (l : labels_by c.form ≡ true) where
    pub labels_by_lem : Labels (graph c) (holds c b.spins) b₁.labels (get_or b₁.found 0 0)
    labels_by_lem = (w.seen.all l).labels.labels

    pub grey_labels_by : takes_greys c ≡ true → Labels (graph c) (holds_grey c b.spins) b₁.grey_labels (get_or b₁.grey_found 0 0)
    grey_labels_by e = ((w.seen.all l).grey_labels e).labels

  -- the permutations that the first list asks for
  pub perms_by : moves c.form ≡ true → Rows c p (first_of c f)
  perms_by m q i h = go (by_form c.form)
    where
      go : (labels_by c.form ≡ true) ⊎ (grows_by c.form ≡ true) → Permutes (size c) (perm_at c.form (size c) p.choices (label_of (first_of c f) i))
      go (inl l) =
          perms_of valid_by (rw (m, q)) (label_of (first_of c f) i)
          (rw (first_labelled c f l) (label_lt (graph c) (holds c b.spins) b₁.labels (labels_by_lem l) i h))
      go (inr g) = perms_grown valid_by g (rw (m, q)) (label_of (first_of c f) i)

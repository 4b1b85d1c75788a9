-- How tight the promise is: one input has one answer and one content of every lent buffer.
use Rattle.std.specs.Prelude.{ℕ, ◌<◌, ◌≡◌, refl, ◌⊎◌, Bool, true, false, List, ℤ}
use Rattle.std.proofs.Common.{sym, ◌∙◌, ap, inl, inr, arith}
use Rattle.lemmas.specs.Determined.{clear_determined}
use Rattle.paper.specs.Answer.Cases.{Answer, Answer.Refused, Answer.Idle, Answer.Held, Answer.Moved}
use Rattle.paper.specs.Panel.Input.{graph, Call, Choices, Buffers}
use Rattle.paper.specs.Panel.Takes.{grows_by, labels_by, takes_greys}
use Rattle.paper.specs.Site.Acting.{acts, SomeActs, NoneActs}
use Rattle.paper.specs.Site.Bonds.{holds, holds_grey}
use Rattle.paper.specs.Move.Moving.{Moves}
use Rattle.paper.specs.Refusal.Rule.{Kept, Broken, broken_unique, broken_not_kept}
use Rattle.paper.specs.Refusal.Rules.{rules}
use Rattle.paper.specs.Refusal.Kept.{valid_of}
use Rattle.paper.specs.Answer.Move.{SeenAll, SeenOne, Seen, member_bonds, Turns, Goes, Answers}
use Rattle.laws.specs.Forms.{by_form}
use Rattle.laws.specs.Unique.{numbered_unique, members_unique, counts_unique, sizes_unique, moves_unique}

pub record Same (a₁ : Answer) (b₁ : Buffers) (a₂ : Answer) (b₂ : Buffers) : Type 0 where
  pub answer : a₁ ≡ a₂
  pub buffers : b₁ ≡ b₂

pub buffers_equal :
    (y z : Buffers)
    → y.spins ≡ z.spins
    → y.labels ≡ z.labels
    → y.grey_labels ≡ z.grey_labels
    → y.counts ≡ z.counts
    → y.sizes ≡ z.sizes
    → y.members ≡ z.members
    → y.found ≡ z.found
    → y.grey_found ≡ z.grey_found
    → y ≡ z
buffers_equal y z a b c d e f g h = λ i. record {
  spins = a i;
  labels = b i;
  grey_labels = c i;
  counts = d i;
  sizes = e i;
  members = f i;
  found = g i;
  grey_found = h i;
}

pub not_both : (c : Call) (xs : List ℤ) → SomeActs c xs → NoneActs c xs → ⊥
not_both c xs s h = let e = h s.site s.below in let z : ◌≡◌ {A = ℕ} 0 1 = cc (e, s.does) in omega arith

module _ (c : Call) (p : Choices) (b : Buffers) (y z : Buffers) where
  grey_same : (t : Bool) → takes_greys c ≡ t → SeenAll c b y → SeenAll c b z → (y.grey_labels ≡ z.grey_labels) × (y.grey_found ≡ z.grey_found)
  grey_same true e p q =
      numbered_unique (graph c) (holds_grey c b.spins) y.grey_labels z.grey_labels y.grey_found z.grey_found (p.grey_labels e) (q.grey_labels e)
  grey_same false e p q = (p.grey_kept e ∙ sym (q.grey_kept e), p.grey_found_kept e ∙ sym (q.grey_found_kept e))

  labels_same : SeenAll c b y → SeenAll c b z → (y.labels ≡ z.labels) × (y.found ≡ z.found)
  labels_same s t = numbered_unique (graph c) (holds c b.spins) y.labels z.labels y.found z.found s.labels t.labels

  all_same : y.spins ≡ z.spins → SeenAll c b y → SeenAll c b z → y ≡ z
  all_same e s t =
      buffers_equal y z e l grey.0
      (counts_unique y.labels y.counts z.counts s.counts (rw l t.counts))
      (sizes_unique y.labels y.sizes z.sizes s.sizes (rw l t.sizes))
      (s.members_kept ∙ sym t.members_kept) (labels_same s t).1 grey.1
    where
      l : y.labels ≡ z.labels
      l = (labels_same s t).0

      grey : (y.grey_labels ≡ z.grey_labels) × (y.grey_found ≡ z.grey_found)
      grey = grey_same (takes_greys c) refl s t

  members_same : (t : Bool) → acts c b.spins c.seed ≡ t → SeenOne c b y → SeenOne c b z → y.members ≡ z.members
  members_same true e p q =
      members_unique (graph c) (member_bonds c b.spins) c.seed y.members z.members (p.members e) (q.members e)
  members_same false e p q = clear_determined c.lattice.n y.members z.members (p.none e) (q.none e)

  one_same : y.spins ≡ z.spins → SeenOne c b y → SeenOne c b z → y ≡ z
  one_same e s t =
      buffers_equal y z e (s.labels_kept ∙ sym t.labels_kept) (s.grey_kept ∙ sym t.grey_kept) (s.counts_kept ∙ sym t.counts_kept)
      (s.sizes_kept ∙ sym t.sizes_kept) (members_same (acts c b.spins c.seed) refl s t) (s.found_kept ∙ sym t.found_kept)
      (s.grey_found_kept ∙ sym t.grey_found_kept)

  seen_same : y.spins ≡ z.spins → Seen c b y → Seen c b z → y ≡ z
  seen_same e s t = go (by_form c.form)
    where
      go : (labels_by c.form ≡ true) ⊎ (grows_by c.form ≡ true) → y ≡ z
      go (inl q) = all_same e (s.all q) (t.all q)
      go (inr q) = one_same e (s.one q) (t.one q)

  goes_same : Goes c p b y → Goes c p b z → y ≡ z
  goes_same g h = seen_same (go (by_form c.form)) g.seen h.seen
    where
      some : 0 < c.lattice.n
      some = (valid_of c p b g.valid).sound.ranged.lattice.n_low

      -- what tells the components is the same, and so is what is moved by it
      again : labels_by c.form ≡ true → Moves c p b.spins y.labels y.grey_labels z.spins
      again q =
          let s = g.seen.all q in
          let t = h.seen.all q in
          rw ((labels_same s t).0, (grey_same (takes_greys c) refl s t).0) (h.moved q)

      turned : Turns c p b.spins y.members y.spins → Turns c p b.spins z.members z.spins → y.members ≡ z.members → y.spins ≡ z.spins
      turned s t e =
          moves_unique c p b.spins s.blue y.members y.spins z.spins some s.moved
          (rw (members_unique (graph c) (holds c b.spins) c.seed s.blue t.blue s.joined t.joined, e) t.moved)

      go : (labels_by c.form ≡ true) ⊎ (grows_by c.form ≡ true) → y.spins ≡ z.spins
      go (inl q) = moves_unique c p b.spins y.labels y.grey_labels y.spins z.spins some (g.moved q) (again q)
      go (inr q) =
          turned (g.turned q) (h.turned q) (members_same (acts c b.spins c.seed) refl (g.seen.one q) (h.seen.one q))

  pub determined : (a a' : Answer) → Answers c p b a y → Answers c p b a' z → Same a y a' z
  determined (Refused r) (Refused s) f g = record {
    answer = ap Refused (broken_unique (rules c p b) r s f.why g.why);
    buffers = f.kept ∙ sym g.kept;
  }
  determined (Refused r) Idle f g = absurd (broken_not_kept (rules c p b) r f.why g.valid)
  determined (Refused r) Held f g = absurd (broken_not_kept (rules c p b) r f.why g.valid)
  determined (Refused r) Moved f g = absurd (broken_not_kept (rules c p b) r f.why g.valid)
  determined Idle (Refused s) f g = absurd (broken_not_kept (rules c p b) s g.why f.valid)
  determined Idle Idle f g = record { answer = refl; buffers = seen_same (f.still ∙ sym g.still) f.seen g.seen }
  determined Idle Held f g = absurd (not_both c b.spins g.some f.none)
  determined Idle Moved f g = absurd (not_both c b.spins g.some f.none)
  determined Held (Refused s) f g = absurd (broken_not_kept (rules c p b) s g.why f.valid)
  determined Held Idle f g = absurd (not_both c b.spins f.some g.none)
  determined Held Held f g = record { answer = refl; buffers = seen_same (f.still ∙ sym g.still) f.seen g.seen }
  determined Held Moved f g = absurd (g.free f.one f.held)
  determined Moved (Refused s) f g = absurd (broken_not_kept (rules c p b) s g.why f.valid)
  determined Moved Idle f g = absurd (not_both c b.spins f.some g.none)
  determined Moved Held f g = absurd (f.free g.one g.held)
  determined Moved Moved f g = record { answer = refl; buffers = goes_same f g }

-- `given exactly when`: where rule r is the first that is broken the answer is the refusal r, and where all are kept it is none
pub must_refuse : (c : Call) (p : Choices) (b b' : Buffers) (a : Answer) (r : ℕ) → Answers c p b a b' → Broken (rules c p b) r → a ≡ Refused r
must_refuse c p b b' (Refused s) r f w = ap Refused (broken_unique (rules c p b) s r f.why w)
must_refuse c p b b' Idle r f w = absurd (broken_not_kept (rules c p b) r w f.valid)
must_refuse c p b b' Held r f w = absurd (broken_not_kept (rules c p b) r w f.valid)
must_refuse c p b b' Moved r f w = absurd (broken_not_kept (rules c p b) r w f.valid)

pub must_accept : (c : Call) (p : Choices) (b b' : Buffers) (r : ℕ) → Answers c p b (Refused r) b' → Kept (rules c p b) → ⊥
must_accept c p b b' r f k = broken_not_kept (rules c p b) r f.why k

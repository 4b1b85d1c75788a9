-- What the form that grows leaves of the first step.
use Rattle.std.specs.Prelude.{ℕ, ◌<◌, ◌≡◌, Bool, true, false, List, length, ℤ}
use Rattle.std.proofs.Math.Path.{refl}
use Rattle.std.proofs.Common.{sym, ◌∙◌, arith}
use Rattle.lemmas.specs.Bools.{never, and_right}
use Rattle.lemmas.specs.Counts.{count_most}
use Rattle.lemmas.specs.Stores.{Cleared}
use Rattle.paper.specs.Answer.Cases.{Answer, Answer.Refused, Answer.Idle, Answer.Held, Answer.Moved}
use Rattle.paper.specs.declared.Mode.{Mode}
use Rattle.paper.specs.declared.Mode.TheVariants.{Houd, Pair, Perm, Gperm, Jorg, Cmr}
use Rattle.paper.specs.Panel.Input.{Graph, graph, Call, Choices}
use Rattle.paper.specs.Panel.Takes.{grows_by, is_cmr, moves}
use Rattle.paper.specs.Site.Acting.{acts, SomeActs, NoneActs}
use Rattle.paper.specs.Site.Bonds.{holds}
use Rattle.paper.specs.Component.Members.{Members}
use Rattle.paper.specs.Refusal.Rules.{When}
use Rattle.paper.specs.Answer.Move.{member_bonds, Seen}
use Rattle.laws.specs.Forms.{grows_one, grows_moves, forms_apart}
use Rattle.grow.specs.Listed.{is_in}
use Rattle.grow.specs.Spread.{Cluster, cluster_site, cluster_joined}
use Rattle.grow.specs.Contract.{Grew}
use Rattle.grow.specs.Finding.{Finds}
use Rattle.grow.specs.Task.{Outputs, with_outputs, GrowAsks}
use Rattle.task_steps.specs.Label.{takes_blue, Says}
use Rattle.task_label.specs.Marking.{Markable, MarksListed}

-- tested input, and room for the blue sites where they are taken
pub record GrownAsks (c : Call) (xs : List ℤ) (members blue : List ℕ) : Type 0 where
  pub choices : Choices
  pub asks : GrowAsks c choices xs members
  pub room : takes_blue c ≡ true → length blue ≡ c.lattice.n

pub record GrownLeaves (c : Call) (xs : List ℤ) (blue : List ℕ) (a : Answer) (members' blue' : List ℕ) : Type 0 where
  pub says : Says c xs a
  pub members : When (acts c xs c.seed) (Members (graph c) (member_bonds c xs) c.seed members')
  pub none : acts c xs c.seed ≡ false → Cleared c.lattice.n members'
  pub blue_sites : When (takes_blue c) (Members (graph c) (holds c xs) c.seed blue')
  pub blue_left : takes_blue c ≡ false → blue' ≡ blue

-- of a form that grows all that it writes is seen
pub grown_seen :
    {c : Call} {xs : List ℤ} {blue : List ℕ} {a : Answer} {members members' blue' : List ℕ} (o : Outputs) → grows_by c.form ≡ true
    → GrownLeaves c xs blue a members' blue' → Seen c (with_outputs o xs members) (with_outputs o xs members')
grown_seen {c} o g w = record {
  all = λ l. forms_apart c.form l g;
  one = λ _. record {
    members = w.members;
    none = w.none;
    labels_kept = refl;
    grey_kept = refl;
    counts_kept = refl;
    sizes_kept = refl;
    found_kept = refl;
    grey_found_kept = refl;
  };
}

-- the marks of a cluster's list are its members
pub listed_members :
    {t : Graph} {holding : ℕ → ℕ → Bool} {seed : ℕ} {m l marks : List ℕ} {n len : ℕ} → n ≡ t.n → Cluster t holding seed m l len
    → MarksListed n l len marks → Members t holding seed marks
listed_members {t} {holding} {seed} {m} {l} {marks} e c k = record {
  long = k.long ∙ e;
  byte = λ i h. k.byte i;
  joined = λ i h q. let p = k.only i q in rw p.2 (cluster_joined c p.0 p.1);
  marked = λ i h j. let p = c.listed.all i (c.members.marked i h j) in rw p.2 (k.each p.0 p.1);
}

module _ (c : Call) (xs : List ℤ) (members blue : List ℕ) (a : GrownAsks c xs members blue) where
  below : c.seed < c.lattice.n
  below = a.asks.valid.fit.seeded.below (grows_one c.form a.asks.grows)

  -- where the seed does not act no site does
  none_acts : acts c xs c.seed ≡ false → NoneActs c xs
  none_acts off i h = go (acts c xs i) refl
    where
      go : (b : Bool) → acts c xs i ≡ b → acts c xs i ≡ false
      go false e = e
      go true e =
          never
          (sym off ∙ a.asks.valid.fit.seeded.acting (grows_one c.form a.asks.grows) (record { site = i; below = h; does = e }))

  -- in CMR every site acts
  cmr_acts : (m : Mode) → c.mode ≡ m → is_cmr m ≡ true → acts c xs c.seed ≡ true
  unfolding acts
  cmr_acts Houd q e = never e
  cmr_acts Pair q e = never e
  cmr_acts Perm q e = never e
  cmr_acts Gperm q e = never e
  cmr_acts Jorg q e = never e
  cmr_acts Cmr q e = rw q refl

  some_acts : acts c xs c.seed ≡ true → SomeActs c xs
  some_acts on = record { site = c.seed; below = below; does = on }

  -- blue sites are CMR's alone
  pub blue_taken : is_cmr c.mode ≡ true → takes_blue c ≡ true
  blue_taken e = rw (a.asks.grows, grows_moves c.form a.asks.grows, e) refl

  pub blue_cmr : takes_blue c ≡ true → is_cmr c.mode ≡ true
  blue_cmr e = and_right (moves c.form) (is_cmr c.mode) (and_right (grows_by c.form) _ e)

  -- the list of blue sites
  grew_markable : {m l : List ℕ} {n len count : ℕ} → n ≡ c.lattice.n → Grew c xs m l count len → Markable n l count
  grew_markable {l = l} e g = record {
    room = omega (arith, g.first.listed.number, g.first.listed.room, count_most (is_in g.blues) (length g.blues));
    below = λ x h. rw e (cluster_site g.first x h);
  }

  pub found_markable :
      (m l : List ℕ) (n count len : ℕ) → n ≡ c.lattice.n → (r : Answer) → Finds c xs m l r count len → Markable n l count
  found_markable m l n count len e (Refused r) f = absurd f
  found_markable m l n count len e Idle f = record { room = omega (arith, f.no_blue); below = λ x h. absurd (omega (arith, h, f.no_blue)) }
  found_markable m l n count len e Held f = grew_markable e f.grew
  found_markable m l n count len e Moved f = grew_markable e f.grew

  -- what is found, in CMR with the blue sites marked, is what the step leaves
  module _ (m l marks : List ℕ) (count len : ℕ) where
    idle_leaves :
        Finds c xs m l Idle count len → (takes_blue c ≡ false → marks ≡ blue) → GrownLeaves c xs blue Idle m marks
    idle_leaves f s = record {
      says = none_acts f.off;
      members = λ e. never (sym f.off ∙ e);
      none = λ _. f.cleared;
      blue_sites = λ e. never (sym f.off ∙ cmr_acts c.mode refl (blue_cmr e));
      blue_left = s;
    }

    held_leaves :
        Finds c xs m l Held count len → When (takes_blue c) (MarksListed c.lattice.n l count marks) → (takes_blue c ≡ false → marks ≡ blue)
        → GrownLeaves c xs blue Held m marks
    held_leaves f k s = record {
      says = record { some = some_acts f.on; one = grows_one c.form a.asks.grows; held = f.held };
      members = λ _. f.grew.cluster.members;
      none = λ e. never (sym e ∙ f.on);
      blue_sites = λ e. listed_members refl f.grew.first (k e);
      blue_left = s;
    }

    free_leaves :
        Finds c xs m l Moved count len → When (takes_blue c) (MarksListed c.lattice.n l count marks) → (takes_blue c ≡ false → marks ≡ blue)
        → GrownLeaves c xs blue Moved m marks
    free_leaves f k s = record {
      says = record { some = some_acts f.on; free = λ _. f.free };
      members = λ _. f.grew.cluster.members;
      none = λ e. never (sym e ∙ f.on);
      blue_sites = λ e. listed_members refl f.grew.first (k e);
      blue_left = s;
    }

    pub found_leaves :
        (r : Answer) → Finds c xs m l r count len → When (takes_blue c) (MarksListed c.lattice.n l count marks) → (takes_blue c ≡ false → marks ≡ blue)
        → GrownLeaves c xs blue r m marks
    found_leaves (Refused r) f k s = absurd f
    found_leaves Idle f k s = idle_leaves f s
    found_leaves Held f k s = held_leaves f k s
    found_leaves Moved f k s = free_leaves f k s

-- A component with a pinned site does not move, in any mode and form (`held_still`). In CMR that is a blue component: its grey one is held with it
-- (`grey_held_too`), so that neither flip reaches it.
use Rattle.std.specs.Prelude.{ℕ, ◌<◌, ◌≡◌, ◌⊎◌, Bool, List, Float, length, ℤ}
use Rattle.std.proofs.Math.Path.{refl, sym}
use Rattle.std.proofs.Common.{◌∙◌, ap, inl, inr}
use Rattle.std.proofs.Math.Bool.{true, false}
use Rattle.lemmas.specs.Bools.{never, and_no, and_right}
use Rattle.paper.specs.declared.Mode.{Mode}
use Rattle.paper.specs.declared.Mode.TheVariants.{Houd, Pair, Perm, Gperm, Jorg, Cmr}
use Rattle.paper.specs.Answer.Cases.{Answer, Answer.Refused, Answer.Idle, Answer.Held, Answer.Moved}
use Rattle.paper.specs.declared.BondKind.{BondKind}
use Rattle.paper.specs.declared.BondKind.TheVariants.{None, Blue, Red}
use Rattle.paper.specs.declared.Sampler.{Sampler}
use Rattle.paper.specs.Panel.Input.{Graph, graph, Call, Choices, Buffers, pattern, pinned, size}
use Rattle.paper.specs.Panel.Takes.{is_cmr, grows_by, labels_by, moves, takes_greys}
use Rattle.paper.specs.Site.Acting.{acts}
use Rattle.paper.specs.Site.Bonds.{blue_holds, grey_holds, kind_at, sampler_of, cut_at, holds_by, holds, holds_grey}
use Rattle.paper.specs.Component.Links.{Linked.stay, Linked.along, Within, bind, trans, back}
use Rattle.paper.specs.Component.Labels.{Bond, Joined, Labels}
use Rattle.paper.specs.Component.Members.{Members}
use Rattle.paper.specs.Component.Sizes.{label_of}
use Rattle.paper.specs.Move.Moving.{reached_by, held, reached, final, Moves}
use Rattle.paper.specs.Refusal.Kept.{valid_of}
use Rattle.paper.specs.Answer.Move.{member_bonds, Goes, Answers}
use Rattle.laws.specs.Forms.{by_form, grows_one}
use Rattle.laws.specs.Unique.{one_byte}
use Rattle.laws.specs.Holding.{one_is, one_has}

-- ---- blue bonds are grey ones
blue_is_grey : (k : BondKind) (s : Sampler) (cut : Float) → blue_holds k s cut ≡ true → grey_holds k s cut ≡ true
blue_is_grey None s cut e = e
blue_is_grey (Blue w) s cut e = e
blue_is_grey (Red w) s cut e = never e

module _ (c : Call) (xs : List ℤ) (cmr : is_cmr c.mode ≡ true) where
  grey_by : (m : Mode) → is_cmr m ≡ true → (i e : ℕ) → holds_by m c xs i e ≡ true → holds_grey c xs i e ≡ true
  unfolding holds_grey
  grey_by Houd q i e h = never q
  grey_by Pair q i e h = never q
  grey_by Perm q i e h = never q
  grey_by Gperm q i e h = never q
  grey_by Jorg q i e h = never q
  grey_by Cmr q i e h = blue_is_grey (kind_at c xs i e) (sampler_of c.temperature) (cut_at c i e) h

  grey_on : (i e : ℕ) → holds c xs i e ≡ true → holds_grey c xs i e ≡ true
  unfolding holds
  grey_on i e h = grey_by c.mode cmr i e h

  over : Within (Bond (graph c) (holds c xs)) (Bond (graph c) (holds_grey c xs))
  over a b e = along (record { site = e.site; dir = e.dir; dir_lt = e.dir_lt; on = grey_on a e.dir e.on; leads = e.leads }) stay

  grey_joined : {i j : ℕ} → Joined (graph c) (holds c xs) i j → Joined (graph c) (holds_grey c xs) i j
  grey_joined q = bind over q

  pub grey_held_too :
      {f h : ℕ} (l g : List ℕ)
      → Labels (graph c) (holds c xs) l f
      → Labels (graph c) (holds_grey c xs) g h
      → (i : ℕ)
      → i < c.lattice.n
      → held c l i ≡ true
      → held c g i ≡ true
  grey_held_too l g wl wg i hi e =
      let o = one_is (pinned c) l (label_of l i) e in
      let hj = rw wl.long at o.below in
      one_has (pinned c) g (label_of g i) (record {
        site = o.site;
        below = rw wg.long hj;
        label = sym (wg.same i o.site hi hj (grey_joined (wl.joined i o.site hi hj (sym o.label))));
        marked = o.marked;
      })

-- ---- members: joined sites have the same byte
same_byte :
    (t : Graph) (holding : ℕ → ℕ → Bool) (seed : ℕ) (m : List ℕ)
    → Members t holding seed m
    → (i j : ℕ)
    → i < t.n
    → j < t.n
    → Joined t holding i j
    → label_of m i ≡ label_of m j
same_byte t holding seed m w i j hi hj q =
    one_byte (label_of m i) (label_of m j) (w.byte i hi) (w.byte j hj)
    (λ e. w.marked j hj (trans (w.joined i hi e) q))
    (λ e. w.marked i hi (trans (w.joined j hj e) (back q)))

-- ---- the site i, whose component has the pinned site j
module _ (c : Call) (p : Choices) (b b' : Buffers) (i j : ℕ) (hi : i < c.lattice.n) (hj : j < c.lattice.n) (pin : pinned c j ≡ true) where
  abbrev xs : List ℤ
  xs = b.spins

  not_reached : (l : List ℕ) → length l ≡ c.lattice.n → label_of l i ≡ label_of l j → reached c xs l i ≡ false
  unfolding reached
  not_reached l long e =
      let on : held c l i ≡ true = one_has (pinned c) l (label_of l i) (record { site = j; below = rw long hj; label = sym e; marked = pin }) in
      rw (on, and_no (reached_by c.form c.mode c.seed l i), and_no (acts c xs i)) refl

  module _ (q : Joined (graph c) (holds c xs) i j) where
    stays :
        (l g : List ℕ) (ys : List ℤ)
        → reached c xs l i ≡ false
        → (takes_greys c ≡ true → reached c xs g i ≡ false)
        → Moves c p xs l g ys
        → (k : ℕ)
        → k < size c
        → pattern c ys i k ≡ pattern c xs i k
    unfolding final
    stays l g ys blue grey m k hk = m.group i k hi hk ∙ go (takes_greys c) refl
      where
        go : (t : Bool) → takes_greys c ≡ t → final c p xs l g i k ≡ pattern c xs i k
        go true e = rw (e, grey e, blue) refl
        go false e = rw (e, blue) refl

    grey_joined_too : takes_greys c ≡ true → Joined (graph c) (holds_grey c xs) i j
    grey_joined_too e = grey_joined c xs (and_right (moves c.form) _ e) q

    goes_still : Goes c p b b' → (k : ℕ) → k < size c → pattern c b'.spins i k ≡ pattern c xs i k
    goes_still w = go (by_form c.form)
      where
        seed_acts : grows_by c.form ≡ true → acts c xs c.seed ≡ true
        seed_acts g = (valid_of c p b w.valid).fit.seeded.acting (grows_one c.form g) w.some

        go : (labels_by c.form ≡ true) ⊎ (grows_by c.form ≡ true) → (k : ℕ) → k < size c → pattern c b'.spins i k ≡ pattern c xs i k
        go (inl f) =
            let s = w.seen.all f in
            stays b'.labels b'.grey_labels b'.spins
            (not_reached b'.labels s.labels.labels.long (s.labels.labels.same i j hi hj q))
            (λ e. let g = (s.grey_labels e).labels in not_reached b'.grey_labels g.long (g.same i j hi hj (grey_joined_too e))) (w.moved f)
        go (inr f) =
            let t = w.turned f in
            let m = (w.seen.one f).members (seed_acts f) in
            stays t.blue b'.members b'.spins
            (not_reached t.blue t.joined.long (same_byte (graph c) (holds c xs) c.seed t.blue t.joined i j hi hj q))
            (λ e.
            not_reached b'.members m.long
            (same_byte (graph c) (member_bonds c xs) c.seed b'.members m i j hi hj (rw (and_right (moves c.form) _ e) (grey_joined_too e))))
            t.moved

    pub held_still : (a : Answer) → Answers c p b a b' → (k : ℕ) → k < size c → pattern c b'.spins i k ≡ pattern c b.spins i k
    held_still (Refused r) w k hk = ap (λ (z : Buffers). pattern c z.spins i k) w.kept
    held_still Idle w k hk = ap (λ (z : List ℤ). pattern c z i k) w.still
    held_still Held w k hk = ap (λ (z : List ℤ). pattern c z i k) w.still
    held_still Moved w k hk = goes_still w k hk

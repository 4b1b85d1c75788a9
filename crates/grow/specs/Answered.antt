-- What growing and turning leave is the paper's answer.
use Rattle.std.specs.Prelude.{ℕ, ◌*◌, ◌≤◌, ◌<◌, ◌≡◌, refl, ◌⊎◌, Bool, true, false, cond, ◌&&◌, List, [], ◌∷◌, eqb, ltb, length, get_or, ℤ, Float}
use Rattle.std.proofs.Math.Path.{sym, ap}
use Rattle.std.proofs.Common.{◌∙◌, inl, inr, zero-mul, zero-add, one-mul, arith}
use Rattle.std.proofs.Math.Bool.{not}
use Rattle.std.proofs.Math.Decide.{dec_lt}
use borrow.Author.Tests.{eq-eqb, ne_eqb, eqb-true, ltb-true, ltb-false}
use Rattle.lemmas.specs.Bools.{never, and_no}
use Rattle.lemmas.specs.Counts.{count_most}
use Rattle.lemmas.specs.Places.{Placed, Unplaced, place}
use Rattle.paper.specs.declared.Task.{Task}
use Rattle.paper.specs.declared.Mode.{Mode}
use Rattle.paper.specs.declared.Mode.TheVariants.{Houd, Pair, Perm, Gperm, Jorg, Cmr}
use Rattle.paper.specs.Answer.Cases.{Answer, Answer.Refused, Answer.Idle, Answer.Held, Answer.Moved}
use Rattle.paper.specs.Panel.Input.{Call, Choices, Pattern, pinned, pattern, graph}
use Rattle.paper.specs.Panel.Made.{call_of, choices_of}
use Rattle.paper.specs.Panel.Takes.{is_cmr, perms_by, greys_by, takes_greys}
use Rattle.paper.specs.Site.Acting.{acts, SomeActs, NoneActs}
use Rattle.paper.specs.Component.Labels.{Joined}
use Rattle.paper.specs.Component.Sizes.{label_of}
use Rattle.paper.specs.Move.Moving.{flip_some, act_by, grey_at, grey_bit, reached_by, has_one, held, reached, after, final, Moves}
use Rattle.paper.specs.Refusal.Rules.{Permutes, perm_row}
use Rattle.paper.specs.Refusal.Kept.{Valid, valid_kept}
use Rattle.paper.specs.Answer.Move.{member_bonds, SeedHeld, Seen, Answers}
use Rattle.laws.specs.Choices.{perms_taken, perms_bytes}
use Rattle.laws.specs.Forms.{forms_apart, grows_one}
use Rattle.laws.specs.Counting.{cmr_acts, acts_one}
use Rattle.laws.specs.Holding.{held_members}
use Rattle.column_rules.specs.Sight.{none_acts}
use Rattle.judge.specs.Judged.{Growable}
use Rattle.judge.specs.Laws.{growable}
use Rattle.turn.specs.Turned.{bare, acted_to, turned_to, OneCluster, Chooses, Turnable}
use Rattle.turn.specs.Laws.{act_any, grey_any}
use Rattle.grow.specs.Formed.{one_cluster_lem, reached_grown, is_cmr_lem, and_yes, not_true, none_flips, grown_greys, grown_perms, grown_entries}
use Rattle.grow.specs.Listed.{is_in, site_at}
use Rattle.grow.specs.Kept.{Kept}
use Rattle.grow.specs.Spread.{cluster_site, cluster_joined}
use Rattle.grow.specs.Contract.{Grew}
use Rattle.grow.specs.Pinned.{PinAmong, TurnedFree, among_held, held_among}
use Rattle.grow.specs.Finding.{Findable, FindsNone, Finds}
use Rattle.grow.specs.Task.{Outputs, no_outputs, with_outputs, GrowAsks, grown_with}

module _ (t : Task) (fwd bwd pins : List ℕ) (js : List ℤ) (cuts : List Float) (choices greys : List ℕ) (xs : List ℤ) (members : List ℕ)
    (asks : GrowAsks (call_of t fwd bwd pins js cuts) (choices_of choices greys) xs members) where
  abbrev c : Call
  c = call_of t fwd bwd pins js cuts

  abbrev p : Choices
  p = choices_of choices greys

  v : Valid c p (with_outputs no_outputs xs members)
  v = asks.valid

  -- ---- what the steps ask
  pub seed_lt : t.seed < t.n
  seed_lt = v.fit.seeded.below (grows_one t.form asks.grows)

  panel : Growable t xs js cuts
  panel = growable t fwd bwd pins js cuts p (with_outputs no_outputs xs members) v.sound v.fit.chosen.reference

  pub findable : {list cols : ℕ} → list ≡ 4096 → cols ≡ 4096 → Findable t fwd bwd pins xs js cuts (length members) list cols
  findable e k = record {
    growable = panel;
    tables = record { fwd_long = v.sound.exact.fwd; bwd_long = v.sound.exact.bwd; inverse = v.sound.inverse };
    seed_lt = seed_lt;
    pins_long = v.sound.exact.pins;
    members_long = v.sound.exact.members asks.grows;
    list_long = omega (arith, e, v.sound.ranged.lattice.n_high);
    cols_long = k;
  }

  pub area_room : {area : ℕ} → area ≡ 4096 → t.n ≤ area
  area_room e = omega (arith, e, v.sound.ranged.lattice.n_high)

  chooses : Chooses t choices
  chooses = record {
    size_low = omega (arith, v.sound.ranged.size_low);
    size_high = v.sound.ranged.size_high;
    one = one_cluster_lem t.form choices asks.grows;
    long = λ q.
        let taken : perms_by t.mode t.form ≡ true = grown_perms t.form t.mode asks.grows ∙ q in
        v.sound.exact.choices (perms_taken t.mode t.form taken)
        ∙ (perms_bytes t.mode t.form t.n t.group.len taken
        ∙ (ap (λ (x : ℕ). x * t.group.len) (grown_entries t.form t.n asks.grows) ∙ one-mul t.group.len));
    perm = λ q.
        first_row
        (v.fit.chosen.perms (grown_perms t.form t.mode asks.grows ∙ q) 0 (rw (grown_entries t.form t.n asks.grows) (omega arith)));
  }
    where
      row : (k : ℕ) → perm_row c p 0 k ≡ get_or choices k 0
      row k = rw (zero-mul, zero-add)

      first_row : Permutes t.group.len (perm_row c p 0) → Permutes t.group.len (λ k. get_or choices k 0)
      first_row h = record {
        within = λ k l. rw (row k) at (h.within k l);
        distinct = λ a b la lb e. h.distinct a b la lb (row a ∙ (e ∙ sym (row b)));
      }

  -- ---- the seed does not act, and so no site does
  answered : (o : Outputs) → Valid c p (with_outputs o xs members)
  answered o = grown_with no_outputs o asks.grows v

  seed_tells : SomeActs c xs → acts c xs t.seed ≡ true
  seed_tells = v.fit.seeded.acting (grows_one t.form asks.grows)

  module _ {after : List ℕ} {blue len : ℕ} (f : FindsNone c xs after blue len) where
    pub idle_none : NoneActs c xs
    idle_none = none_acts c xs (λ s. never (sym f.off ∙ seed_tells s))

    pub idle_seen : (o : Outputs) (ys : List ℤ) → Seen c (with_outputs o xs members) (with_outputs o ys after)
    idle_seen o ys = record {
      all = λ l. forms_apart t.form l asks.grows;
      one = λ g. record {
        members = λ on. never (sym f.off ∙ on);
        none = λ _. f.cleared;
        labels_kept = refl;
        grey_kept = refl;
        counts_kept = refl;
        sizes_kept = refl;
        found_kept = refl;
        grey_found_kept = refl;
      };
    }

    pub idle_answers : (o : Outputs) → Answers c p (with_outputs o xs members) Idle (with_outputs o xs after)
    idle_answers o = record {
      valid = valid_kept c p (with_outputs o xs members) (answered o);
      none = idle_none;
      still = refl;
      seen = idle_seen o xs;
    }

  -- ---- the seed acts
  module _ (on : acts c xs t.seed ≡ true) {m l : List ℕ} {blue len : ℕ} (g : Grew c xs m l blue len) where
    pub turnable : {cols : List ℕ} → Kept t xs m cols → Turnable t xs choices greys l cols len
    turnable k = record {
      panel = panel.panel;
      distinct = v.sound.grouped.distinct;
      chooses = chooses;
      two = v.sound.ranged.cmr_two;
      lent = λ q. rw (v.sound.exact.greys (takes q), grown_entries t.form t.n asks.grows) (omega arith);
      small = λ q. v.fit.chosen.greys (takes q) 0 (rw (grown_entries t.form t.n asks.grows) (omega arith));
      long = let w = g.cluster.listed in omega (arith, w.number, count_most (is_in m) (length m), w.room);
      sites = cluster_site g.cluster;
      apart = g.cluster.listed.apart;
      room = omega (arith, k.long, v.sound.ranged.lattice.n_high);
      kept = λ x xl. k.at (site_at l x) (g.cluster.listed.each x xl);
    }
      where
        takes : is_cmr t.mode ≡ true → greys_by t.mode t.form ≡ true
        takes q = grown_greys t.form t.mode asks.grows ∙ q

    -- every member acts
    member_acts : {i : ℕ} → Joined (graph c) (member_bonds c xs) t.seed i → acts c xs i ≡ true
    member_acts {i} j = go (is_cmr t.mode) refl
      where
        go : (q : Bool) → is_cmr t.mode ≡ q → acts c xs i ≡ true
        go true q = cmr_acts c xs (is_cmr_lem t.mode q) i
        go false q = sym (acts_one c xs (rw q at j)) ∙ on

    -- a list of members of which none is pinned
    free_is : (list : List ℕ) (i : ℕ) → has_one (pinned c) list 1 ≡ false → (eqb (label_of list i) 1 && not (held c list i)) ≡ eqb (label_of list i) 1
    free_is list i free = go (eqb (label_of list i) 1) refl
      where
        go : (b : Bool) → eqb (label_of list i) 1 ≡ b → (b && not (held c list i)) ≡ b
        go false e = refl
        go true e = ap (λ (r : ℕ). not (has_one (pinned c) list r)) (eqb-true (label_of list i) 1 e) ∙ ap not free

    reached_in : (list : List ℕ) (i : ℕ) → acts c xs i ≡ true → has_one (pinned c) list 1 ≡ false → reached c xs list i ≡ eqb (label_of list i) 1
    unfolding reached
    reached_in list i e free = rw (e, reached_grown t.form t.mode t.seed list i asks.grows) (free_is list i free)

    -- and one of which one is
    reached_held : (list : List ℕ) (i : ℕ) → label_of list i ≡ 1 → has_one (pinned c) list 1 ≡ true → reached c xs list i ≡ false
    unfolding reached
    reached_held list i label h =
        ap (λ (b : Bool). acts c xs i && (reached_by t.form t.mode t.seed list i && not b)) (ap (has_one (pinned c) list) label ∙ h)
        ∙ (ap (λ (b : Bool). acts c xs i && b) (and_no (reached_by t.form t.mode t.seed list i)) ∙ and_no (acts c xs i))

    reached_out : (list : List ℕ) (i : ℕ) → (label_of list i ≡ 1 → ⊥) → reached c xs list i ≡ false
    unfolding reached
    reached_out list i other =
        ap (λ (b : Bool). acts c xs i && (b && not (held c list i)))
        (reached_grown t.form t.mode t.seed list i asks.grows ∙ ne_eqb (label_of list i) 1 other)
        ∙ and_no (acts c xs i)

    abbrev one : OneCluster t.form choices
    one = chooses.one

    -- the grey number 0 leaves a pattern
    no_grey : (b : Bool) (f : Pattern) (k : ℕ) → cond b (flip_some (grey_bit (grey_at t.form (0 ∷ []) 0)) f k) (f k) ≡ f k
    no_grey true f k = rw (one.first 0, none_flips k)
    no_grey false f k = refl

    -- where the blue ones are free, a pin of the grey component stands behind them
    grey_pin : has_one (pinned c) g.blues 1 ≡ false → has_one (pinned c) m 1 ≡ true → PinAmong pins l blue len
    grey_pin free e = let q = held_among c g.cluster.listed e in at q (dec_lt q.place blue)
      where
        at : (q : PinAmong pins l 0 len) → Dec (q.place < blue) → PinAmong pins l blue len
        at q (yes h) =
            never (sym free ∙ among_held c g.first.listed (record { place = q.place; low = q.low; high = h; pin = q.pin }))
        at q (no h) = record { place = q.place; low = omega arith; high = q.high; pin = q.pin }

    -- ---- at the place x of the list
    module _ (x : ℕ) (xl : x < len) where
      does : acts c xs (site_at l x) ≡ true
      does = member_acts (cluster_joined g.cluster x xl)

      -- of the blue ones exactly where it stands among the first
      blue_is : eqb (label_of g.blues (site_at l x)) 1 ≡ ltb x blue
      blue_is = go (ltb x blue) refl
        where
          go : (b : Bool) → ltb x blue ≡ b → eqb (label_of g.blues (site_at l x)) 1 ≡ b
          go true e = eq-eqb _ _ (g.first.listed.each x (ltb-true x blue e))
          go false e = ne_eqb _ _ (λ q.
              let w = g.first.listed.all (site_at l x) q in
              let same = g.cluster.listed.apart x w.0 xl (omega (arith, w.1, g.more)) w.2 in
              omega (arith, same, w.1, ltb-false x blue e))

      -- the grey number is not read
      act_greys : (grey : List ℕ) (m : Mode) (P f : Pattern) (k : ℕ)
          → act_by m (bare t) (choices_of choices greys) P 0 f k ≡ act_by m (bare t) (choices_of choices grey) P 0 f k
      act_greys grey Houd P f k = refl
      act_greys grey Pair P f k = refl
      act_greys grey Perm P f k = refl
      act_greys grey Gperm P f k = refl
      act_greys grey Jorg P f k = refl
      act_greys grey Cmr P f k = refl

      chosen_same : (grey : List ℕ) (P f : Pattern) (k : ℕ) (b : Bool)
          → cond b (act_by t.mode c p P (label_of g.blues (site_at l x)) f k) (f k) ≡ acted_to t choices grey P b f k
      chosen_same grey P f k true =
          act_any t choices one greys fwd bwd pins js cuts (label_of g.blues (site_at l x)) t.mode P f k ∙ act_greys grey t.mode P f k
      chosen_same grey P f k false = refl

      module _ (free : has_one (pinned c) g.blues 1 ≡ false) where
        after_is : (grey : List ℕ) (k : ℕ)
            → after c p xs g.blues (site_at l x) k
            ≡ acted_to t choices grey (pattern c xs t.reference) (ltb x blue) (pattern c xs (site_at l x)) k
        after_is grey k =
            rw (reached_in g.blues (site_at l x) does free ∙ blue_is)
            (chosen_same grey (pattern c xs t.reference) (pattern c xs (site_at l x)) k (ltb x blue))

        final_free : has_one (pinned c) m 1 ≡ false → (k : ℕ)
            → final c p xs g.blues m (site_at l x) k
            ≡ turned_to t choices greys (pattern c xs t.reference) (ltb x blue) (pattern c xs (site_at l x)) k
        unfolding final
        final_free none k =
            rw (grey_here, grey_any t choices one greys fwd bwd pins js cuts (label_of m (site_at l x)), after_is greys k)
          where
            grey_here : (takes_greys c && reached c xs m (site_at l x)) ≡ is_cmr t.mode
            grey_here =
                rw (grown_greys t.form t.mode asks.grows, reached_in m (site_at l x) does none, eq-eqb _ _ (g.cluster.listed.each x xl))
                (and_yes (is_cmr t.mode))

        -- a grey component that is held takes no grey flip
        final_held : has_one (pinned c) m 1 ≡ true → (k : ℕ)
            → final c p xs g.blues m (site_at l x) k
            ≡ turned_to t choices (0 ∷ []) (pattern c xs t.reference) (ltb x blue) (pattern c xs (site_at l x)) k
        unfolding final
        final_held some k =
            rw (reached_held m (site_at l x) (g.cluster.listed.each x xl) some, and_no (takes_greys c))
            (after_is (0 ∷ []) k
            ∙ sym (no_grey (is_cmr t.mode) (acted_to t choices (0 ∷ []) (pattern c xs t.reference) (ltb x blue) (pattern c xs (site_at l x))) k))

        pub final_is : {ys : List ℤ} (w : TurnedFree t pins choices greys l blue len xs ys) (k : ℕ)
            → final c p xs g.blues m (site_at l x) k
            ≡ turned_to t choices w.grey (pattern c xs t.reference) (ltb x blue) (pattern c xs (site_at l x)) k
        final_is w k = go (has_one (pinned c) m 1) refl
          where
            go : (h : Bool) → has_one (pinned c) m 1 ≡ h
                → final c p xs g.blues m (site_at l x) k
                ≡ turned_to t choices w.grey (pattern c xs t.reference) (ltb x blue) (pattern c xs (site_at l x)) k
            go true e = rw (w.none (grey_pin free e)) (final_held e k)
            go false e = rw (w.kept (λ q. never (sym e ∙ among_held c g.cluster.listed q))) (final_free e k)

    -- ---- at a site that is not listed
    module _ (i k : ℕ) (apart : Unplaced len (site_at l) i) where
      final_else : final c p xs g.blues m i k ≡ pattern c xs i k
      unfolding final
      final_else =
          rw (
            reached_out m i (λ e. let w = g.cluster.listed.all i e in apart w.0 w.1 w.2),
            reached_out g.blues i (λ e. let w = g.first.listed.all i e in apart w.0 (omega (arith, w.1, g.more)) w.2),
            and_no (takes_greys c),
          )

    pub grown_seen : (o : Outputs) (ys : List ℤ) → Seen c (with_outputs o xs members) (with_outputs o ys m)
    grown_seen o ys = record {
      all = λ e. forms_apart t.form e asks.grows;
      one = λ e. record {
        members = λ _. g.cluster.members;
        none = λ off. never (sym off ∙ on);
        labels_kept = refl;
        grey_kept = refl;
        counts_kept = refl;
        sizes_kept = refl;
        found_kept = refl;
        grey_found_kept = refl;
      };
    }

    -- ---- the seed's component is held, or not
    pub held_answers : SeedHeld c xs → (o : Outputs) → Answers c p (with_outputs o xs members) Held (with_outputs o xs m)
    held_answers q o = record {
      valid = valid_kept c p (with_outputs o xs members) (answered o);
      some = record { site = t.seed; below = seed_lt; does = on };
      one = grows_one t.form asks.grows;
      held = q;
      still = refl;
      seen = grown_seen o xs;
    }

    module _ (none : SeedHeld c xs → ⊥) {ys : List ℤ} (w : TurnedFree t pins choices greys l blue len xs ys) where
      free : has_one (pinned c) g.blues 1 ≡ false
      free = not_true (has_one (pinned c) g.blues 1) (λ e. none ((held_members c xs seed_lt g.blues g.first.members).0 e))

      moved : Moves c p xs g.blues m ys
      moved = record {
        long = w.turned.long;
        group = λ i k il kl. at i k il kl (place len (site_at l) i);
        others = λ i s il none. w.turned.systems i s il none;
      }
        where
          at : (i k : ℕ) → i < t.n → k < t.group.len → Placed len (site_at l) i ⊎ Unplaced len (site_at l) i
              → pattern c ys i k ≡ final c p xs g.blues m i k
          at i k il kl (inl q) = rw q.2 (w.turned.listed q.0 k q.1 kl ∙ sym (final_is q.0 q.1 free w k))
          at i k il kl (inr q) = w.turned.others i _ il q ∙ sym (final_else i k q)

      pub moved_answers : (o : Outputs) → Answers c p (with_outputs o xs members) Moved (with_outputs o ys m)
      moved_answers o = record {
        valid = valid_kept c p (with_outputs o xs members) (answered o);
        some = record { site = t.seed; below = seed_lt; does = on };
        free = λ _. none;
        moved = λ e. forms_apart t.form e asks.grows;
        turned = λ e. record { blue = g.blues; joined = g.first.members; moved = moved };
        seen = grown_seen o ys;
      }

  -- an answer that is no move leaves the spins
  pub still_answers :
      (m l : List ℕ) (blue len : ℕ) (a : Answer) → (a ≡ Moved → ⊥) → Finds c xs m l a blue len → (o : Outputs)
      → Answers c p (with_outputs o xs members) a (with_outputs o xs m)
  still_answers m l blue len (Refused r) still f o = absurd f
  still_answers m l blue len Idle still f o = idle_answers f o
  still_answers m l blue len Held still f o = held_answers f.on f.grew f.held o
  still_answers m l blue len Moved still f o = absurd (still refl)

-- After an accepted move of a reversible mode the next is accepted too, if its own choices and buffers are right, and it has an outcome.
use Rattle.std.specs.Prelude.{ℕ, zero, suc, ◌<◌, ◌≡◌, ◌↔◌, ◌⊎◌, Bool, ◌&&◌, List, length, ℤ}
use Rattle.std.proofs.Math.Path.{refl}
use Rattle.std.proofs.Common.{sym, ◌∙◌, ap, subst, inl, inr, arith}
use Rattle.std.proofs.Math.Bool.{true, false}
use Rattle.std.proofs.Math.Decide.{ℕ_discrete}
use Rattle.lemmas.specs.Bools.{never, and_left, and_right}
use Rattle.paper.specs.Panel.Input.{graph, Call, Choices, Buffers, spin, size}
use Rattle.paper.specs.Panel.Takes.{one_cluster, labels_by}
use Rattle.paper.specs.Site.Acting.{acts, SomeActs, NoneActs}
use Rattle.paper.specs.Site.Bonds.{holds}
use Rattle.paper.specs.Component.Labels.{Numbered}
use Rattle.paper.specs.Component.Sizes.{Counted, Largest}
use Rattle.paper.specs.Move.Moving.{held, final}
use Rattle.paper.specs.Refusal.Rules.{Spin, group_names, Named, Spins, Exact, Chosen, Seeded}
use Rattle.paper.specs.Refusal.Kept.{Sound, Fit, Valid, valid_kept}
use Rattle.paper.specs.Answer.Move.{Seen, SeedHeld}
use Rattle.laws.specs.Forms.{forms_apart}
use Rattle.laws.specs.Local.{Alike, acts_local, holds_local}
use Rattle.laws.specs.Unique.{numbered_ext, counts_ext, sizes_ext}
use Rattle.laws.specs.Holding.{held_labels}
use Rattle.laws.specs.MovesExist.{write, moves_exist}
use Rattle.demand3.specs.Statement.{Reversible, Move, SameRows, Outcome}
use Rattle.demand3.specs.Reversible.{not_cmr}
use Rattle.demand3.specs.Step.{Step, step, seen_of, valid_move}
use Rattle.demand3.specs.Turns.{spins_kept, acts_kept, numbered_kept, counts_kept, sizes_kept}
use Rattle.demand3.specs.ChoicesFit.{Sized, no_greys}
use Rattle.demand3.specs.Such.{outcome}

module _ {c : Call} {p : Choices} {xs : List ℤ} {l : List ℕ} {ys : List ℤ} (s : Step c p xs l ys) where
  -- the group's rows of zs and of us are the same, and so is all that is made of them
  pub alike : {zs us : List ℤ} → SameRows c zs us → Alike c zs us
  alike same = record {
    patterns = same;
    reference = s.reference;
    inside = s.inside;
    some = s.some_size;
    two = λ e. never (sym (not_cmr c.mode (size c) s.reversible) ∙ e);
  }

  -- every spin of the group's systems is +1 or -1 after the move
  spins_after : Spins c.lattice.n (Named c.lattice.s (group_names c.group)) ys
  spins_after t i h hi = subst (λ (u : ℕ). Spin (spin c.lattice.n ys u i)) h.is (spins_kept s i hi h.place h.below)

  some_before : SomeActs c ys → SomeActs c xs
  some_before q = record { site = q.site; below = q.below; does = sym (acts_kept s q.site q.below) ∙ q.does }

  seeded_after : Seeded c xs → Seeded c ys
  seeded_after h = record { below = h.below; acting = λ t q. acts_kept s c.seed (h.below t) ∙ h.acting t (some_before q) }

-- ---- what spins have that have the group's rows of others
spins_same :
    (c : Call) (zs us : List ℤ)
    → SameRows c zs us
    → Spins c.lattice.n (Named c.lattice.s (group_names c.group)) us
    → Spins c.lattice.n (Named c.lattice.s (group_names c.group)) zs
spins_same c zs us same spins t i h hi =
    subst (λ (u : ℕ). Spin (spin c.lattice.n zs u i)) h.is
    (rw (same i hi h.place h.below) (subst (λ (u : ℕ). Spin (spin c.lattice.n us u i)) (sym h.is) (spins t i h hi)))

module _ {c : Call} {zs us : List ℤ} where
  seeded_same : Alike c zs us → Seeded c us → Seeded c zs
  seeded_same w h = record {
    below = h.below;
    acting = λ t q.
        acts_local c zs us w c.seed (h.below t)
        ∙ h.acting t (record { site = q.site; below = q.below; does = sym (acts_local c zs us w q.site q.below) ∙ q.does });
  }

  pub numbered_same : {l found : List ℕ} → Alike c zs us → Numbered (graph c) (holds c us) l found → Numbered (graph c) (holds c zs) l found
  numbered_same {l} {found} w =
      numbered_ext (graph c) (holds c us) (holds c zs) l found (λ i e hi he. sym (holds_local c zs us w i e hi he))

-- ---- an accepted move has an outcome, if its labels are known
some_or_none : (f : ℕ → Bool) (m : ℕ) → ((i : ℕ) × (i < m) × (f i ≡ true)) ⊎ ((i : ℕ) → i < m → f i ≡ false)
some_or_none f zero = inr (λ i h. absurd (omega arith))
some_or_none f (suc m) = go (f m) refl (some_or_none f m)
  where
    go :
        (t : Bool)
        → f m ≡ t
        → ((i : ℕ) × (i < m) × (f i ≡ true)) ⊎ ((i : ℕ) → i < m → f i ≡ false)
        → ((i : ℕ) × (i < suc m) × (f i ≡ true)) ⊎ ((i : ℕ) → i < suc m → f i ≡ false)
    go t e (inl r) = inl (r.0, omega (arith, r.1), r.2)
    go true e (inr r) = inl (m, omega arith, e)
    go false e (inr r) = inr (λ i h. last i h (ℕ_discrete i m))
      where
        last : (i : ℕ) → i < suc m → Dec (i ≡ m) → f i ≡ false
        last i h (yes q) = ap f q ∙ e
        last i h (no q) = r i (omega arith)

module _
    {c : Call} {r : Choices} {d : Buffers} (v : Reversible c.mode (size c)) (f : labels_by c.form ≡ true) (k : Valid c r d)
    (l found counts sizes : List ℕ)
    (labels : Numbered (graph c) (holds c d.spins) l found) (tally : Counted (acts c d.spins) l counts) (four : Largest (acts c d.spins) l sizes)
  where
    left : List ℤ → Buffers
    left ys = record {
      spins = ys;
      labels = l;
      grey_labels = d.grey_labels;
      counts = counts;
      sizes = sizes;
      members = d.members;
      found = found;
      grey_found = d.grey_found;
    }

    seen : (ys : List ℤ) → Seen c d (left ys)
    unfolding left
    seen ys = record {
      all = λ _. record {
        labels = labels;
        grey_labels = λ t. never (sym (no_greys c v) ∙ t);
        grey_kept = λ _. refl;
        grey_found_kept = λ _. refl;
        counts = tally;
        sizes = four;
        members_kept = refl;
      };
      one = forms_apart c.form f;
    }

    -- the seed's component has a pinned site, told by the labels
    held_so : one_cluster c.form ≡ true → (held c l c.seed ≡ true) ↔ SeedHeld c d.spins
    held_so one = held_labels c d.spins (k.fit.seeded.below one) l labels.labels

    -- some site acts: held, or moved
    outcome_acting : SomeActs c d.spins → (t : Bool) → (one_cluster c.form && held c l c.seed) ≡ t → Outcome c r d
    unfolding left seen
    outcome_acting some true e =
        let one = and_left (one_cluster c.form) _ e in
        outcome (left d.spins) (Move.held (record {
          valid = valid_kept c r d k;
          some = some;
          one = one;
          held = (held_so one).0 (and_right (one_cluster c.form) _ e);
          still = refl;
          seen = seen d.spins;
        }))
    outcome_acting some false e = outcome (left (write c d.spins (final c r d.spins l d.grey_labels))) (Move.moved (record {
      valid = valid_kept c r d k;
      some = some;
      free = λ one h. never (sym e ∙ rw (one, (held_so one).1 h) refl);
      moved = λ _. moves_exist c r d.spins l d.grey_labels k.sound.grouped k.sound.exact.spins;
      turned = forms_apart c.form f;
      seen = seen _;
    }))

    outcome_of : Outcome c r d
    unfolding left seen
    outcome_of = go (some_or_none (acts c d.spins) c.lattice.n)
      where
        go : ((i : ℕ) × (i < c.lattice.n) × (acts c d.spins i ≡ true)) ⊎ NoneActs c d.spins → Outcome c r d
        go (inl q) = outcome_acting (record { site = q.0; below = q.1; does = q.2 }) (one_cluster c.form && held c l c.seed) refl
        go (inr q) = outcome (left d.spins) (Move.idle (record { valid = valid_kept c r d k; none = q; still = refl; seen = seen d.spins }))

-- ---- other choices: on the buffers that a move was lent, and on any that have the spins that it left
module _
    {c : Call} {p : Choices} {b b' : Buffers} (v : Reversible c.mode (size c)) (f : labels_by c.form ≡ true) (m : Move c p b b')
  where
    sound : Sound c p b
    sound = (valid_move m).sound

    fit : Fit c p b.spins
    fit = (valid_move m).fit

    pub instead : {q : Choices} → Exact c q b → Chosen c q → Outcome c q b
    instead {q} e h = outcome_of v f valid b'.labels b'.found b'.counts b'.sizes (seen_of f m).labels (seen_of f m).counts (seen_of f m).sizes
      where
        valid : Valid c q b
        valid = record {
          sound = record {
            ranged = sound.ranged;
            houd = sound.houd;
            exact = e;
            spins = sound.spins;
            inverse = sound.inverse;
            pins = sound.pins;
            grouped = sound.grouped;
            couplings = sound.couplings;
            warm = sound.warm;
          };
          fit = record { cuts = fit.cuts; chosen = h; seeded = fit.seeded };
        }

    -- of the spins that it left the group's rows are enough
    pub next : {q : Choices} {d : Buffers} → SameRows c d.spins b'.spins → Exact c q d → Chosen c q → Outcome c q d
    next {q} {d} same e h =
        outcome_of v f valid b'.labels b'.found b'.counts b'.sizes (numbered_same w (numbered_kept s (seen_of f m).labels))
        (counts_ext b'.labels marks (counts_kept s f (seen_of f m).counts)) (sizes_ext b'.labels marks (sizes_kept s f (seen_of f m).sizes))
      where
        s : Step c p b.spins b'.labels b'.spins
        s = step v f m

        w : Alike c d.spins b'.spins
        w = alike s same

        marks : (i : ℕ) → i < length b'.labels → acts c b'.spins i ≡ acts c d.spins i
        marks i l = sym (acts_local c d.spins b'.spins w i (rw (seen_of f m).labels.labels.long at l))

        valid : Valid c q d
        valid = record {
          sound = record {
            ranged = sound.ranged;
            houd = sound.houd;
            exact = e;
            spins = spins_same c d.spins b'.spins same (spins_after s);
            inverse = sound.inverse;
            pins = sound.pins;
            grouped = sound.grouped;
            couplings = sound.couplings;
            warm = sound.warm;
          };
          fit = record { cuts = fit.cuts; chosen = h; seeded = seeded_same w (seeded_after s fit.seeded) };
        }

    -- the lengths: of the buffers that were lent, and of what they hold now
    pub exact_instead : {q : Choices} → Sized c q → Exact c q b
    exact_instead z = let e = sound.exact in record {
      spins = e.spins;
      fwd = e.fwd;
      bwd = e.bwd;
      pins = e.pins;
      couplings = e.couplings;
      cuts = e.cuts;
      choices = z.choices;
      greys = λ t. never (sym (no_greys c v) ∙ t);
      labels = e.labels;
      grey_labels = e.grey_labels;
      counts = e.counts;
      sizes = e.sizes;
      members = e.members;
      found = e.found;
      grey_found = e.grey_found;
    }

    pub exact_next : {q : Choices} → Sized c q → Exact c q b'
    exact_next z = let e = sound.exact in record {
      spins = (step v f m).long ∙ e.spins;
      fwd = e.fwd;
      bwd = e.bwd;
      pins = e.pins;
      couplings = e.couplings;
      cuts = e.cuts;
      choices = z.choices;
      greys = λ t. never (sym (no_greys c v) ∙ t);
      labels = λ _. (seen_of f m).labels.labels.long;
      grey_labels = λ t. never (sym (no_greys c v) ∙ and_right (labels_by c.form) _ t);
      counts = λ _. rw (seen_of f m).labels.labels.long at (seen_of f m).counts.long;
      sizes = λ _. (seen_of f m).sizes.long;
      members = forms_apart c.form f;
      found = λ _. (seen_of f m).labels.one;
      grey_found = λ t. never (sym (no_greys c v) ∙ and_right (labels_by c.form) _ t);
    }

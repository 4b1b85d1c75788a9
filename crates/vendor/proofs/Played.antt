-- What is written on acceptance, played as SW choices on the spins before, gives the spins after.
use Rattle.std.specs.Prelude.{ℕ, ◌≤◌, ◌<◌, ◌≡◌, Bool, true, false, cond, ◌&&◌, List, eqb, leb, length, ℤ}
use Rattle.std.proofs.Math.Path.{refl}
use Rattle.std.proofs.Common.{sym, ◌∙◌}
use Rattle.std.proofs.Math.Bool.{not}
use borrow.Author.Tests.{eq-eqb, le-leb}
use Rattle.lemmas.specs.Bools.{never, and_right}
use Rattle.lemmas.specs.Counts.{count_pos}
use Rattle.lemmas.specs.Tells.{when_not}
use Rattle.paper.specs.declared.Mode.{Mode}
use Rattle.paper.specs.declared.Mode.TheVariants.{Houd, Pair, Perm, Gperm, Jorg, Cmr}
use Rattle.paper.specs.declared.Form.TheVariants.{Sw}
use Rattle.paper.specs.declared.Task.{Task}
use Rattle.paper.specs.Answer.Cases.{Answer, Answer.Refused, Answer.Idle, Answer.Held, Answer.Moved}
use Rattle.paper.specs.Panel.Input.{Call, Choices, Buffers, Pattern, graph, spin, pattern, size}
use Rattle.paper.specs.Panel.Takes.{is_perm, is_houd, is_cmr, is_drawn, takes_perms, takes_greys}
use Rattle.paper.specs.Site.Acting.{acts, NoneActs}
use Rattle.paper.specs.Site.Bonds.{holds_by, holds}
use Rattle.paper.specs.Component.Sizes.{label_of, size_of}
use Rattle.paper.specs.Move.Moving.{act_by, least_size, held, reached, final, Moves}
use Rattle.paper.specs.Refusal.Rule.{broken_not_kept}
use Rattle.paper.specs.Refusal.Rules.{Exact, Chosen, rules}
use Rattle.paper.specs.Refusal.Kept.{Valid, valid_kept}
use Rattle.paper.specs.Answer.Move.{Goes, Answers, Accepted.idle, Accepted.moved}
use Rattle.laws.specs.Unique.{GroupIs, HoldAlike, label_lt, labels_unique, labels_ext}
use Rattle.laws.specs.GrowsAsWolff.{with_form}
use Rattle.packing.proofs.Laws.{rows_ext, own_grouped, own_pattern}
use Rattle.vendor.specs.Checked.{Checked.Yes}
use Rattle.orders.specs.Words.{word_at}
use Rattle.vendor.specs.Vendor.{asked_by, turned_by, Explains, Fair, Lent, Accepts, VendorAnswers}
use Rattle.vendor.specs.Components.{row_permutes}
use Rattle.vendor.specs.Played.{Outputs, Played}

-- ---- the modes that permute
record Permuting (m : Mode) : Type 0 where
  not_houd : is_houd m ≡ false
  not_cmr : is_cmr m ≡ false
  not_drawn : is_drawn m ≡ false

permuting : (m : Mode) → is_perm m ≡ true → Permuting m
permuting Houd e = never e
permuting Pair e = never e
permuting Perm e = record { not_houd = refl; not_cmr = refl; not_drawn = refl }
permuting Gperm e = record { not_houd = refl; not_cmr = refl; not_drawn = refl }
permuting Jorg e = never e
permuting Cmr e = never e

-- a site is one of its component
size_pos : (l : List ℕ) (i : ℕ) → i < length l → 1 ≤ size_of l (label_of l i)
unfolding size_of
size_pos l i h = count_pos (λ j. eqb (label_of l j) (label_of l i)) (length l) i h (eq-eqb (label_of l i) (label_of l i) refl)

-- ---- the call in SW, and what the form does not change
abbrev sw : Call → Call
sw c = with_form Sw c

module _ (c : Call) (xs : List ℤ) where
  acts_same : (i : ℕ) → acts (sw c) xs i ≡ acts c xs i
  unfolding acts
  acts_same i = refl

  holds_in : (m : Mode) (i e : ℕ) → holds_by m (sw c) xs i e ≡ holds_by m c xs i e
  unfolding acts
  holds_in Houd i e = refl
  holds_in Pair i e = refl
  holds_in Perm i e = refl
  holds_in Gperm i e = refl
  holds_in Jorg i e = refl
  holds_in Cmr i e = refl

  holds_same : HoldAlike (graph c) (holds (sw c) xs) (holds c xs)
  unfolding holds
  holds_same i e hi he = holds_in c.mode i e

  -- ---- what it moves in a mode that permutes: the sites that act and are not held
  module _ (perm : is_perm c.mode ≡ true) where
    reached_is : (l : List ℕ) (i : ℕ) → i < length l → reached (sw c) xs l i ≡ (acts c xs i && not (held c l i))
    unfolding reached
    reached_is l i h = cc (acts_same i, enough)
      where
        enough : (leb (least_size c.mode) (size_of l (label_of l i)) && not (held c l i)) ≡ not (held c l i)
        enough = rw (perm, le-leb 1 (size_of l (label_of l i)) (size_pos l i h)) refl

    no_greys : takes_greys (sw c) ≡ false
    no_greys = (permuting c.mode perm).not_cmr

-- a row of choices is the permutation of its component
turned : (c : Call) (p : Choices) (m : Mode) → is_perm m ≡ true → (P f : Pattern) (r k : ℕ)
    → act_by m (sw c) p P r f k ≡ turned_by m P (word_at (size c) p.choices r) f k
turned c p Houd e P f r k = never e
turned c p Pair e P f r k = never e
turned c p Perm e P f r k = refl
turned c p Gperm e P f r k = refl
turned c p Jorg e P f r k = never e
turned c p Cmr e P f r k = never e

-- ---- an accepted pair, of which b has the spins before and p the rows written
module _
    (t : Task) (fwd bwd pins : List ℕ) (ys : List ℤ) (rows : List ℕ) (p : Choices) (b : Buffers)
    (v : Accepts (asked_by t fwd bwd pins) b.spins ys rows p.choices) (out : Outputs t.n b)
  where
    abbrev c : Call
    c = asked_by t fwd bwd pins

    abbrev xs : List ℤ
    xs = b.spins

    perm : is_perm c.mode ≡ true
    perm = v.valid.1.0

    lent : Lent c xs ys rows
    lent = v.valid.1.1.0

    mode : Permuting c.mode
    mode = permuting c.mode perm

    small : size c ≤ 8
    small = v.valid.0.size_high

    -- ---- no rule of the SW call is broken
    exact : Exact (sw c) p b
    exact = record {
      spins = lent.before;
      fwd = lent.fwd;
      bwd = lent.bwd;
      pins = lent.pins;
      couplings = when_not mode.not_drawn;
      cuts = when_not mode.not_drawn;
      choices = λ _. rw perm (v.long ∙ lent.rows_long);
      greys = when_not mode.not_cmr;
      labels = λ _. out.labels;
      grey_labels = when_not mode.not_cmr;
      counts = λ _. out.counts;
      sizes = λ _. out.sizes;
      members = λ e. never e;
      found = λ _. out.found;
      grey_found = when_not mode.not_cmr;
    }

    chosen : Chosen (sw c) p
    chosen = record {
      perms = λ _ r h. row_permutes c xs v.labels r v.numbered.long ys p.choices (v.written r h);
      not_identity_lem = λ e. never (and_right (takes_perms (sw c)) false e);
      flips = λ e. never (rw perm at e);
      greys = when_not mode.not_cmr;
      grey_some = λ e. never (and_right (takes_greys (sw c)) false e);
      reference = v.valid.1.1.1.1.1.1.1.0;
    }

    valid : Valid (sw c) p b
    valid = record {
      sound = record {
        ranged = v.valid.0;
        houd = λ e. never (rw mode.not_houd at e);
        exact = exact;
        spins = λ s i h. v.valid.1.1.1.0 s i h.inside;
        inverse = v.valid.1.1.1.1.1.0;
        pins = v.valid.1.1.1.1.1.1.0;
        grouped = own_grouped (size c) small;
        couplings = when_not mode.not_drawn;
        warm = when_not mode.not_drawn;
      };
      fit = record { cuts = when_not mode.not_drawn; chosen = chosen; seeded = record { below = λ e. never e; acting = λ e. never e } };
    }

    -- ---- the spins
    fair : (i : ℕ) → i < c.lattice.n → Fair c xs ys v.labels (label_of v.labels i)
    fair i h = v.fair (label_of v.labels i) (v.numbered.below i h)

    -- rows in the group's order are known by the patterns
    known : (zs : List ℤ) → length zs ≡ length xs → GroupIs c zs (pattern c ys) → zs ≡ ys
    known zs long same =
        rows_ext (size c) c.lattice.n zs ys (long ∙ lent.before) lent.after
        (λ k i hk hi. sym (own zs i k hk) ∙ (same i k hi hk ∙ own ys i k hk))
      where
        own : (rows : List ℤ) (i k : ℕ) → k < size c → pattern c rows i k ≡ spin c.lattice.n rows k i
        own = own_pattern (size c) small c.lattice.n

    -- the row of a component that acts explains it
    explained : (i : ℕ) → i < c.lattice.n → acts c xs i ≡ true
        → Explains c xs ys v.labels (label_of v.labels i) (word_at (size c) p.choices (label_of v.labels i))
    explained i h e =
        ((v.written (label_of v.labels i) (label_lt (graph c) (holds c xs) v.labels v.numbered i h)
        ).acting (record { site = i; below = h; label = refl; does = e })).explains

    rests : NoneActs (sw c) xs → xs ≡ ys
    rests none = known xs refl (λ i k hi hk. sym ((fair i hi).idle i hi refl (sym (acts_same c xs i) ∙ none i hi) k hk))

    final_is : (g : List ℕ) (i k : ℕ) → i < c.lattice.n → k < size c → final (sw c) p xs v.labels g i k ≡ pattern c ys i k
    unfolding final
    final_is g i k hi hk =
        rw (no_greys c xs perm, reached_is c xs perm v.labels i (rw v.numbered.long hi)) (go (acts c xs i) (held c v.labels i) refl refl)
      where
        P : Pattern
        P = pattern c xs c.reference

        go : (x y : Bool) → acts c xs i ≡ x → held c v.labels i ≡ y
            → cond (x && not y) (act_by c.mode (sw c) p P (label_of v.labels i) (pattern c xs i) k) (pattern c xs i k) ≡ pattern c ys i k
        go true true e q = sym ((fair i hi).held q i hi refl k hk)
        go true false e q = turned c p c.mode perm P (pattern c xs i) (label_of v.labels i) k ∙ sym ((explained i hi e).turns i k hi hk refl)
        go false y e q = sym ((fair i hi).idle i hi refl e k hk)

    goes : (b' : Buffers) → Goes (sw c) p b b' → b'.spins ≡ ys
    goes b' g =
        known b'.spins m.long
        (λ i k hi hk. m.group i k hi hk ∙ final_is b'.grey_labels i k hi hk)
      where
        -- the labels that the move writes are the vendor's
        same : b'.labels ≡ v.labels
        same =
            labels_unique (graph c) (holds c xs) b'.labels v.labels
            (labels_ext (graph c) (holds (sw c) xs) (holds c xs) b'.labels (holds_same c xs) (g.seen.all refl).labels.labels) v.numbered

        m : Moves (sw c) p xs v.labels b'.grey_labels b'.spins
        m = rw same at (g.moved refl)

    answered : (a : Answer) (b' : Buffers) → Answers (sw c) p b a b' → Played a b' ys
    answered (Refused r) b' w = absurd (broken_not_kept (rules (sw c) p b) r w.why (valid_kept (sw c) p b valid))
    answered Idle b' w = record { accepted = idle; spins = w.still ∙ rests w.none }
    answered Held b' w = never w.one
    answered Moved b' w = record { accepted = moved; spins = goes b' w }

pub played :
    (t : Task) (fwd bwd pins : List ℕ) (xs ys : List ℤ) (rows rows' : List ℕ)
    → VendorAnswers (asked_by t fwd bwd pins) xs ys rows Yes rows'
    → (p : Choices)
    → p.choices ≡ rows'
    → (b b' : Buffers) (a : Answer)
    → b.spins ≡ xs
    → Outputs t.n b
    → Answers (with_form Sw (asked_by t fwd bwd pins)) p b a b'
    → Played a b' ys
played t fwd bwd pins xs ys rows rows' v p e b b' a s out w = answered t fwd bwd pins ys rows p b (rw (s, e) v) out a b' w

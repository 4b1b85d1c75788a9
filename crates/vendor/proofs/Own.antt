-- Whatever our own move writes is accepted.
use Rattle.std.specs.Prelude.{ℕ, ◌*◌, ◌<◌, ◌≡◌, refl, true, List, length, ℤ, Float}
use Rattle.std.proofs.Common.{sym, ◌∙◌, subst, arith}
use Rattle.paper.specs.declared.Mode.{Mode}
use Rattle.paper.specs.declared.Mode.TheVariants.{Houd, Pair, Perm, Gperm, Jorg, Cmr}
use Rattle.paper.specs.Answer.Cases.{Answer}
use Rattle.paper.specs.declared.Task.{Task}
use Rattle.paper.specs.Panel.Input.{Call, Choices, Buffers, Pattern, graph, pattern, size, ahead}
use Rattle.paper.specs.Panel.Takes.{is_perm, is_gperm}
use Rattle.paper.specs.Site.Acting.{acts}
use Rattle.paper.specs.Site.Bonds.{holds}
use Rattle.paper.specs.Component.Labels.{Labels}
use Rattle.paper.specs.Refusal.Rule.{Kept, broken_not_kept}
use Rattle.paper.specs.Refusal.Rules.{AllSystems, Spins, Permutes, Ranged}
use Rattle.paper.specs.Refusal.Kept.{Valid}
use Rattle.paper.specs.Answer.Move.{Answers, Accepted}
use Rattle.laws.specs.Patterns.{Spinning}
use Rattle.laws.specs.Entries.{spin_of}
use Rattle.vendor.specs.Checked.{Checked, Checked.Refused, Checked.No, Checked.Yes}
use Rattle.vendor.specs.Vendor.{asked_by, turned_by, Explained, Unchanged, Fair, Lent, vendor_rules, number, VendorAnswers}
use Rattle.packing.specs.Gathered.{group_rows, length_group, group_at}
use Rattle.vendor.specs.GroupRows.{SameMove, alone, asked_alone, alone_pattern, alone_acts, alone_labels}
use Rattle.vendor.specs.OwnFair.{own_valid, own_spins, own_fair}

-- a permutation makes the same of patterns that agree below n
turned_ext :
    (m : Mode) (n : ℕ) (P Q f g : Pattern) (q : ℕ → ℕ) → Permutes n q → (is_gperm m ≡ true → (k : ℕ) → k < n → P k ≡ Q k)
    → ((k : ℕ) → k < n → f k ≡ g k) → (k : ℕ) → k < n → turned_by m P q f k ≡ turned_by m Q q g k
turned_ext Houd n P Q f g q w s e k h = e (q k) (w.within k h)
turned_ext Pair n P Q f g q w s e k h = e (q k) (w.within k h)
turned_ext Perm n P Q f g q w s e k h = e (q k) (w.within k h)
turned_ext Gperm n P Q f g q w s e k h = cc (s refl k h, s refl (q k) (w.within k h), e (q k) (w.within k h))
turned_ext Jorg n P Q f g q w s e k h = e (q k) (w.within k h)
turned_ext Cmr n P Q f g q w s e k h = e (q k) (w.within k h)

module _
    (c : Call) (p : Choices) (b b' : Buffers) (a : Answer) (perm : is_perm c.mode ≡ true) (ok : Accepted a) (w : Answers c p b a b')
    (temperature : Float) (seed : ℕ)
  where
    abbrev v : Call
    v = alone c temperature seed

    abbrev xs : List ℤ
    xs = b.spins

    abbrev ys : List ℤ
    ys = b'.spins

    -- what the vendor's call is handed
    abbrev before : List ℤ
    before = group_rows c xs

    abbrev after : List ℤ
    after = group_rows c ys

    valid : Valid c p b
    valid = own_valid c p b b' a ok w

    ranged : Ranged c.lattice.n c.lattice.d c.lattice.s c.mode (size c)
    ranged = valid.sound.ranged

    reference : is_gperm c.mode ≡ true → c.reference < c.lattice.n
    reference = valid.fit.chosen.reference

    inside : (i e : ℕ) → i < c.lattice.n → e < c.lattice.d → ahead c i e < c.lattice.n
    inside i e hi he = (valid.sound.inverse.there i e hi he).inside

    same : (zs : List ℤ) (i k : ℕ) → i < c.lattice.n → k < size c → pattern v (group_rows c zs) i k ≡ pattern c zs i k
    same = alone_pattern c temperature seed ranged.size_high

    some : 0 < size c
    some = omega (arith, ranged.size_low)

    same_acts : (i : ℕ) → i < c.lattice.n → acts v before i ≡ acts c xs i
    same_acts = alone_acts c temperature seed ranged.size_high xs some reference

    -- ---- no component is at fault
    same_unchanged : (i : ℕ) → i < c.lattice.n → Unchanged c xs ys i → Unchanged v before after i
    same_unchanged i hi u k hk = same ys i k hi hk ∙ (u k hk ∙ sym (same xs i k hi hk))

    same_explained : (l : List ℕ) (r : ℕ) → Explained c xs ys l r → Explained v before after l r
    same_explained l r e = record {
      by = e.by;
      explains = record {
        permutes = e.explains.permutes;
        turns = λ i k hi hk q.
            same ys i k hi hk
            ∙ (e.explains.turns i k hi hk q
            ∙ sym (turned_ext c.mode (size c) (pattern v before c.reference) (pattern c xs c.reference) (pattern v before i)
            (pattern c xs i) e.by e.explains.permutes (λ g j hj. same xs c.reference j (reference g) hj) (λ j hj. same xs i j hi hj) k hk));
      };
    }

    same_fair : (l : List ℕ) (r : ℕ) → Fair c xs ys l r → Fair v before after l r
    same_fair l r f = record {
      acting = λ s. same_explained l r (f.acting (record {
        site = s.site;
        below = s.below;
        label = s.label;
        does = sym (same_acts s.site s.below) ∙ s.does;
      }));
      idle = λ i hi q e. same_unchanged i hi (f.idle i hi q (sym (same_acts i hi) ∙ e));
      held = λ h i hi q. same_unchanged i hi (f.held h i hi q);
    }

    alone_fair : {found : ℕ} (l : List ℕ) → Labels (graph v) (holds v before) l found → (r : ℕ) → Fair v before after l r
    alone_fair l labels r =
        same_fair l r
        (own_fair c p b b' perm l (alone_labels c temperature seed ranged.size_high xs some reference perm inside l labels) r a ok w)

    -- ---- and no rule is broken
    module _ (rows : List ℕ) (long : length rows ≡ c.lattice.n * size c) where
      lent : Lent v before after rows
      lent = record {
        before = length_group c xs;
        after = length_group c ys;
        fwd = valid.sound.exact.fwd;
        bwd = valid.sound.exact.bwd;
        pins = valid.sound.exact.pins;
        rows_long = long;
      }

      spins : (zs : List ℤ) → ((i : ℕ) → i < c.lattice.n → Spinning (size c) (pattern c zs i)) → Spins c.lattice.n (AllSystems (size c)) (group_rows c zs)
      spins zs s k i hk hi = rw (group_at c zs i k hi hk) (s i hi k hk)

      own_ranged : Ranged c.lattice.n c.lattice.d (size c) c.mode (size c)
      own_ranged = record {
        lattice = record {
          n_low = ranged.lattice.n_low;
          n_high = ranged.lattice.n_high;
          d_low = ranged.lattice.d_low;
          d_high = ranged.lattice.d_high;
          s_low = some;
          s_high = omega (arith, ranged.size_high);
        };
        size_low = ranged.size_low;
        size_high = ranged.size_high;
        cmr_two = ranged.cmr_two;
      }

      own_kept : Kept (vendor_rules v before after rows)
      own_kept = (
        own_ranged,
        (
          perm,
          (
            lent,
            (spins xs (spin_of valid), (spins ys (own_spins c p b b' perm a ok w), (valid.sound.inverse, (valid.sound.pins, (reference, tt))))),
          ),
        ),
      )

      alone_accepted : (rows' : List ℕ) (r : Checked) → VendorAnswers v before after rows r rows' → r ≡ Yes
      alone_accepted rows' (Refused k) q = absurd (broken_not_kept (vendor_rules v before after rows) (number (Refused k)) q.why own_kept)
      alone_accepted rows' (No r) q = absurd (q.fault (alone_fair q.labels q.numbered r))
      alone_accepted rows' Yes q = refl

-- a move of any form, with any pins, that moved, was held or was idle: the pair of its group's rows before and after is answered yes
pub own_accepted :
    (c : Call) (p : Choices) (b b' : Buffers) (a : Answer)
    → is_perm c.mode ≡ true
    → Accepted a
    → Answers c p b a b'
    → (t : Task)
    → SameMove t c
    → (rows rows' : List ℕ) (r : Checked)
    → length rows ≡ c.lattice.n * size c
    → VendorAnswers (asked_by t c.lattice.fwd c.lattice.bwd c.pins) (group_rows c b.spins) (group_rows c b'.spins) rows r rows'
    → r ≡ Yes
own_accepted c p b b' a perm ok w t e rows rows' r long q =
    alone_accepted c p b b' a perm ok w t.temperature t.seed rows long rows' r
    (subst (λ (z : Call). VendorAnswers z (group_rows c b.spins) (group_rows c b'.spins) rows r rows') (asked_alone t c e) q)

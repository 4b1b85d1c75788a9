-- Demand 3 over the rows that the calls name: between two moves, and beside the one that they amount to, the other systems' rows may change, as by the
-- other team's calls. What `Demand3` says of all bytes then holds of the group's rows.
use Rattle.std.specs.Prelude.{ℕ, ◌<◌, ◌≡◌, refl, true, false, ◌&&◌, List, length, ℤ}
use Rattle.std.proofs.Common.{sym, ◌∙◌, ap}
use Rattle.paper.specs.declared.Form.TheVariants.{Wolff}
use Rattle.paper.specs.Panel.Input.{graph, Call, Choices, Buffers, pattern, size}
use Rattle.paper.specs.Panel.Takes.{is_perm, labels_by, moves}
use Rattle.paper.specs.Site.Acting.{acts}
use Rattle.paper.specs.Site.Bonds.{holds}
use Rattle.paper.specs.Component.Sizes.{label_of}
use Rattle.paper.specs.Move.Moving.{reached, after}
use Rattle.paper.specs.Refusal.Rules.{Permutes}
use Rattle.laws.specs.Entries.{perm_of, reached_moves}
use Rattle.laws.specs.Local.{Alike, acts_local, final_local}
use Rattle.laws.specs.Unique.{numbered_unique, counts_unique, sizes_unique, counts_ext, sizes_ext}
use Rattle.demand3.specs.Statement.{Reversible, Move, Such, SameRows, ComposedAt, Composed, CancelsAt, Cancels, Two, SameOutputs, inverse, Outcome}
use Rattle.demand3.specs.Reversible.{not_cmr}
use Rattle.demand3.specs.Step.{Step, step, seen_of, valid_move, final_after}
use Rattle.demand3.specs.Such.{move_of, itself, own}
use Rattle.demand3.specs.Chain.{alike, numbered_same, instead, next, exact_instead, exact_next}
use Rattle.demand3.specs.Theorem.{demand3}

-- two such moves, choosing p and then q: the second finds the group's rows as the first left them
pub record TwoNamed (c : Call) (p q : Choices) (b b' d d' : Buffers) : Type 0 where
  pub first : Such c p b b'
  pub second : Such c q d d'
  pub handed : SameRows c d.spins b'.spins

pub record NamedRows (c : Call) : Type 0 where
  -- what a move does to the group's rows, and its outputs, depend on the group's rows alone
  pub rows : {p : Choices} {b b' d d' : Buffers} → Such c p b b' → Such c p d d' → SameRows c d.spins b.spins → SameRows c d'.spins b'.spins
  pub same : {p : Choices} {b b' d d' : Buffers} → Such c p b b' → Such c p d d' → SameRows c d.spins b.spins → SameOutputs b' d'
  pub outputs : {p q : Choices} {b b' d d' : Buffers} → TwoNamed c p q b b' d d' → SameOutputs b' d'
  -- on one component; on all
  pub composes_at :
      {p q r : Choices} {b b' d d' e e' : Buffers}
      → TwoNamed c p q b b' d d'
      → Such c r e e'
      → SameRows c e.spins b.spins
      → (i k : ℕ)
      → i < c.lattice.n
      → k < size c
      → ComposedAt c p q r (label_of b'.labels i)
      → pattern c d'.spins i k ≡ pattern c e'.spins i k
  pub composes :
      {p q r : Choices} {b b' d d' e e' : Buffers}
      → TwoNamed c p q b b' d d'
      → Such c r e e'
      → SameRows c e.spins b.spins
      → Composed c b.spins b'.labels p q r
      → SameRows c d'.spins e'.spins
  pub restores_at :
      {p q : Choices} {b b' d d' : Buffers}
      → TwoNamed c p q b b' d d'
      → (i k : ℕ)
      → i < c.lattice.n
      → k < size c
      → CancelsAt c p q (label_of b'.labels i)
      → pattern c d'.spins i k ≡ pattern c b.spins i k
  pub restores :
      {p q : Choices} {b b' d d' : Buffers} → TwoNamed c p q b b' d d' → Cancels c b.spins b'.labels p q → SameRows c d'.spins b.spins
  pub restores_wolff :
      {p q : Choices} {b b' d d' : Buffers}
      → c.form ≡ Wolff
      → is_perm c.mode ≡ false
      → TwoNamed c p q b b' d d'
      → SameRows c d'.spins b.spins
  pub inverse_restores :
      {p : Choices} {b b' d d' : Buffers} → moves c.form ≡ true → TwoNamed c p (inverse c p) b b' d d' → SameRows c d'.spins b.spins

module _ (c : Call) (v : Reversible c.mode (size c)) (f : labels_by c.form ≡ true) where
  -- ---- one move, on two lists of spins with the same rows of the group
  module _ {p : Choices} {b b' d d' : Buffers} (m : Move c p b b') (w : Move c p d d') (rows : SameRows c d.spins b.spins) where
    here : Step c p b.spins b'.labels b'.spins
    here = step v f m

    there : Step c p d.spins d'.labels d'.spins
    there = step v f w

    one : Alike c d.spins b.spins
    one = alike here rows

    numbers : (d'.labels ≡ b'.labels) × (d'.found ≡ b'.found)
    numbers =
        numbered_unique (graph c) (holds c d.spins) d'.labels b'.labels d'.found b'.found (seen_of f w).labels
        (numbered_same one (seen_of f m).labels)

    marks : (i : ℕ) → i < length b'.labels → acts c b.spins i ≡ acts c d.spins i
    marks i h = sym (acts_local c d.spins b.spins one i (rw (seen_of f m).labels.labels.long at h))

    same_outputs : SameOutputs b' d'
    same_outputs = record {
      labels = numbers.0;
      found = numbers.1;
      counts = counts_unique b'.labels d'.counts b'.counts (rw numbers.0 at (seen_of f w).counts)
          (counts_ext b'.labels marks (seen_of f m).counts);
      sizes = sizes_unique b'.labels d'.sizes b'.sizes (rw numbers.0 at (seen_of f w).sizes)
          (sizes_ext b'.labels marks (seen_of f m).sizes);
    }

    after_same : (i k : ℕ) → i < c.lattice.n → k < size c → after c p d.spins b'.labels i k ≡ after c p b.spins b'.labels i k
    after_same i k hi hk =
        let plain = not_cmr c.mode (size c) v in
        sym (final_after c p d.spins b'.labels b'.grey_labels i k plain)
        ∙ (final_local c d.spins b.spins one p b'.labels b'.grey_labels i k hi hk perms
        ∙ final_after c p b.spins b'.labels b'.grey_labels i k plain)
      where
        perms : reached c d.spins b'.labels i ≡ true → is_perm c.mode ≡ true → Permutes (size c) (perm_of c p (label_of b'.labels i))
        perms e q = here.told.perms taken i hi
          where
            taken : (moves c.form && is_perm c.mode) ≡ true
            taken = rw (reached_moves c d.spins b'.labels i e, q)

    same_rows : SameRows c d'.spins b'.spins
    same_rows i hi k hk =
        there.group i k hi hk
        ∙ (ap (λ (l : List ℕ). after c p d.spins l i k) numbers.0 ∙ (after_same i k hi hk ∙ sym (here.group i k hi hk)))

  -- ---- two moves: the second is there on just what the first left, and does the same
  module _ {p q : Choices} {b b' d d' : Buffers} (w : TwoNamed c p q b b' d d') where
    m : Move c p b b'
    m = move_of w.first

    second : Move c q d d'
    second = move_of w.second

    at_once : Outcome c q b'
    at_once =
        next v f m (λ i hi k hk. refl) (exact_next v f m {q = q} (record { choices = (valid_move second).sound.exact.choices }))
        (valid_move second).fit.chosen

    two : Two c p q b b' b' at_once.after
    two = record { first = w.first; second = record { call = c; choices = q; same = itself c q; move = own at_once }; handed = refl }

    then : SameRows c d'.spins at_once.after.spins
    then = same_rows (own at_once) second w.handed

    both_outputs : SameOutputs b' d'
    both_outputs =
        let x = (demand3 c v f).outputs two in
        let y = same_outputs (own at_once) second w.handed in
        record { labels = y.labels ∙ x.labels; found = y.found ∙ x.found; counts = y.counts ∙ x.counts; sizes = y.sizes ∙ x.sizes }

    -- the one move, on just the spins that the first was lent
    module _ {r : Choices} {e e' : Buffers} (u : Such c r e e') (rows : SameRows c e.spins b.spins) where
      third : Move c r e e'
      third = move_of u

      in_place : Outcome c r b
      in_place =
          instead v f m (exact_instead v f m {q = r} (record { choices = (valid_move third).sound.exact.choices })) (valid_move third).fit.chosen

      single : Such c r b in_place.after
      single = record { call = c; choices = r; same = itself c r; move = own in_place }

      beside : SameRows c e'.spins in_place.after.spins
      beside = same_rows (own in_place) third rows

  abbrev rows_of : (i k : ℕ) → List ℤ → ℤ
  rows_of i k xs = pattern c xs i k

  pub named_rows : NamedRows c
  named_rows = record {
    rows = λ a d. same_rows (move_of a) (move_of d);
    same = λ a d. same_outputs (move_of a) (move_of d);
    outputs = both_outputs;
    composes_at = λ w u rows i k hi hk h.
        then w i hi k hk ∙ ((demand3 c v f).composes_at (two w) (single w u rows) refl i k hi hk h ∙ sym (beside w u rows i hi k hk));
    composes = λ w u rows h i hi k hk.
        then w i hi k hk ∙ (ap (rows_of i k) ((demand3 c v f).composes (two w) (single w u rows) refl h) ∙ sym (beside w u rows i hi k hk));
    restores_at = λ w i k hi hk h. then w i hi k hk ∙ (demand3 c v f).restores_at (two w) i k hi hk h;
    restores = λ w h i hi k hk. then w i hi k hk ∙ ap (rows_of i k) ((demand3 c v f).restores (two w) h);
    restores_wolff = λ wolff flips w i hi k hk. then w i hi k hk ∙ ap (rows_of i k) ((demand3 c v f).restores_wolff wolff flips (two w));
    inverse_restores = λ g w i hi k hk. then w i hi k hk ∙ ap (rows_of i k) ((demand3 c v f).inverse_restores g (two w));
  }

-- Demand 3 holds for every call of its modes in the forms that label, and stops at row 12. What grows has Wolff's spins (`GrowsAsWolff` of `laws`).
use Rattle.std.specs.Prelude.{ℕ, ◌<◌, ◌≡◌, refl, Bool, true, false, ◌&&◌, List, pos, negsuc}
use Rattle.std.proofs.Common.{sym, ◌∙◌, arith}
use Rattle.lemmas.specs.Bools.{never, and_right}
use Rattle.lemmas.specs.Ints.{same_is}
use Rattle.paper.specs.declared.Form.TheVariants.{Sw}
use Rattle.paper.specs.Panel.Input.{graph, Call, Choices, Buffers, size}
use Rattle.paper.specs.Panel.Takes.{is_perm, one_cluster, labels_by, moves, takes_perms}
use Rattle.paper.specs.Site.Bonds.{holds}
use Rattle.paper.specs.Site.Energy.{bond_sum}
use Rattle.paper.specs.Component.Labels.{Joined, Labels, Numbered}
use Rattle.paper.specs.Refusal.Rules.{When, Chosen, NotIdentity, perm_row}
use Rattle.paper.specs.Rows.Cases.{houd4, before12, after12}
use Rattle.laws.specs.Unique.{same_label, numbered_unique, counts_unique, sizes_unique}
use Rattle.rows.specs.Proved.{table}
use Rattle.demand3.specs.Statement.{Reversible, Move, Such, Keeps, Two, SameOutputs, composite, inverse, identity, Leaves, Demand3, Boundary}
use Rattle.demand3.specs.Step.{Step, step, seen_of, valid_move}
use Rattle.demand3.specs.Turns.{acts_kept, numbered_kept, counts_kept, sizes_kept}
use Rattle.demand3.specs.BondSums.{sum_kept}
use Rattle.demand3.specs.Compose.{none_moved, composed_all, cancels_all, back_at, two_back, then_at, two_then}
use Rattle.demand3.specs.ChoicesAdd.{wolff_cancels}
use Rattle.demand3.specs.ChoicesFit.{composite_chosen, composite_is, composite_sized, inverse_chosen, inverse_cancels, inverse_sized}
use Rattle.demand3.specs.ChoicesFit.{identity_chosen, identity_stays, identity_sized}
use Rattle.demand3.specs.Such.{move_of, own}
use Rattle.demand3.specs.Chain.{instead, next, exact_instead, exact_next}

module _ (c : Call) (v : Reversible c.mode (size c)) (f : labels_by c.form ≡ true) where
  joined :
      {found₁ found₂ : ℕ} (l : List ℕ) (h₁ h₂ : ℕ → ℕ → Bool)
      → Labels (graph c) h₁ l found₁
      → Labels (graph c) h₂ l found₂
      → (i j : ℕ)
      → i < c.lattice.n
      → j < c.lattice.n
      → Joined (graph c) h₁ i j
      → Joined (graph c) h₂ i j
  joined l h₁ h₂ l₁ l₂ i j hi hj q = (same_label (graph c) h₂ l l₂ i j hi hj).0 ((same_label (graph c) h₁ l l₁ i j hi hj).1 q)

  keeps : {p : Choices} {b b' : Buffers} → Such c p b b' → Keeps c b b'
  keeps {p} {b} {b'} m = record {
    acting = acts_kept s;
    components = λ i j hi hj. (
      joined b'.labels (holds c b'.spins) (holds c b.spins) after.labels before.labels i j hi hj,
      joined b'.labels (holds c b.spins) (holds c b'.spins) before.labels after.labels i j hi hj,
    );
    labels_before = before;
    labels_after = after;
    sums = sum_kept s;
    others = s.others;
  }
    where
      s : Step c p b.spins b'.labels b'.spins
      s = step v f (move_of m)

      before : Numbered (graph c) (holds c b.spins) b'.labels b'.found
      before = (seen_of f (move_of m)).labels

      after : Numbered (graph c) (holds c b'.spins) b'.labels b'.found
      after = numbered_kept s before

  module _ {p q : Choices} {b b' d d' : Buffers} (w : Two c p q b b' d d') where
    first : Step c p b.spins b'.labels b'.spins
    first = step v f (move_of w.first)

    second : Step c q b'.spins d'.labels d'.spins
    second = rw w.handed at (step v f (move_of w.second))

    module _ {r : Choices} {e e' : Buffers} (m : Such c r e e') (same : e.spins ≡ b.spins) where
      third : Step c r b.spins e'.labels e'.spins
      third = rw same at (step v f (move_of m))

    outputs : SameOutputs b' d'
    outputs = record {
      labels = numbers.0;
      found = numbers.1;
      counts = counts_unique d'.labels d'.counts b'.counts (rw w.handed at (seen_of f (move_of w.second)).counts)
          (rw numbers.0 (counts_kept first f (seen_of f (move_of w.first)).counts));
      sizes = sizes_unique d'.labels d'.sizes b'.sizes (rw w.handed at (seen_of f (move_of w.second)).sizes)
          (rw numbers.0 (sizes_kept first f (seen_of f (move_of w.first)).sizes));
    }
      where
        numbers : (d'.labels ≡ b'.labels) × (d'.found ≡ b'.found)
        numbers =
            numbered_unique (graph c) (holds c b'.spins) d'.labels b'.labels d'.found b'.found
            (rw w.handed at (seen_of f (move_of w.second)).labels) (numbered_kept first (seen_of f (move_of w.first)).labels)

    chosen_first : Chosen c p
    chosen_first = (valid_move (move_of w.first)).fit.chosen

    chosen_second : Chosen c q
    chosen_second = (valid_move (move_of w.second)).fit.chosen

    -- one move choosing the composite, where that is a choice and composes
    one :
        When (takes_perms c && one_cluster c.form) (NotIdentity (size c) (λ k. perm_row c p 0 (perm_row c q 0 k)))
        → moves c.form ≡ true
        → (is_perm c.mode ≡ false → c.form ≡ Sw)
        → Leaves c (composite c p q) b d'.spins
    one moving moving-form sw =
        let m = move_of w.first in
        let o = instead v f m (exact_instead v f m (composite_sized c p q)) (composite_chosen c v chosen_first chosen_second moving) in
        let is = composed_all f first (composite_is c v chosen_first chosen_second moving-form sw) in
        record { outcome = o; bytes = sym (two_then f first second (step v f (own o)) is) }

pub demand3 : (c : Call) → Reversible c.mode (size c) → labels_by c.form ≡ true → Demand3 c
demand3 c v f = record {
  keeps = keeps c v f;
  next = λ m. next v f (move_of m);
  outputs = outputs c v f;
  composes_at = λ w m same i k hi hk h. then_at f (first c v f w) (second c v f w) (third c v f w m same) i k hi hk (λ _. h);
  composes = λ w m same. two_then f (first c v f w) (second c v f w) (third c v f w m same);
  one_sw = λ sw w. one c v f w (λ t. never (rw sw at (and_right (takes_perms c) (one_cluster c.form) t))) (rw sw refl) (λ _. sw);
  one_wolff = λ wolff perm w moving. one c v f w (λ _. moving) (rw wolff refl) (λ e. never (sym e ∙ perm));
  restores_at = λ w i k hi hk h. back_at f (first c v f w) (second c v f w) i k hi hk (λ _. h);
  restores = λ w. two_back f (first c v f w) (second c v f w);
  restores_wolff = λ wolff flips w. two_back f (first c v f w) (second c v f w) (cancels_all f (first c v f w) (wolff_cancels c v flips _ _ wolff));
  inverse_there = λ g m. undone g (move_of m);
  inverse_restores = λ g w. two_back f (first c v f w) (second c v f w) (cancels_all f (first c v f w) (inverse_cancels c v (chosen_first c v f w) g));
  identity_there = λ sw m. rest sw (move_of m);
  identity_still = λ sw m. none_moved f (step v f (move_of m)) (identity_stays c v sw);
}
  where
    undone : {p : Choices} {b b' : Buffers} → moves c.form ≡ true → Move c p b b' → Leaves c (inverse c p) b' b.spins
    undone {p} {b} {b'} g m =
        let h = (valid_move m).fit.chosen in
        let sized = exact_next v f m (inverse_sized c p (record { choices = (valid_move m).sound.exact.choices })) in
        let o = next v f m (λ i hi k hk. refl) sized (inverse_chosen c v h) in
        record {
          outcome = o;
          bytes = two_back f (step v f m) (step v f (own o)) (cancels_all f (step v f m) (inverse_cancels c v h g));
        }

    rest : {p : Choices} {b b' : Buffers} → c.form ≡ Sw → Move c p b b' → Leaves c (identity c) b b.spins
    rest {p} {b} {b'} sw m =
        let o = instead v f m (exact_instead v f m (identity_sized c)) (identity_chosen c v (valid_move m).fit.chosen sw) in
        record { outcome = o; bytes = none_moved f (step v f (own o)) (identity_stays c v sw) }

pub boundary : Boundary
boundary = record {
  moves = table.row12.moves;
  refused = table.row12.refused;
  before = sum_before;
  after = sum_after;
  not_kept = λ k. apart (sym sum_after ∙ (k.sums 0 0 (omega arith) (omega arith) ∙ sum_before));
}
  where
    sum_before : bond_sum houd4 before12.spins 0 0 ≡ pos 2
    sum_before = table.values.row12_before

    sum_after : bond_sum houd4 after12.spins 0 0 ≡ negsuc 1
    sum_after = table.values.row12_after

    apart : negsuc 1 ≡ pos 2 → ⊥
    apart e = never (same_is (negsuc 1) (pos 2) e)

-- With all pins 0 every move is what it was before sites could be pinned (Was.antt), with totals and without: the same answers, refusals and buffers.
use Rattle.std.specs.Prelude.{ℕ, ◌<◌, ◌≡◌, ◌↔◌, Bool, true, false, ◌&&◌, List, length, get_or, ℤ}
use Rattle.std.proofs.Math.Path.{refl}
use Rattle.std.proofs.Common.{sym, ◌∙◌, arith}
use Rattle.std.proofs.Math.Decide.{dec_lt}
use Rattle.std.proofs.Math.Dec.{eqb}
use Rattle.std.proofs.Math.ListN.{get_or-eq_default}
use Rattle.lemmas.specs.Bools.{never, and_no}
use Rattle.lemmas.specs.Counts.{count_zero}
use Rattle.paper.specs.Answer.Cases.{Answer, Answer.Refused, Answer.Idle, Answer.Held, Answer.Moved}
use Rattle.paper.specs.Panel.Input.{Call, Choices, Buffers, pinned}
use Rattle.paper.specs.Component.Sizes.{label_of}
use Rattle.paper.specs.Move.Moving.{reached_by, has_one, reached, final, Moves}
use Rattle.paper.specs.Refusal.Rules.{group_names, Exact, Pins, More, no_more, rules_with}
use Rattle.paper.specs.Answer.Move.{SeedHeld, Turns, Answers}
use Rattle.paper.specs.Answer.Totals.{totals_ask, KeepAnswers}
use Rattle.laws.specs.Matched.{SameVerdict, unchanged, behind, behind_all, reworded, past}
use Rattle.laws.specs.Was.{reached_was, final_was, MovesWas, TurnsWas, ExactWas, rules_was, AnswersWas, KeepAnswersWas}

-- no site is pinned
pub record NoPins (n : ℕ) (pins : List ℕ) : Type 0 where
  pub long : length pins ≡ n
  pub zero : (i : ℕ) → i < n → get_or pins i 0 ≡ 0

and_true : (b : Bool) → (b && true) ≡ b
and_true true = refl
and_true false = refl

pub pins_kept : {n : ℕ} {pins : List ℕ} → NoPins n pins → Pins pins
pins_kept h i l = omega (arith, h.zero i (rw h.long at l))

module _ (c : Call) (none : NoPins c.lattice.n c.pins) where
  -- ---- nothing is held
  pub not_pinned : (i : ℕ) → pinned c i ≡ false
  not_pinned i = rw (at (dec_lt i c.lattice.n)) refl
    where
      at : Dec (i < c.lattice.n) → get_or c.pins i 0 ≡ 0
      at (yes h) = none.zero i h
      at (no h) = get_or-eq_default c.pins 0 (omega (arith, none.long))

  not_held : (l : List ℕ) (r : ℕ) → has_one (pinned c) l r ≡ false
  unfolding has_one
  not_held l r =
      rw (count_zero (λ j. eqb (label_of l j) r && pinned c j) (length l) (λ j _. rw (not_pinned j) (and_no (eqb (label_of l j) r)))) refl

  pub seed_free : (xs : List ℤ) → SeedHeld c xs → ⊥
  seed_free xs h = never (sym (not_pinned h.site) ∙ h.pin)

  pub reached_was_lem : (xs : List ℤ) (l : List ℕ) (i : ℕ) → reached c xs l i ≡ reached_was c xs l i
  unfolding reached
  reached_was_lem xs l i = rw (not_held l (label_of l i), and_true (reached_by c.form c.mode c.seed l i)) refl

  module _ (p : Choices) where
    -- ---- what moves
    final_was_lem : (xs : List ℤ) (l g : List ℕ) (i k : ℕ) → final c p xs l g i k ≡ final_was c p xs l g i k
    unfolding final
    final_was_lem xs l g i k = cc (reached_was_lem xs l i, reached_was_lem xs g i)

    module _ (xs : List ℤ) (l g : List ℕ) (ys : List ℤ) where
      moves_was : Moves c p xs l g ys → MovesWas c p xs l g ys
      moves_was m = record { long = m.long; group = λ i k hi hk. m.group i k hi hk ∙ final_was_lem xs l g i k; others = m.others }

      moves_are : MovesWas c p xs l g ys → Moves c p xs l g ys
      moves_are m = record { long = m.long; group = λ i k hi hk. m.group i k hi hk ∙ sym (final_was_lem xs l g i k); others = m.others }

    turns_was : (xs : List ℤ) (m : List ℕ) (ys : List ℤ) → Turns c p xs m ys → TurnsWas c p xs m ys
    turns_was xs m ys t = record { blue = t.blue; joined = t.joined; moved = moves_was xs t.blue m ys t.moved }

    turns_are : (xs : List ℤ) (m : List ℕ) (ys : List ℤ) → TurnsWas c p xs m ys → Turns c p xs m ys
    turns_are xs m ys t = record { blue = t.blue; joined = t.joined; moved = moves_are xs t.blue m ys t.moved }

    module _ (b b' : Buffers) where
      -- ---- the rules
      exact_was : Exact c p b ↔ ExactWas c p b
      exact_was = (
        (λ e. record {
          spins = e.spins;
          fwd = e.fwd;
          bwd = e.bwd;
          couplings = e.couplings;
          cuts = e.cuts;
          choices = e.choices;
          greys = e.greys;
          labels = e.labels;
          grey_labels = e.grey_labels;
          counts = e.counts;
          sizes = e.sizes;
          members = e.members;
          found = e.found;
          grey_found = e.grey_found;
        }),
        (λ e. record {
          spins = e.spins;
          fwd = e.fwd;
          bwd = e.bwd;
          pins = none.long;
          couplings = e.couplings;
          cuts = e.cuts;
          choices = e.choices;
          greys = e.greys;
          labels = e.labels;
          grey_labels = e.grey_labels;
          counts = e.counts;
          sizes = e.sizes;
          members = e.members;
          found = e.found;
          grey_found = e.grey_found;
        }),
      )

      pub rules_was_lem : (m : More) → SameVerdict (rules_with m c p b) (rules_was m c p b)
      rules_was_lem m =
          behind _ _ _
          (behind _ _ _
          (reworded 2 _ _ exact_was (behind_all m.lengths _ _ (behind _ _ _ (behind _ _ _ (past _ _ _ (pins_kept none) (unchanged _)))))))

      -- ---- the answers
      pub unpinned : (a : Answer) → Answers c p b a b' ↔ AnswersWas c p b a b'
      unpinned (Refused r) = (
        (λ w. record { why = ((rules_was_lem no_more).broken r).0 w.why; kept = w.kept }),
        (λ w. record { why = ((rules_was_lem no_more).broken r).1 w.why; kept = w.kept }),
      )
      unpinned Idle = (
        (λ w. record { valid = (rules_was_lem no_more).kept.0 w.valid; none = w.none; still = w.still; seen = w.seen }),
        (λ w. record { valid = (rules_was_lem no_more).kept.1 w.valid; none = w.none; still = w.still; seen = w.seen }),
      )
      unpinned Held = ((λ w. seed_free b.spins w.held), (λ w. absurd w))
      unpinned Moved = (
        (λ w. record {
          valid = (rules_was_lem no_more).kept.0 w.valid;
          some = w.some;
          moved = λ t. moves_was b.spins b'.labels b'.grey_labels b'.spins (w.moved t);
          turned = λ t. turns_was b.spins b'.members b'.spins (w.turned t);
          seen = w.seen;
        }),
        (λ w. record {
          valid = (rules_was_lem no_more).kept.1 w.valid;
          some = w.some;
          free = λ _. seed_free b.spins;
          moved = λ t. moves_are b.spins b'.labels b'.grey_labels b'.spins (w.moved t);
          turned = λ t. turns_are b.spins b'.members b'.spins (w.turned t);
          seen = w.seen;
        }),
      )

      pub unpinned_kept : (keeping : Bool) (ts ts' : List ℤ) (a : Answer) → KeepAnswers keeping c p b ts a b' ts' ↔ KeepAnswersWas keeping c p b ts a b' ts'
      unpinned_kept keeping ts ts' (Refused r) = let rs = rules_was_lem (totals_ask keeping c.lattice (group_names c.group) ts) in (
        (λ w. record { why = (rs.broken r).0 w.why; kept = w.kept; totals_kept = w.totals_kept }),
        (λ w. record { why = (rs.broken r).1 w.why; kept = w.kept; totals_kept = w.totals_kept }),
      )
      unpinned_kept keeping ts ts' Idle = let rs = rules_was_lem (totals_ask keeping c.lattice (group_names c.group) ts) in (
        (λ w. record { valid = rs.kept.0 w.valid; answers = (unpinned Idle).0 w.answers; totals = w.totals }),
        (λ w. record { valid = rs.kept.1 w.valid; answers = (unpinned Idle).1 w.answers; totals = w.totals }),
      )
      unpinned_kept keeping ts ts' Held = ((λ w. seed_free b.spins w.answers.held), (λ w. absurd w))
      unpinned_kept keeping ts ts' Moved = let rs = rules_was_lem (totals_ask keeping c.lattice (group_names c.group) ts) in (
        (λ w. record { valid = rs.kept.0 w.valid; answers = (unpinned Moved).0 w.answers; totals = w.totals }),
        (λ w. record { valid = rs.kept.1 w.valid; answers = (unpinned Moved).1 w.answers; totals = w.totals }),
      )

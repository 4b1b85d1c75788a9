-- How tight the three promises are: each allows one answer and one content of every list that is lent.
use Rattle.std.specs.Prelude.{ℕ, zero, suc, ◌*◌, ◌<◌, ◌≡◌, refl, Bool, true, false, List, length, get_or, ℤ, Result}
use Rattle.paper.specs.declared.Refusal.{Refusal}
use Rattle.paper.specs.declared.Outcome.{Outcome}
use Rattle.paper.specs.Refusal.Numbers.{verdict_of, verdict_of_injective}
use Rattle.paper.specs.Answer.Cases.{answer_of, answer_of_injective}
use Rattle.std.proofs.Common.{sym, ◌∙◌, ap, subst, ext_get_or}
use Rattle.paper.specs.declared.Group.{Group}
use Rattle.paper.specs.Answer.Cases.{Answer, Answer.Refused, Answer.Idle, Answer.Held, Answer.Moved}
use Rattle.paper.specs.Panel.Input.{Lattice, graph, Call, Choices, Buffers, pattern_of, spin}
use Rattle.paper.specs.Site.Bonds.{holds}
use Rattle.paper.specs.Move.Moving.{final}
use Rattle.paper.specs.Refusal.Rule.{broken_unique, broken_not_kept}
use Rattle.paper.specs.Refusal.Rules.{When}
use Rattle.paper.specs.Refusal.Kept.{valid_kept}
use Rattle.paper.specs.Answer.Move.{Answers}
use Rattle.paper.specs.Answer.Totals.{TotalLengths, TotalsAfter}
use Rattle.laws.specs.AnswersLocal.{with_spins}
use Rattle.laws.specs.Determined.{Same, buffers_equal, determined}
use Rattle.laws.specs.MovesExist.{write, moves_exist}
use Rattle.laws.specs.Unique.{members_unique}
use Rattle.packing.specs.Bytes.{own_group}
use Rattle.packing.proofs.Laws.{own_pattern, rows_ext}
use Rattle.totals.specs.Determined.{brought_determined}
use Rattle.task_steps.specs.Label.{takes_blue, label_rules, LabelAccepts, LabelAnswers}
use Rattle.task_steps.specs.Choose.{Found, first_of, second_of, has_column, choose_rules, ChooseAccepts, ChooseAnswers}
use Rattle.task_steps.specs.Write.{Shape, Writing, write_rules, WriteAccepts, WriteAnswers}
use Rattle.task_steps.specs.Found.{left_by, valid_by}
use Rattle.task_steps.specs.Three.{seen_with, goes_by}

-- ---- the first step
pub record SameLabel (a : Answer) (y : Buffers) (u : List ℕ) (a' : Answer) (z : Buffers) (v : List ℕ) : Type 0 where
  pub answer : a ≡ a'
  pub buffers : y ≡ z
  pub blue : u ≡ v

module _ (c : Call) (p : Choices) (b : Buffers) (blue : List ℕ) where
  -- a move with this answer and these outputs, with some rows after it
  record Whole (a : Answer) (y : Buffers) : Type 0 where
    rows : List ℤ
    move : Answers c p b a (with_spins y rows)

  idle_whole : (y : Buffers) (u : List ℕ) → LabelAccepts c p b blue Idle y u → Whole Idle y
  idle_whole y u w = record {
    rows = b.spins;
    move = record { valid = valid_kept c p b (valid_by w); none = w.says; still = refl; seen = seen_with b.spins w.seen };
  }

  held_whole : (y : Buffers) (u : List ℕ) → LabelAccepts c p b blue Held y u → Whole Held y
  held_whole y u w = record {
    rows = b.spins;
    move = record {
      valid = valid_kept c p b (valid_by w);
      some = w.says.some;
      one = w.says.one;
      held = w.says.held;
      still = refl;
      seen = seen_with b.spins w.seen;
    };
  }

  moved_whole : (y : Buffers) (u : List ℕ) → LabelAccepts c p b blue Moved y u → Whole Moved y
  moved_whole y u w =
      let l = first_of c (left_by y u) in
      let g = second_of c (left_by y u) in
      let s = (valid_by w).sound in
      record {
        rows = write c b.spins (final c p b.spins l g);
        move = goes_by w (write c b.spins (final c p b.spins l g)) (moves_exist c p b.spins l g s.grouped s.exact.spins);
      }

  module _ (y z : Buffers) (u v : List ℕ) where
    blue_same : (a a' : Answer) → LabelAccepts c p b blue a y u → LabelAccepts c p b blue a' z v → u ≡ v
    blue_same a a' w h = go (takes_blue c) refl
      where
        go : (t : Bool) → takes_blue c ≡ t → u ≡ v
        go true e = members_unique (graph c) (holds c b.spins) c.seed u v (w.blue_sites e) (h.blue_sites e)
        go false e = w.blue_left e ∙ sym (h.blue_left e)

    accepted_same :
        (a a' : Answer) → Whole a y → Whole a' z → LabelAccepts c p b blue a y u → LabelAccepts c p b blue a' z v → SameLabel a y u a' z v
    accepted_same a a' f g w h = record {
      answer = s.answer;
      buffers =
          buffers_equal y z (w.still ∙ sym h.still) (ap (λ (x : Buffers). x.labels) e) (ap (λ (x : Buffers). x.grey_labels) e)
          (ap (λ (x : Buffers). x.counts) e) (ap (λ (x : Buffers). x.sizes) e) (ap (λ (x : Buffers). x.members) e) (ap (λ (x : Buffers). x.found) e)
          (ap (λ (x : Buffers). x.grey_found) e);
      blue = blue_same a a' w h;
    }
      where
        s : Same a (with_spins y f.rows) a' (with_spins z g.rows)
        s = determined c p b (with_spins y f.rows) (with_spins z g.rows) a a' f.move g.move

        e : with_spins y f.rows ≡ with_spins z g.rows
        e = s.buffers

    pub task_label_determined : (a a' : Answer) → LabelAnswers c p b blue a y u → LabelAnswers c p b blue a' z v → SameLabel a y u a' z v
    task_label_determined (Refused r) (Refused s) w h = record {
      answer = ap Refused (broken_unique (label_rules c p b blue) r s w.why h.why);
      buffers = w.kept ∙ sym h.kept;
      blue = w.blue_kept ∙ sym h.blue_kept;
    }
    task_label_determined (Refused r) Idle w h = absurd (broken_not_kept (label_rules c p b blue) r w.why h.valid)
    task_label_determined (Refused r) Held w h = absurd (broken_not_kept (label_rules c p b blue) r w.why h.valid)
    task_label_determined (Refused r) Moved w h = absurd (broken_not_kept (label_rules c p b blue) r w.why h.valid)
    task_label_determined Idle (Refused s) w h = absurd (broken_not_kept (label_rules c p b blue) s h.why w.valid)
    task_label_determined Held (Refused s) w h = absurd (broken_not_kept (label_rules c p b blue) s h.why w.valid)
    task_label_determined Moved (Refused s) w h = absurd (broken_not_kept (label_rules c p b blue) s h.why w.valid)
    task_label_determined Idle Idle w h = accepted_same Idle Idle (idle_whole y u w) (idle_whole z v h) w h
    task_label_determined Idle Held w h = accepted_same Idle Held (idle_whole y u w) (held_whole z v h) w h
    task_label_determined Idle Moved w h = accepted_same Idle Moved (idle_whole y u w) (moved_whole z v h) w h
    task_label_determined Held Idle w h = accepted_same Held Idle (held_whole y u w) (idle_whole z v h) w h
    task_label_determined Held Held w h = accepted_same Held Held (held_whole y u w) (held_whole z v h) w h
    task_label_determined Held Moved w h = accepted_same Held Moved (held_whole y u w) (moved_whole z v h) w h
    task_label_determined Moved Idle w h = accepted_same Moved Idle (moved_whole y u w) (idle_whole z v h) w h
    task_label_determined Moved Held w h = accepted_same Moved Held (moved_whole y u w) (held_whole z v h) w h
    task_label_determined Moved Moved w h = accepted_same Moved Moved (moved_whole y u w) (moved_whole z v h) w h

    pub task_label_result_determined : (a a' : Result Outcome Refusal)
        → LabelAnswers c p b blue (answer_of a) y u → LabelAnswers c p b blue (answer_of a') z v → a ≡ a'
    task_label_result_determined a a' w h = answer_of_injective a a' (task_label_determined (answer_of a) (answer_of a') w h).answer

-- ---- the second
pub record SameChosen (r : ℕ) (y : List ℕ) (r' : ℕ) (z : List ℕ) : Type 0 where
  pub answer : r ≡ r'
  pub area : y ≡ z

module _ (c : Call) (p : Choices) (xs : List ℤ) (f : Found) (area y z : List ℕ) where
  area_same : ChooseAccepts c p xs f area y → ChooseAccepts c p xs f area z → y ≡ z
  area_same w h = ext_get_or 0 y z (w.long ∙ sym h.long) (λ i l. at i (rw (w.long, w.valid.1.1.0.area_long) at l))
    where
      at : (i : ℕ) → i < c.lattice.n → get_or y i 0 ≡ get_or z i 0
      at i l = go (has_column c.form f.members i) refl
        where
          go : (t : Bool) → has_column c.form f.members i ≡ t → get_or y i 0 ≡ get_or z i 0
          go true e = w.chosen i l e ∙ sym (h.chosen i l e)
          go false e = w.left i l e ∙ sym (h.left i l e)

  pub task_choose_determined : (r r' : ℕ) → ChooseAnswers c p xs f area r y → ChooseAnswers c p xs f area r' z → SameChosen r y r' z
  task_choose_determined zero zero w h = record { answer = refl; area = area_same w h }
  task_choose_determined zero (suc s) w h = absurd (broken_not_kept (choose_rules c p xs f area) (suc s) h.why w.valid)
  task_choose_determined (suc r) zero w h = absurd (broken_not_kept (choose_rules c p xs f area) (suc r) w.why h.valid)
  task_choose_determined (suc r) (suc s) w h = record {
    answer = broken_unique (choose_rules c p xs f area) (suc r) (suc s) w.why h.why;
    area = w.kept ∙ sym h.kept;
  }

  pub task_choose_result_determined : (a a' : Result (Unit {0}) Refusal)
      → ChooseAnswers c p xs f area (verdict_of a) y → ChooseAnswers c p xs f area (verdict_of a') z → a ≡ a'
  task_choose_result_determined a a' w h = verdict_of_injective a a' (task_choose_determined (verdict_of a) (verdict_of a') w h).answer

-- ---- the third, on its own rows
pub record SameWritten (r : ℕ) (ys us : List ℤ) (r' : ℕ) (zs vs : List ℤ) : Type 0 where
  pub answer : r ≡ r'
  pub rows : ys ≡ zs
  pub totals : us ≡ vs

totals_same : (keeping : Bool) (g : Lattice) (xs ts ys us vs : List ℤ) → When keeping (TotalLengths g ts) → TotalsAfter keeping g xs ts ys us
    → TotalsAfter keeping g xs ts ys vs → us ≡ vs
totals_same true g xs ts ys us vs long w h = brought_determined g xs ts ys us vs (long refl).totals (w.brought refl) (h.brought refl)
totals_same false g xs ts ys us vs long w h = w.left refl ∙ sym (h.left refl)

module _
    (keeping : Bool) (h : Shape) (l : Writing) (own : h.lattice.s ≡ h.group.len) (group : h.group ≡ own_group h.group.len) (ys zs us vs : List ℤ)
  where
    abbrev n : ℕ
    n = h.lattice.n

    abbrev m : ℕ
    m = h.group.len

    rows_same : WriteAccepts keeping h l ys us → WriteAccepts keeping h l zs vs → ys ≡ zs
    rows_same w q = rows_ext m n ys zs (w.long ∙ full) (q.long ∙ full) at
      where
        full : length l.rows ≡ m * n
        full = rw own at w.valid.1.1.0.rows

        row : (xs : List ℤ) (k i : ℕ) → k < m → pattern_of n h.group xs i k ≡ spin n xs k i
        row xs k i hk =
            subst (λ (g : Group). pattern_of n g xs i k ≡ spin n xs k i) (sym group) (own_pattern m w.valid.0.size_high n xs i k hk)

        at : (k i : ℕ) → k < m → i < n → spin n ys k i ≡ spin n zs k i
        at k i hk hi = sym (row ys k i hk) ∙ (w.written i k hi hk ∙ (sym (q.written i k hi hk) ∙ row zs k i hk))

    written_same : WriteAccepts keeping h l ys us → WriteAccepts keeping h l zs vs → SameWritten 0 ys us 0 zs vs
    written_same w q =
        let e = rows_same w q in
        record {
          answer = refl;
          rows = e;
          totals = totals_same keeping h.lattice l.rows l.totals zs us vs w.valid.1.1.0.totals (rw e at w.totals) q.totals;
        }

    pub task_write_determined : (r r' : ℕ) → WriteAnswers keeping h l r ys us → WriteAnswers keeping h l r' zs vs → SameWritten r ys us r' zs vs
    task_write_determined zero zero w q = written_same w q
    task_write_determined zero (suc s) w q = absurd (broken_not_kept (write_rules keeping h l) (suc s) q.why w.valid)
    task_write_determined (suc r) zero w q = absurd (broken_not_kept (write_rules keeping h l) (suc r) w.why q.valid)
    task_write_determined (suc r) (suc s) w q = record {
      answer = broken_unique (write_rules keeping h l) (suc r) (suc s) w.why q.why;
      rows = w.kept ∙ sym q.kept;
      totals = w.totals_kept ∙ sym q.totals_kept;
    }

    pub task_write_result_determined : (a a' : Result (Unit {0}) Refusal)
        → WriteAnswers keeping h l (verdict_of a) ys us → WriteAnswers keeping h l (verdict_of a') zs vs → a ≡ a'
    task_write_result_determined a a' w q = verdict_of_injective a a' (task_write_determined (verdict_of a) (verdict_of a') w q).answer

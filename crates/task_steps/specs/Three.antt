-- The three steps one after another are the move: its answer, its outputs, its spins and its totals.
use Rattle.std.specs.Prelude.{ℕ, ◌+◌, ◌*◌, ◌≤◌, ◌<◌, ◌≡◌, refl, Bool, true, false, ◌&&◌, List, length, get_or, ℤ, pos, neg_ℤ}
use Rattle.std.proofs.Common.{sym, ◌∙◌, arith, mul-le-mul_right}
use Rattle.std.proofs.Math.Path.{ap}
use Rattle.std.proofs.Math.Bool.{cond}
use Rattle.std.proofs.Math.Decide.{dec_lt}
use Rattle.std.proofs.Math.ListN.{get_or-eq_default}
use Rattle.paper.specs.declared.Group.{Group}
use Rattle.paper.specs.declared.Mode.{Mode}
use Rattle.paper.specs.declared.Mode.TheVariants.{Houd, Pair, Perm, Gperm, Jorg, Cmr}
use Rattle.paper.specs.Answer.Cases.{Answer, Answer.Idle, Answer.Held, Answer.Moved, Answer.Refused}
use Rattle.paper.specs.Panel.Input.{Call, Choices, Buffers, Pattern, pattern, member, size}
use Rattle.paper.specs.Panel.Takes.{takes_greys}
use Rattle.paper.specs.Site.Acting.{acts}
use Rattle.paper.specs.Component.Sizes.{label_of}
use Rattle.paper.specs.Move.Moving.{act_by, grey_bit, grey_at, reached, after, final, Moves}
use Rattle.paper.specs.Refusal.Rule.{Kept}
use Rattle.paper.specs.Refusal.Kept.{valid_kept}
use Rattle.paper.specs.Answer.Move.{SeenAll, SeenOne, Seen, Goes, Answers, Accepted, Accepted.idle, Accepted.held, Accepted.moved}
use Rattle.paper.specs.Answer.Totals.{kept_rules, asked_kept, KeepAccepts, KeepAnswers}
use Rattle.laws.specs.AnswersLocal.{with_spins}
use Rattle.laws.specs.Unique.{OthersOf, spins_equal}
use Rattle.columns.specs.Column.{shown, column_of, shown_column, column_ext}
use Rattle.packing.specs.Bytes.{own_group}
use Rattle.packing.proofs.Laws.{own_at}
use Rattle.moves.specs.Tested.{ready}
use Rattle.moves.specs.Finish.{final_spin}
use Rattle.task_steps.specs.Label.{LabelAccepts, LabelAnswers}
use Rattle.task_steps.specs.Choose.{bare_call, Found, first_of, second_of, has_column, ChooseAccepts, ChooseAnswers}
use Rattle.task_steps.specs.Write.{shape_of, writing_of, WriteAccepts, WriteAnswers}
use Rattle.task_steps.specs.Found.{left_by, valid_by, first_labelled, second_grown, second_labelled, first_members, perms_by}
use Rattle.task_steps.specs.Still.{idle_kept, held_kept, out_kept}

-- ---- a call on its own rows: no row is another system's
pub others_none :
    (c : Call) (xs ys : List ℤ) → c.lattice.s ≡ size c → c.group ≡ own_group (size c) → size c ≤ 8 → length xs ≡ c.lattice.s * c.lattice.n
    → length ys ≡ length xs → OthersOf c xs ys
others_none c xs ys own group few sized long i t hi out =
    let far : length xs ≤ t * c.lattice.n + i = omega (arith, rw own at sized, mul-le-mul_right c.lattice.n past) in
    get_or-eq_default ys (pos 0) (omega arith) ∙ sym (get_or-eq_default xs (pos 0) far)
  where
    past : size c ≤ t
    past = go (dec_lt t (size c))
      where
        go : Dec (t < size c) → size c ≤ t
        go (yes l) = absurd (out t l (sym (ap (λ (g : Group). member g t) group ∙ own_at (size c) few t l)))
        go (no l) = omega arith

-- the columns of the second step are those of the call: tables, couplings and cuts do not tell what becomes of a pattern
bare_act : (m : Mode) (c : Call) (p : Choices) (P : Pattern) (r : ℕ) (f : Pattern) (k : ℕ) → act_by m (bare_call c) p P r f k ≡ act_by m c p P r f k
bare_act Houd c p P r f k = refl
bare_act Pair c p P r f k = refl
bare_act Perm c p P r f k = refl
bare_act Gperm c p P r f k = refl
bare_act Jorg c p P r f k = refl
bare_act Cmr c p P r f k = refl

module _ (c : Call) (p : Choices) (xs : List ℤ) (l g : List ℕ) (i : ℕ) where
  bare_after : (k : ℕ) → after (bare_call c) p xs l i k ≡ after c p xs l i k
  unfolding reached acts
  bare_after k =
      ap (λ (z : ℤ). cond (reached c xs l i) z (pattern c xs i k))
      (bare_act c.mode c p (pattern c xs c.reference) (label_of l i) (pattern c xs i) k)

  bare_final : (k : ℕ) → final (bare_call c) p xs l g i k ≡ final c p xs l g i k
  unfolding final reached acts
  bare_final k =
      let grey = grey_bit (grey_at c.form p.greys (label_of g i)) k in
      ap (λ (z : ℤ). cond (takes_greys c && reached c xs g i) (cond grey (neg_ℤ z) z) z) (bare_after k)

  bare_column : column_of (size c) (final (bare_call c) p xs l g i) ≡ column_of (size c) (final c p xs l g i)
  bare_column = column_ext (size c) (final (bare_call c) p xs l g i) (final c p xs l g i) (λ k _. bare_final k)

-- ---- what is written beside the spins
module _ {c : Call} {b b₁ : Buffers} (ys : List ℤ) where
  seen_all : SeenAll c b b₁ → SeenAll c b (with_spins b₁ ys)
  seen_all s = record {
    labels = s.labels;
    grey_labels = s.grey_labels;
    grey_kept = s.grey_kept;
    grey_found_kept = s.grey_found_kept;
    counts = s.counts;
    sizes = s.sizes;
    members_kept = s.members_kept;
  }

  seen_one : SeenOne c b b₁ → SeenOne c b (with_spins b₁ ys)
  seen_one s = record {
    members = s.members;
    none = s.none;
    labels_kept = s.labels_kept;
    grey_kept = s.grey_kept;
    counts_kept = s.counts_kept;
    sizes_kept = s.sizes_kept;
    found_kept = s.found_kept;
    grey_found_kept = s.grey_found_kept;
  }

  pub seen_with : Seen c b b₁ → Seen c b (with_spins b₁ ys)
  seen_with s = record { all = λ l. seen_all (s.all l); one = λ g. seen_one (s.one g) }

-- ---- moved by the two lists, the call has gone
pub goes_by :
    {c : Call} {p : Choices} {b b₁ : Buffers} {blue blue₁ : List ℕ} (w : LabelAccepts c p b blue Moved b₁ blue₁) (ys : List ℤ)
    → Moves c p b.spins (first_of c (left_by b₁ blue₁)) (second_of c (left_by b₁ blue₁)) ys
    → Goes c p b (with_spins b₁ ys)
goes_by {c} {p} {b} {b₁} {blue} {blue₁} w ys m = record {
  valid = valid_kept c p b (valid_by w);
  some = w.says.some;
  free = w.says.free;
  moved = λ l. rw (first_labelled c f l, second_labelled c f l) at m;
  turned = λ g. record { blue = first_of c f; joined = first_members w g w.says.some; moved = rw (second_grown c f g) at m };
  seen = seen_with ys w.seen;
}
  where
    f : Found
    f = left_by b₁ blue₁

-- ---- the rows that the third step writes
module _
    {c : Call} {p : Choices} {b b₁ : Buffers} {blue blue₁ area area₁ : List ℕ} {a : Answer} {keeping : Bool} {ts ys us : List ℤ}
    (own : c.lattice.s ≡ size c) (group : c.group ≡ own_group (size c)) (w : LabelAccepts c p b blue a b₁ blue₁)
    (q : ChooseAccepts (bare_call c) p b.spins (left_by b₁ blue₁) area area₁)
    (h : WriteAccepts keeping (shape_of c) (writing_of b.spins b₁.members area₁ ts) ys us)
  where
    abbrev f : Found
    f = left_by b₁ blue₁

    abbrev xs : List ℤ
    xs = b.spins

    abbrev new : ℕ → ℕ → ℤ
    new = final c p xs (first_of c f) (second_of c f)

    others : OthersOf c xs ys
    others = others_none c xs ys own group (valid_by w).sound.ranged.size_high (valid_by w).sound.exact.spins h.long

    -- where a site has a column
    shows : (i k : ℕ) → i < c.lattice.n → k < size c → has_column c.form b₁.members i ≡ true → shown (get_or area₁ i 0) k ≡ new i k
    shows i k hi hk e =
        ap (λ (x : ℕ). shown x k) (q.chosen i hi e ∙ bare_column c p xs (first_of c f) (second_of c f) i)
        ∙ shown_column (size c) (new i) k hk
        (final_spin c p xs (first_of c f) (second_of c f) (ready c p b (valid_by w).sound) (valid_by w).fit.chosen.reference (perms_by w) i k hi hk)

    -- and where it has none
    rows_by : ((i : ℕ) → i < c.lattice.n → has_column c.form b₁.members i ≡ false → (k : ℕ) → new i k ≡ pattern c xs i k)
        → Moves c p xs (first_of c f) (second_of c f) ys
    rows_by out = record {
      long = h.long;
      group = λ i k hi hk. h.written i k hi hk ∙ go i k hi hk (has_column c.form b₁.members i) refl;
      others = others;
    }
      where
        go : (i k : ℕ) → i < c.lattice.n → k < size c → (t : Bool) → has_column c.form b₁.members i ≡ t
            → cond t (shown (get_or area₁ i 0) k) (pattern c xs i k) ≡ new i k
        go i k hi hk true e = shows i k hi hk e
        go i k hi hk false e = sym (out i hi e k)

    still_by : ((i : ℕ) → i < c.lattice.n → (k : ℕ) → new i k ≡ pattern c xs i k) → ys ≡ xs
    still_by same =
        let m = rows_by (λ i hi _. same i hi) in
        spins_equal c ys xs (valid_by w).sound.ranged.lattice.n_low m.long (λ i k hi hk. m.group i k hi hk ∙ same i hi k) m.others

    kept_by : Kept (kept_rules keeping c p b ts)
    kept_by = asked_kept keeping c p b ts (valid_by w) (record {
      lengths = h.valid.1.1.0.totals;
      couplings = h.valid.1.1.1.1.1.1.0;
      small = h.valid.1.1.1.1.1.1.1.1.0;
    })

    keeps_by : Answers c p b a (with_spins b₁ ys) → KeepAccepts keeping c p b ts a (with_spins b₁ ys) us
    keeps_by r = record { valid = kept_by; answers = r; totals = h.totals }

pub three_steps :
    (keeping : Bool) (c : Call) (p : Choices) (b b₁ : Buffers) (blue blue₁ area area₁ : List ℕ) (ts us ys : List ℤ) (a : Answer)
    → c.lattice.s ≡ size c
    → c.group ≡ own_group (size c)
    → Accepted a
    → LabelAnswers c p b blue a b₁ blue₁
    → ChooseAnswers (bare_call c) p b.spins (left_by b₁ blue₁) area 0 area₁
    → WriteAnswers keeping (shape_of c) (writing_of b.spins b₁.members area₁ ts) 0 ys us
    → KeepAnswers keeping c p b ts a (with_spins b₁ ys) us
three_steps keeping c p b b₁ blue blue₁ area area₁ ts us ys Idle own group idle w q h = keeps_by own group w q h (record {
  valid = valid_kept c p b (valid_by w);
  none = w.says;
  still = still_by own group w q h (idle_kept w w.says);
  seen = seen_with ys w.seen;
})
three_steps keeping c p b b₁ blue blue₁ area area₁ ts us ys Held own group held w q h = keeps_by own group w q h (record {
  valid = valid_kept c p b (valid_by w);
  some = w.says.some;
  one = w.says.one;
  held = w.says.held;
  still = still_by own group w q h (λ i _. held_kept w w.says i);
  seen = seen_with ys w.seen;
})
three_steps keeping c p b b₁ blue blue₁ area area₁ ts us ys Moved own group moved w q h =
    keeps_by own group w q h (goes_by w ys (rows_by own group w q h (λ i hi e. out_kept w w.says.some i hi e)))
three_steps keeping c p b b₁ blue blue₁ area area₁ ts us ys (Refused _) own group x7 w q h = elim x7 [ ]

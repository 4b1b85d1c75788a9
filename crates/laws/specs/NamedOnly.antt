-- A call that names some systems only is answered by their rows and totals alone, and leaves the rows and totals of all others.
use Rattle.std.specs.Prelude.{ℕ, ◌≤◌, ◌<◌, ◌≡◌, refl, ◌⊎◌, ◌↔◌, Bool, true, false, List, [], length, ℤ, nat_abs}
use Rattle.std.proofs.Common.{sym, ◌∙◌, ap, subst, inl, inr, arith}
use Rattle.lemmas.specs.Bools.{never}
use Rattle.paper.specs.Answer.Cases.{Answer, Answer.Refused, Answer.Idle, Answer.Held, Answer.Moved}
use Rattle.paper.specs.Panel.Input.{Lattice, Call, Choices, Buffers, pattern, size, spin, system}
use Rattle.paper.specs.Site.Acting.{acts, SomeActs}
use Rattle.paper.specs.Refusal.Rule.{Kept, broken_unique, broken_not_kept}
use Rattle.paper.specs.Refusal.Rules.{When, Ranged, Exact, Spin, group_names, Named, Spins, Inverse, Grouped, Chosen, Seeded, rules}
use Rattle.paper.specs.Refusal.Kept.{named, Valid, valid_of}
use Rattle.paper.specs.Answer.Move.{Answers, Accepted, Accepted.idle, Accepted.held, Accepted.moved}
use Rattle.paper.specs.Answer.Totals.{TotalLengths, SmallTotals, total, kept_rules, kept_valid, kept_asked, TotalsAfter, KeepRefuses, KeepAccepts, KeepAnswers}
use Rattle.laws.specs.Unique.{Outside}
use Rattle.laws.specs.Determined.{Same, determined}
use Rattle.laws.specs.Sanity.{some_moves, others_kept}
use Rattle.laws.specs.Local.{Agree, acts_local}
use Rattle.laws.specs.AnswersLocal.{with_spins, Rows, local}
use Rattle.laws.specs.Matched.{SameVerdict, unchanged, reworded, behind, behind_if}
use Rattle.laws.specs.SameView.{SameRows, SameTotals, SameView, outputs_with, with_outputs, join_rows, join_length, join_mine, join_other}
use Rattle.laws.specs.SameView.{totals_alike, totals_stay, totals_length}

abbrev pub Passing : (ℕ → Bool) → ℕ → Type 0
Passing mine t = mine t ≡ true

-- the systems that the call names pass the test. Nothing is asked of a group of more than 8, which 1 refuses
abbrev pub NamesOnly : (ℕ → Bool) → Call → Type 0
NamesOnly mine c = size c ≤ 8 → (t : ℕ) → Named c.lattice.s (group_names c.group) t → mine t ≡ true

-- two panels that looked the same and still do, with the same answer
pub record SeenAlike {A : Type 0} (n : ℕ) (Which : ℕ → Type 0) (a : A) (y : Buffers) (ts : List ℤ) (a' : A) (z : Buffers) (us : List ℤ) : Type 0 where
  pub answer : a ≡ a'
  pub view : SameView n Which y ts z us

-- what does not pass keeps its row and total
pub record Leaves (n : ℕ) (mine : ℕ → Bool) (xs ts ys us : List ℤ) : Type 0 where
  pub rows : (t i : ℕ) → mine t ≡ false → i < n → spin n ys t i ≡ spin n xs t i
  pub totals : (t : ℕ) → mine t ≡ false → total us t ≡ total ts t

-- ---- test 10 looks at the group's rows
module _
    (c : Call) (p : Choices) (xs ys : List ℤ)
    (same : (i : ℕ) → i < c.lattice.n → Agree (size c) (pattern c ys i) (pattern c xs i))
    (ranged : Ranged c.lattice.n c.lattice.d c.lattice.s c.mode (size c))
    (inverse : Inverse c.lattice.n c.lattice.d c.lattice.fwd c.lattice.bwd)
    (chosen : Chosen c p)
  where
    acts_same : (i : ℕ) → i < c.lattice.n → acts c ys i ≡ acts c xs i
    acts_same = acts_local c ys xs (record {
      patterns = same;
      reference = chosen.reference;
      inside = λ i e hi he. (inverse.there i e hi he).inside;
      some = omega (arith, ranged.size_low);
      two = ranged.cmr_two;
    })

    some_there : SomeActs c xs → SomeActs c ys
    some_there q = record { site = q.site; below = q.below; does = acts_same q.site q.below ∙ q.does }

    some_back : SomeActs c ys → SomeActs c xs
    some_back q = record { site = q.site; below = q.below; does = sym (acts_same q.site q.below) ∙ q.does }

    pub seeded_same : Seeded c xs ↔ Seeded c ys
    seeded_same = (
      (λ h. record { below = h.below; acting = λ t q. acts_same c.seed (h.below t) ∙ h.acting t (some_back q) }),
      (λ h. record { below = h.below; acting = λ t q. sym (acts_same c.seed (h.below t)) ∙ h.acting t (some_there q) }),
    )

-- ---- tests 3 and 14 look at the systems that are named
pub spins_same :
    (n : ℕ) (Names Which : ℕ → Type 0) (xs ys : List ℤ)
    → ((t : ℕ) → Names t → Which t)
    → SameRows n Which xs ys
    → Spins n Names xs ↔ Spins n Names ys
spins_same n Names Which xs ys only same = (
  (λ h t i q hi. subst Spin (sym (same t i (only t q) hi)) (h t i q hi)),
  (λ h t i q hi. subst Spin (same t i (only t q) hi) (h t i q hi)),
)

pub small_same :
    (keeping : Bool) (Names Which : ℕ → Type 0) (ts us : List ℤ)
    → ((t : ℕ) → Names t → Which t)
    → SameTotals Which ts us
    → When keeping (SmallTotals Names ts) ↔ When keeping (SmallTotals Names us)
small_same keeping Names Which ts us only same = (
  (λ h e t q. subst (λ (x : ℤ). nat_abs x ≤ 16384000000) (sym (same t (only t q))) (h e t q)),
  (λ h e t q. subst (λ (x : ℤ). nat_abs x ≤ 16384000000) (same t (only t q)) (h e t q)),
)

pub lengths_same :
    (keeping : Bool) (g : Lattice) (ts us : List ℤ)
    → length us ≡ length ts
    → When keeping (TotalLengths g ts) ↔ When keeping (TotalLengths g us)
lengths_same keeping g ts us e = (
  (λ h q. record { couplings = (h q).couplings; totals = e ∙ (h q).totals }),
  (λ h q. record { couplings = (h q).couplings; totals = sym e ∙ (h q).totals }),
)

-- ---- an accepted answer
pub accepted_if : (c : Call) (p : Choices) (b : Buffers) (a : Answer) (y : Buffers) → Kept (rules c p b) → Answers c p b a y → Accepted a
accepted_if c p b (Refused r) y k w = absurd (broken_not_kept (rules c p b) r w.why k)
accepted_if c p b Idle y k w = idle
accepted_if c p b Held y k w = held
accepted_if c p b Moved y k w = moved

pub valid_by : (c : Call) (p : Choices) (b : Buffers) (a : Answer) (y : Buffers) → Accepted a → Answers c p b a y → Valid c p b
valid_by c p b Idle y idle w = valid_of c p b w.valid
valid_by c p b Held y held w = valid_of c p b w.valid
valid_by c p b Moved y moved w = valid_of c p b w.valid
valid_by c p b (Refused _) y x3 w = elim x3 [ ]

pub spins_length :
    (c : Call) (p : Choices) (b : Buffers) (a : Answer) (y : Buffers)
    → Accepted a
    → Answers c p b a y
    → length y.spins ≡ length b.spins
spins_length c p b Idle y idle w = ap length w.still
spins_length c p b Held y held w = ap length w.still
spins_length c p b Moved y moved w = (some_moves c p b y w).moved.long
spins_length c p b (Refused _) y x3 w = elim x3 [ ]

-- ---- a call and a test that all systems pass which it names, on two panels with the same rows of the systems that pass
module _
    (mine : ℕ → Bool) (c : Call) (only : NamesOnly mine c) (p : Choices) (b : Buffers) (xs : List ℤ) (long : length xs ≡ length b.spins)
    (rows : SameRows c.lattice.n (Passing mine) b.spins xs)
  where
    exact_same : Exact c p b ↔ Exact c p (with_spins b xs)
    exact_same = ((λ e. rw long e), (λ e. rw long at e))

    patterns_same :
        size c ≤ 8
        → Grouped c.lattice.s c.group
        → (i : ℕ)
        → i < c.lattice.n
        → Agree (size c) (pattern c xs i) (pattern c b.spins i)
    patterns_same few grouped i hi k hk = rows (system c k) i (only few (system c k) (named k hk grouped)) hi

    -- the two lists of rules have one verdict
    pub rules_isolated :
        (keeping : Bool) (ts us : List ℤ)
        → length us ≡ length ts
        → SameTotals (Passing mine) ts us
        → SameVerdict (kept_rules keeping c p b ts) (kept_rules keeping c p (with_spins b xs) us)
    rules_isolated keeping ts us many totals =
        behind_if _ _ _ (λ ranged.
        behind _ _ _
        (reworded 2 _ _ exact_same
        (reworded 2 _ _ (lengths_same keeping c.lattice ts us many)
        (reworded 3 _ _ (spins_same c.lattice.n _ (Passing mine) b.spins xs (only ranged.size_high) rows)
        (behind_if _ _ _ (λ inverse.
        behind _ _ _
        (behind_if _ _ _ (λ grouped.
        behind _ _ _
        (behind _ _ _
        (behind _ _ _
        (behind _ _ _
        (behind_if _ _ _ (λ chosen.
        reworded 10 _ _ (seeded_same c p b.spins xs (patterns_same ranged.size_high grouped) ranged inverse chosen)
        (reworded 14 _ _ (small_same keeping _ (Passing mine) ts us (only ranged.size_high) totals) (unchanged [])))))))))))))))

    -- an accepted call: what it leaves on the one panel tells what it leaves on the other
    module _ (a : Answer) (y : Buffers) (accepted : Accepted a) (w : Answers c p b a y) where
      valid : Valid c p b
      valid = valid_by c p b a y accepted w

      abbrev after : List ℤ
      after = join_rows c.lattice.n mine xs y.spins

      passing : (k : ℕ) → k < size c → mine (system c k) ≡ true
      passing k hk = only valid.sound.ranged.size_high (system c k) (named k hk valid.sound.grouped)

      as_long : length y.spins ≡ length xs
      as_long = spins_length c p b a y accepted w ∙ sym long

      after_mine : (t i : ℕ) → mine t ≡ true → i < c.lattice.n → spin c.lattice.n after t i ≡ spin c.lattice.n y.spins t i
      after_mine = join_mine c.lattice.n mine xs y.spins as_long

      join_rows_lem : Rows c xs y.spins after
      join_rows_lem = record {
        long = join_length c.lattice.n mine xs y.spins;
        group = λ i hi k hk. after_mine (system c k) i (passing k hk) hi;
        others = λ i t hi out. other i t hi out (mine t) refl;
      }
        where
          other : (i t : ℕ) → i < c.lattice.n → Outside c t → (q : Bool) → mine t ≡ q → spin c.lattice.n after t i ≡ spin c.lattice.n xs t i
          other i t hi out true e = after_mine t i e hi ∙ (others_kept c p b y a w i t hi out ∙ sym (rows t i e hi))
          other i t hi out false e = join_other c.lattice.n mine xs y.spins as_long t i e hi

      pub moved_there : Answers c p (with_spins b xs) a (with_spins y after)
      moved_there = local c p b y xs long (patterns_same valid.sound.ranged.size_high valid.sound.grouped) a accepted w after join_rows_lem

      module _ (a' : Answer) (z : Buffers) (v : Answers c p (with_spins b xs) a' z) where
        there : Same a (with_spins y after) a' z
        there = determined c p (with_spins b xs) (with_spins y after) z a a' moved_there v

        rows_after : SameRows c.lattice.n (Passing mine) y.spins z.spins
        rows_after t i e hi = ap (λ (q : Buffers). spin c.lattice.n q.spins t i) (sym there.buffers) ∙ after_mine t i e hi

        pub accepted_alike :
            (keeping : Bool) (ts us ts' us' : List ℤ)
            → ((t : ℕ) → mine t ≡ true → t < c.lattice.s)
            → length us ≡ length ts
            → SameTotals (Passing mine) ts us
            → TotalsAfter keeping c.lattice b.spins ts y.spins ts'
            → TotalsAfter keeping c.lattice xs us z.spins us'
            → SeenAlike c.lattice.n (Passing mine) a y ts' a' z us'
        accepted_alike keeping ts us ts' us' below many totals f g = record {
          answer = there.answer;
          view = record {
            outputs = with_outputs (sym there.buffers);
            long =
                ap (λ (q : Buffers). length q.spins) (sym there.buffers)
                ∙ (join_length c.lattice.n mine xs y.spins ∙ sym as_long);
            rows = rows_after;
            totals_long =
                totals_length keeping c.lattice xs us z.spins us' g
                ∙ (many ∙ sym (totals_length keeping c.lattice b.spins ts y.spins ts' f));
            totals = λ t e.
                totals_alike keeping c.lattice b.spins ts y.spins ts' xs us z.spins us' t
                (λ i e hi he. (valid.sound.inverse.there i e hi he).inside) (below t e) (λ i hi. rows t i e hi) (λ i hi. rows_after t i e hi)
                (totals t e) f g;
          };
        }

-- ---- a call is refused or accepted
abbrev pub Outcome : Bool → Call → Choices → Buffers → List ℤ → Answer → Buffers → List ℤ → Type 0
Outcome keeping c p b ts a y us =
    ((r : ℕ) × (a ≡ Refused r) × KeepRefuses keeping c p b ts r y us) ⊎ (Accepted a × KeepAccepts keeping c p b ts a y us)

pub outcome :
    (keeping : Bool) (c : Call) (p : Choices) (b : Buffers) (ts : List ℤ) (a : Answer) (y : Buffers) (us : List ℤ)
    → KeepAnswers keeping c p b ts a y us
    → Outcome keeping c p b ts a y us
outcome keeping c p b ts (Refused r) y us f = inl (r, refl, f)
outcome keeping c p b ts Idle y us f = inr (idle, f)
outcome keeping c p b ts Held y us f = inr (held, f)
outcome keeping c p b ts Moved y us f = inr (moved, f)

module _ (mine : ℕ → Bool) (c : Call) (only : NamesOnly mine c) (below : (t : ℕ) → mine t ≡ true → t < c.lattice.s) (keeping : Bool) (p : Choices) where
  -- one call on two panels that look the same to those systems
  pub call_isolated :
      (b d : Buffers) (ts us : List ℤ) (a a' : Answer) (y z : Buffers) (ts' us' : List ℤ)
      → SameView c.lattice.n (Passing mine) b ts d us
      → KeepAnswers keeping c p b ts a y ts'
      → KeepAnswers keeping c p d us a' z us'
      → SeenAlike c.lattice.n (Passing mine) a y ts' a' z us'
  call_isolated b d ts us a a' y z ts' us' view f g =
      go (outcome keeping c p b ts a y ts' f) (outcome keeping c p d us a' z us' g)
    where
      verdicts : SameVerdict (kept_rules keeping c p b ts) (kept_rules keeping c p d us)
      verdicts =
          subst (λ (q : Buffers). SameVerdict (kept_rules keeping c p b ts) (kept_rules keeping c p q us)) (sym (outputs_with view.outputs))
          (rules_isolated mine c only p b d.spins view.long view.rows keeping ts us view.totals_long view.totals)

      go : Outcome keeping c p b ts a y ts' → Outcome keeping c p d us a' z us' → SeenAlike c.lattice.n (Passing mine) a y ts' a' z us'
      go (inl (r, e, v)) (inl (s, q, w)) = record {
        answer = e ∙ (ap Refused (broken_unique (kept_rules keeping c p d us) r s ((verdicts.broken r).0 v.why) w.why) ∙ sym q);
        view = rw (v.kept, v.totals_kept, w.kept, w.totals_kept) view;
      }
      go (inl (r, e, v)) (inr (q, w)) = absurd (broken_not_kept (kept_rules keeping c p d us) r ((verdicts.broken r).0 v.why) w.valid)
      go (inr (e, v)) (inl (s, q, w)) = absurd (broken_not_kept (kept_rules keeping c p d us) s w.why (verdicts.kept.0 v.valid))
      go (inr (e, v)) (inr (q, w)) =
          accepted_alike mine c only p b d.spins view.long view.rows a y e v.answers a' z
          (subst (λ (q : Buffers). Answers c p q a' z) (outputs_with view.outputs) w.answers) keeping ts us ts' us' below view.totals_long
          view.totals v.totals w.totals

  -- ---- the systems that do not pass keep their rows and totals, refused or not
  pub call_leaves :
      (b : Buffers) (ts : List ℤ) (a : Answer) (y : Buffers) (ts' : List ℤ)
      → KeepAnswers keeping c p b ts a y ts'
      → Leaves c.lattice.n mine b.spins ts y.spins ts'
  call_leaves b ts a y ts' f = go (outcome keeping c p b ts a y ts' f)
    where
      go : Outcome keeping c p b ts a y ts' → Leaves c.lattice.n mine b.spins ts y.spins ts'
      go (inl (r, e, v)) = record {
        rows = λ t i q hi. ap (λ (u : Buffers). spin c.lattice.n u.spins t i) v.kept;
        totals = λ t q. ap (λ (u : List ℤ). total u t) v.totals_kept;
      }
      go (inr (e, v)) = record { rows = still; totals = stay }
        where
          w : Valid c p b
          w = kept_valid keeping c p b ts v.valid

          outside : (t : ℕ) → mine t ≡ false → Outside c t
          outside t q k hk same =
              never (sym q ∙ rw same (only w.sound.ranged.size_high (system c k) (named k hk w.sound.grouped)))

          still : (t i : ℕ) → mine t ≡ false → i < c.lattice.n → spin c.lattice.n y.spins t i ≡ spin c.lattice.n b.spins t i
          still t i q hi = others_kept c p b y a v.answers i t hi (outside t q)

          stay : (t : ℕ) → mine t ≡ false → total ts' t ≡ total ts t
          stay t q =
              totals_stay keeping c.lattice b.spins ts y.spins ts' t (λ i e hi he. (w.sound.inverse.there i e hi he).inside)
              (λ k. ((kept_asked keeping c p b ts v.valid).lengths k).totals) (λ i hi. still t i q hi) v.totals

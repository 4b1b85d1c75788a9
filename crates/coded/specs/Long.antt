-- More numbers than any call takes: rule 2 refuses their rows, as it refuses one byte. So no room is needed for them.
use Rattle.std.specs.Prelude.{ℕ, ◌*◌, ◌/◌, ◌≤◌, ◌<◌, ◌≡◌, ◌⊎◌, Bool, true, cond, List, length, ℤ}
use Rattle.std.proofs.Common.{sym, ◌∙◌, ap, inl, inr, arith, mul_assoc, mul-le-mul, mul-le-mul_left, div-mul-le_self}
use Rattle.lemmas.specs.Bools.{and_right, or_right}
use Rattle.paper.specs.declared.Mode.{Mode}
use Rattle.paper.specs.declared.Form.{Form}
use Rattle.paper.specs.declared.Form.TheVariants.{Sw, Wolff, Observe, Grow}
use Rattle.paper.specs.Answer.Cases.{Answer, Answer.Refused, Answer.Idle, Answer.Held, Answer.Moved}
use Rattle.paper.specs.Answer.Cases.{SweepAnswer, SweepAnswer.Fault, SweepAnswer.Swept}
use Rattle.paper.specs.Panel.Input.{Call, Choices, Buffers, size}
use Rattle.paper.specs.Panel.Takes.{is_perm, moves, flips_by, perms_by, choices_by, takes_perms, entries, choice_bytes}
use Rattle.paper.specs.Panel.Made.{choices_of}
use Rattle.paper.specs.Refusal.Rules.{Ranged, Exact}
use Rattle.paper.specs.Answer.Task.{Sweep, tasks}
use Rattle.paper.specs.Answer.Sweep.{SweepRanged, SweepExact}
use Rattle.paper.specs.Answer.Totals.{KeepAnswers, SweepKeepAnswers}
use Rattle.spelling.specs.Rows.{rows_of, length_rows}
use Rattle.coded.specs.Sweep.{with_choices}

-- ---- rows of five

pub perm_choices : (mode : Mode) (form : Form) → perms_by mode form ≡ true → choices_by mode form ≡ true
perm_choices mode form e = or_right (flips_by mode form) (perms_by mode form) e

pub perm_bytes : (mode : Mode) (form : Form) (n m : ℕ) → perms_by mode form ≡ true → choice_bytes mode form n m ≡ entries form n * m
perm_bytes mode form n m e = ap (λ (b : Bool). entries form n * cond b m 1) (and_right (moves form) (is_perm mode) e)

pub entries_few : (form : Form) (n : ℕ) → 1 ≤ n → entries form n ≤ n
entries_few Sw n h = omega arith
entries_few Wolff n h = h
entries_few Observe n h = omega arith
entries_few Grow n h = h

-- the first two rules are kept or broken by both, and the third is kept by neither: what follows is not asked
pub second : {R S H P Q A B : Type 0} {r : ℕ} → (R → S) → (S → R) → (R → P → ⊥) → (S → Q → ⊥)
    → ((R → ⊥) × (1 ≡ r)) ⊎ (R × (((H → ⊥) × (15 ≡ r)) ⊎ (H × (((P → ⊥) × (2 ≡ r)) ⊎ (P × A)))))
    → ((S → ⊥) × (1 ≡ r)) ⊎ (S × (((H → ⊥) × (15 ≡ r)) ⊎ (H × (((Q → ⊥) × (2 ≡ r)) ⊎ (Q × B)))))
second to back np nq (inl w) = inl ((λ s. w.0 (back s)), w.1)
second to back np nq (inr (k, inl w)) = inr (to k, inl w)
second to back np nq (inr (k, inr (h, inl w))) = inr (to k, inr (h, inl (nq (to k), w.1)))
second to back np nq (inr (k, inr (h, inr w))) = absurd (np k w.0)

-- ---- a move

module _ (keeping : Bool) (c : Call) (p q : Choices) (b : Buffers) (ts : List ℤ) where
  abbrev Unfit : Choices → Type 0
  Unfit x = Ranged c.lattice.n c.lattice.d c.lattice.s c.mode (size c) → Exact c x b → ⊥

  refused_alike : Unfit p → Unfit q → (a : Answer) (b' : Buffers) (ts' : List ℤ)
      → KeepAnswers keeping c p b ts a b' ts' → KeepAnswers keeping c q b ts a b' ts'
  refused_alike up uq (Refused r) b' ts' k = record {
    why = second (λ k. k) (λ k. k) up uq k.why;
    kept = k.kept;
    totals_kept = k.totals_kept;
  }
  refused_alike up uq Idle b' ts' k = absurd (up k.valid.0 k.valid.1.1.0)
  refused_alike up uq Held b' ts' k = absurd (up k.valid.0 k.valid.1.1.0)
  refused_alike up uq Moved b' ts' k = absurd (up k.valid.0 k.valid.1.1.0)

module _ (keeping : Bool) (c : Call) (vs xs greys : List ℕ) (b : Buffers) (ts : List ℤ) (perms : takes_perms c ≡ true) (five : size c ≡ 5) where
  rows : (x : List ℕ) → Exact c (choices_of x greys) b → length x ≡ entries c.form c.lattice.n * 5
  rows x e =
      e.choices (perm_choices c.mode c.form perms)
      ∙ (perm_bytes c.mode c.form c.lattice.n (size c) perms ∙ ap (λ (m : ℕ). entries c.form c.lattice.n * m) five)

  -- so many numbers are refused as the byte is
  pub too_many : 20480 < length vs * 5 → length xs ≡ 1 → (a : Answer) (b' : Buffers) (ts' : List ℤ)
      → KeepAnswers keeping c (choices_of xs greys) b ts a b' ts' → KeepAnswers keeping c (choices_of (rows_of vs) greys) b ts a b' ts'
  too_many much one =
      refused_alike keeping c (choices_of xs greys) (choices_of (rows_of vs) greys) b ts
      (λ r e. one_byte _ (rows xs e))
      (λ r e. omega (arith, much, length_rows vs, rows (rows_of vs) e, entries_few c.form c.lattice.n r.lattice.n_low, r.lattice.n_high))
    where
      one_byte : (m : ℕ) → length xs ≡ m * 5 → ⊥
      one_byte m e = omega (arith, one)

-- ---- a sweep

-- groups of five: at most twelve tasks
few_tasks : (t r s m : ℕ) → m ≡ 5 → t * r ≡ s → s ≤ 64 → t * (r / m) ≤ 12
few_tasks t r s m five e h =
    rw five (omega (arith, e, h, mul-le-mul_left t (div-mul-le_self r 5), mul_assoc t (r / 5) 5))

-- rule 1 does not look at choices
ranged_with : (w : Sweep) (xs ys : List ℕ) → SweepRanged (with_choices xs w) → SweepRanged (with_choices ys w)
ranged_with w xs ys k = record { ranged = k.ranged; few = k.few; some = k.some; all = k.all; enough = k.enough }

module _ (keeping : Bool) (w : Sweep) (xs ys : List ℕ) (b : Buffers) (ts : List ℤ) where
  abbrev SweepUnfit : List ℕ → Type 0
  SweepUnfit zs = SweepRanged (with_choices zs w) → SweepExact (with_choices zs w) b → ⊥

  swept_alike : SweepUnfit xs → SweepUnfit ys → (a : SweepAnswer) (b' : Buffers) (ts' : List ℤ)
      → SweepKeepAnswers keeping (with_choices xs w) b ts a b' ts' → SweepKeepAnswers keeping (with_choices ys w) b ts a b' ts'
  swept_alike ux uy (Fault r) b' ts' k = record {
    why = second (ranged_with w xs ys) (ranged_with w ys xs) ux uy k.why;
    kept = k.kept;
    totals_kept = k.totals_kept;
  }
  swept_alike ux uy (Swept idle moved held) b' ts' k = absurd (ux k.valid.0 k.valid.1.1.0)

module _ (keeping : Bool) (w : Sweep) (vs xs : List ℕ) (b : Buffers) (ts : List ℤ)
    (perms : perms_by w.mode w.form ≡ true) (five : w.members ≡ 5)
  where
    abbrev each : ℕ
    each = entries w.form w.lattice.n

    sweep_rows : (zs : List ℕ) → SweepExact (with_choices zs w) b → length zs ≡ tasks w * each * 5
    sweep_rows zs e =
        e.choices (perm_choices w.mode w.form perms)
        ∙ (ap (λ (m : ℕ). tasks w * m)
        (perm_bytes w.mode w.form w.lattice.n w.members perms ∙ ap (λ (m : ℕ). each * m) five)
        ∙ sym (mul_assoc (tasks w) each 5))

    few_entries : SweepRanged w → tasks w * each ≤ 12 * 4096
    few_entries r =
        let l = r.ranged.lattice in
        let e : each ≤ 4096 = omega (arith, entries_few w.form w.lattice.n l.n_low, l.n_high) in
        mul-le-mul (few_tasks w.t w.r w.systems w.members five r.all (omega (arith, r.few, l.s_high))) e

    pub sweep_too_many : 245760 < length vs * 5 → length xs ≡ 1 → (a : SweepAnswer) (b' : Buffers) (ts' : List ℤ)
        → SweepKeepAnswers keeping (with_choices xs w) b ts a b' ts' → SweepKeepAnswers keeping (with_choices (rows_of vs) w) b ts a b' ts'
    sweep_too_many much one =
        swept_alike keeping w xs (rows_of vs) b ts
        (λ r e. one_byte (tasks w * each) (sweep_rows xs e))
        (λ r e. omega (arith, much, length_rows vs, sweep_rows (rows_of vs) e, few_entries (ranged_with w (rows_of vs) w.choices r)))
      where
        one_byte : (m : ℕ) → length xs ≡ m * 5 → ⊥
        one_byte m e = omega (arith, one)

-- What the rules say of numbers, in a group of five: one number for each entry, none above 119, and in Wolff and grow not 0.
use Rattle.std.specs.Prelude.{ℕ, ◌*◌, ◌≤◌, ◌<◌, ◌≡◌, refl, ◌↔◌, ◌≢◌, Bool, true, not, ◌&&◌, List, length, get_or}
use Rattle.std.proofs.Common.{sym, ◌∙◌, ap, subst, arith}
use Rattle.lemmas.specs.Bools.{never, and_left, and_right}
use Rattle.paper.specs.declared.Mode.{Mode}
use Rattle.paper.specs.declared.Mode.TheVariants.{Houd, Pair, Perm, Gperm, Jorg, Cmr}
use Rattle.paper.specs.declared.Form.{Form}
use Rattle.paper.specs.declared.Form.TheVariants.{Sw, Wolff, Observe, Grow}
use Rattle.paper.specs.Panel.Input.{Call, Choices, Buffers, size}
use Rattle.paper.specs.Panel.Made.{choices_of}
use Rattle.paper.specs.Panel.Takes.{is_perm, is_cmr, is_sw, moves, one_cluster, perms_by, takes_perms, takes_greys, takes_reference, entries, choice_bytes}
use Rattle.paper.specs.Refusal.Rules.{When, Exact, Permutes, NotIdentity, Chosen}
use Rattle.paper.specs.Answer.Task.{Sweep, part, task_choices}
use Rattle.spelling.specs.Rows.{rows_of, length_rows}
use Rattle.spelling.specs.Laws.{row_at, permutes_small, moves_some, rows_part}
use Rattle.coded.specs.Takes.{spelled_choices}
use Rattle.coded.specs.Sweep.{spelled_sweep}
use Rattle.coded.specs.Long.{perm_choices, perm_bytes}

-- ---- a call

-- rule 9 of numbers
pub record ChosenNumbers (c : Call) (p : Choices) : Type 0 where
  pub small : (r : ℕ) → r < entries c.form c.lattice.n → get_or p.choices r 0 ≤ 119
  pub not_identity_lem : When (one_cluster c.form) (get_or p.choices 0 0 ≢ 0)
  pub reference : When (takes_reference c) (c.reference < c.lattice.n)

perm_not_cmr : {P : Type 0} (mode : Mode) → is_perm mode ≡ true → is_cmr mode ≡ true → P
perm_not_cmr Houd e f = never e
perm_not_cmr Pair e f = never e
perm_not_cmr Perm e f = never f
perm_not_cmr Gperm e f = never f
perm_not_cmr Jorg e f = never e
perm_not_cmr Cmr e f = never e

-- the one-cluster forms have an entry
one_entry : (form : Form) (n : ℕ) → one_cluster form ≡ true → 0 < entries form n
one_entry Sw n e = never e
one_entry Wolff n e = omega arith
one_entry Observe n e = never e
one_entry Grow n e = omega arith

and_both : {a b : Bool} → a ≡ true → b ≡ true → (a && b) ≡ true
and_both e f = rw (e, f) refl

module _ (c : Call) (p : Choices) (b : Buffers) (perms : takes_perms c ≡ true) (five : size c ≡ 5) where
  abbrev many : ℕ
  many = entries c.form c.lattice.n

  bytes : choice_bytes c.mode c.form c.lattice.n (size c) ≡ many * 5
  bytes = perm_bytes c.mode c.form c.lattice.n (size c) perms ∙ ap (λ (m : ℕ). many * m) five

  -- rule 2 asks for one number for each entry
  pub exact_numbers : Exact c (spelled_choices true p) b → length p.choices ≡ many
  exact_numbers e =
      omega (arith, length_rows p.choices, e.choices (perm_choices c.mode c.form perms) ∙ bytes)

  -- and so many do wherever rows would
  pub numbers_exact : (xs : List ℕ) → Exact c (choices_of xs p.greys) b → length p.choices ≡ many → Exact c (spelled_choices true p) b
  numbers_exact xs e long = record {
    spins = e.spins;
    fwd = e.fwd;
    bwd = e.bwd;
    pins = e.pins;
    couplings = e.couplings;
    cuts = e.cuts;
    choices = λ _. length_rows p.choices ∙ (ap (λ (m : ℕ). m * 5) long ∙ sym bytes);
    greys = e.greys;
    labels = e.labels;
    grey_labels = e.grey_labels;
    counts = e.counts;
    sizes = e.sizes;
    members = e.members;
    found = e.found;
    grey_found = e.grey_found;
  }

  permuting : is_perm c.mode ≡ true
  permuting = and_right (moves c.form) (is_perm c.mode) perms

  no_flips : {P : Type 0} → (is_sw c.form && not (is_perm c.mode)) ≡ true → P
  no_flips e = never (subst (λ (q : Bool). not q ≡ true) permuting (and_right (is_sw c.form) (not (is_perm c.mode)) e))

  no_greys : {P : Type 0} → (moves c.form && is_cmr c.mode) ≡ true → P
  no_greys e = perm_not_cmr c.mode permuting (and_right (moves c.form) (is_cmr c.mode) e)

  -- rule 9, which is asked of exact lengths only
  module _ (long : length p.choices ≡ many) where
    in_five : (P : ℕ → (ℕ → ℕ) → Type 0) (r : ℕ) → P 5 (row_at (rows_of p.choices) 5 r) → P (size c) (row_at (rows_of p.choices) (size c) r)
    in_five P r = subst (λ (m : ℕ). P m (row_at (rows_of p.choices) m r)) (sym five)

    of_five : (P : ℕ → (ℕ → ℕ) → Type 0) (r : ℕ) → P (size c) (row_at (rows_of p.choices) (size c) r) → P 5 (row_at (rows_of p.choices) 5 r)
    of_five P r = subst (λ (m : ℕ). P m (row_at (rows_of p.choices) m r)) five

    low : Chosen c (spelled_choices true p) → (r : ℕ) → r < many → get_or p.choices r 0 < 120
    low k r l = (permutes_small p.choices r (omega (arith, long))).0 (of_five Permutes r (k.perms perms r l))

    some : one_cluster c.form ≡ true → 0 < many
    some = one_entry c.form c.lattice.n

    pub chosen_numbers : Chosen c (spelled_choices true p) ↔ ChosenNumbers c p
    chosen_numbers = (
      λ k. record {
        small = λ r l. omega (arith, low k r l);
        not_identity_lem = λ o.
            (moves_some p.choices 0 (omega (arith, long, some o)) (low k 0 (some o))).0
            (of_five NotIdentity 0 (k.not_identity_lem (and_both perms o)));
        reference = k.reference;
      },
      λ k. record {
        perms = λ _ r l. in_five Permutes r ((permutes_small p.choices r (omega (arith, long))).1 (omega (arith, k.small r l)));
        not_identity_lem = λ e.
            let o = and_right (takes_perms c) (one_cluster c.form) e in
            in_five NotIdentity 0
            ((moves_some p.choices 0 (omega (arith, long, some o)) (omega (arith, k.small 0 (some o)))).1 (k.not_identity_lem o));
        flips = no_flips;
        greys = no_greys;
        grey_some = λ e. no_greys (and_left (takes_greys c) (one_cluster c.form) e);
        reference = k.reference;
      },
    )

-- ---- a sweep

-- the numbers of the task k: its own area, an entry a byte
abbrev pub task_numbers : Sweep → ℕ → Choices
task_numbers w k = choices_of (part k (entries w.form w.lattice.n) w.choices) (part k (entries w.form w.lattice.n) w.greys)

-- so a task of a sweep by numbers is the move by its own, and the rules above are its rules
pub task_by_numbers : (w : Sweep) (k : ℕ) → perms_by w.mode w.form ≡ true → w.members ≡ 5
    → task_choices (spelled_sweep true w) k ≡ spelled_choices true (task_numbers w k)
task_by_numbers w k perms five =
    ap (λ (m : ℕ). choices_of (part k m (rows_of w.choices)) (task_numbers w k).greys)
    (perm_bytes w.mode w.form w.lattice.n w.members perms ∙ ap (λ (m : ℕ). entries w.form w.lattice.n * m) five)
    ∙ ap (λ (xs : List ℕ). choices_of xs (task_numbers w k).greys) (rows_part w.choices k (entries w.form w.lattice.n))

-- Composite, inverse and identical choices pass test 9 wherever the choices that they are made of do.
use Rattle.std.specs.Prelude.{ℕ, ◌+◌, ◌*◌, ◌%◌, ◌<◌, ◌≤◌, ◌≡◌, refl, Bool, true, false, not, cond, ◌&&◌, ◌||◌, List, length, get_or}
use Rattle.std.proofs.Common.{sym, ◌∙◌, arith, mod-lt, le_of_suc-le-suc}
use Rattle.lemmas.specs.Bools.{never, and_left, and_right, and_no}
use Rattle.lemmas.specs.Cells.{table_at, length_table}
use Rattle.paper.specs.declared.Form.{Form}
use Rattle.paper.specs.declared.Form.TheVariants.{Sw, Wolff, Observe, Grow}
use Rattle.paper.specs.Panel.Input.{Call, Choices, size}
use Rattle.paper.specs.Panel.Takes.{is_perm, is_sw, one_cluster, moves, takes_flips, takes_perms, takes_choices, takes_greys, entries, choice_bytes}
use Rattle.paper.specs.Move.Moving.{chosen}
use Rattle.paper.specs.Refusal.Rules.{When, NotIdentity, perm_row, Chosen}
use Rattle.laws.specs.Choices.{flips_taken, flips_bytes}
use Rattle.demand3.specs.Statement.{Reversible, composite, inverse, identity, place_of}
use Rattle.demand3.specs.Reversible.{not_cmr}
use Rattle.demand3.specs.ChoicesAdd.{ComposedAll, CancelsAll, flip_is, add_composes, same_cancels}
use Rattle.demand3.specs.ChoiceRows.{rows_long, perm_composes, perm_cancels, perm_stays, composite_row, composite_moves, inverse_row, inverse_moves}
use Rattle.demand3.specs.ChoiceRows.{identity_row}

small : (x : ℕ) → x % 2 ≤ 1
small x = le_of_suc-le-suc (mod-lt x (omega arith))

one_entry : (f : Form) (n : ℕ) → one_cluster f ≡ true → 0 < entries f n
one_entry Sw n e = never e
one_entry Wolff n e = omega arith
one_entry Observe n e = never e
one_entry Grow n e = omega arith

wolff_no : (f : Form) → f ≡ Sw → (b : Bool) → (b && one_cluster f) ≡ false
wolff_no f e true = rw e refl
wolff_no f e false = refl

-- which kind it is
permuting : (c : Call) → takes_perms c ≡ true → is_perm c.mode ≡ true
permuting c t = and_right (moves c.form) (is_perm c.mode) t

flipping : (c : Call) → takes_flips c ≡ true → is_perm c.mode ≡ false
flipping c t = go (is_perm c.mode) (and_right (is_sw c.form) _ t)
  where
    go : (p : Bool) → not p ≡ true → p ≡ false
    go true e = never e
    go false e = refl

module _ (c : Call) (v : Reversible c.mode (size c)) where
  pub no_greys : takes_greys c ≡ false
  no_greys = rw (not_cmr c.mode (size c) v) (and_no (moves c.form))

  no_greys_wolff : (takes_greys c && one_cluster c.form) ≡ true → takes_greys c ≡ true
  no_greys_wolff t = and_left (takes_greys c) _ t

  module _ {p q : Choices} (hp : Chosen c p) (hq : Chosen c q) where
    pub composite_chosen :
        When (takes_perms c && one_cluster c.form) (NotIdentity (size c) (λ k. perm_row c p 0 (perm_row c q 0 k)))
        → Chosen c (composite c p q)
    composite_chosen w = record {
      perms = λ t r hr. composite_row c (permuting c t) r hr p q (hp.perms t r hr) (hq.perms t r hr);
      not_identity_lem = λ t.
          composite_moves c (permuting c (and_left (takes_perms c) _ t)) 0 (one_entry c.form c.lattice.n (and_right (takes_perms c) _ t)) p q (w t);
      flips = λ t r l. rw (flipping c t, table_at c.lattice.n (λ l. (get_or p.choices l 0 + get_or q.choices l 0) % 2) r l) (small _);
      greys = λ t. never (sym no_greys ∙ t);
      grey_some = λ t. never (sym no_greys ∙ no_greys_wolff t);
      reference = hp.reference;
    }

    pub composite_is : moves c.form ≡ true → (is_perm c.mode ≡ false → c.form ≡ Sw) → ComposedAll c p q (composite c p q)
    composite_is f sw = go (is_perm c.mode) refl
      where
        taken : is_perm c.mode ≡ false → takes_flips c ≡ true
        taken e = rw (sw e, e) refl

        go : (t : Bool) → is_perm c.mode ≡ t → ComposedAll c p q (composite c p q)
        go true e = perm_composes c e f p q
        go false e = add_composes c v e p q (composite c p q) (sw e) (hp.flips (taken e)) (hq.flips (taken e))
            (λ l hl. rw e (table_at c.lattice.n (λ l. (get_or p.choices l 0 + get_or q.choices l 0) % 2) l hl))

  module _ {p : Choices} (hp : Chosen c p) where
    pub inverse_chosen : Chosen c (inverse c p)
    inverse_chosen = record {
      perms = λ t r hr. inverse_row c (permuting c t) r hr p (hp.perms t r hr);
      not_identity_lem = λ t.
          let hr = one_entry c.form c.lattice.n (and_right (takes_perms c) _ t) in
          let taken = and_left (takes_perms c) _ t in
          inverse_moves c (permuting c taken) 0 hr p (hp.perms taken 0 hr) (hp.not_identity_lem t);
      flips = λ t. rw (flipping c t) (hp.flips t);
      greys = λ t. never (sym no_greys ∙ t);
      grey_some = λ t. never (sym no_greys ∙ no_greys_wolff t);
      reference = hp.reference;
    }

    pub inverse_cancels : moves c.form ≡ true → CancelsAll c p (inverse c p)
    inverse_cancels f = go (is_perm c.mode) refl
      where
        go : (t : Bool) → is_perm c.mode ≡ t → CancelsAll c p (inverse c p)
        go true e = perm_cancels c e f p (hp.perms (rw (f, e)))
        go false e = same_cancels c v e p (inverse c p) (λ l. rw e refl)

    pub identity_chosen : c.form ≡ Sw → Chosen c (identity c)
    identity_chosen sw = record {
      perms = λ t r hr. identity_row c (permuting c t) r hr;
      not_identity_lem = λ t. never (sym (wolff_no c.form sw (takes_perms c)) ∙ t);
      flips = λ t r l. rw (flipping c t, table_at c.lattice.n (λ l. 0) r l) (omega arith);
      greys = λ t. never (sym no_greys ∙ t);
      grey_some = λ t. never (sym no_greys ∙ no_greys_wolff t);
      reference = hp.reference;
    }

  pub identity_stays : c.form ≡ Sw → (l : ℕ) → l < c.lattice.n → (k : ℕ) → k < size c → chosen c (identity c) l k ≡ k
  identity_stays sw l hl k hk = go (is_perm c.mode) refl
    where
      go : (t : Bool) → is_perm c.mode ≡ t → chosen c (identity c) l k ≡ k
      go true e = perm_stays c e (rw sw refl) l k hl hk
      go false e = flip_is c v e (identity c) l k ∙ rw (sw, e, table_at c.lattice.n (λ l. 0) l hl) refl

-- the length of the choices that are taken
pub record Sized (c : Call) (r : Choices) : Type 0 where
  pub choices : When (takes_choices c) (length r.choices ≡ choice_bytes c.mode c.form c.lattice.n (size c))

by_kind :
    (f : Form) (p : Bool) (n m : ℕ) (rows flips : List ℕ)
    → length rows ≡ entries f n * m
    → ((is_sw f && not p) ≡ true → length flips ≡ n)
    → ((is_sw f && not p) || (moves f && p)) ≡ true
    → length (cond p rows flips) ≡ entries f n * cond p m 1
by_kind f true n m rows flips a b t = a
by_kind Sw false n m rows flips a b t = omega (arith, b refl)
by_kind Wolff false n m rows flips a b t = never t
by_kind Observe false n m rows flips a b t = never t
by_kind Grow false n m rows flips a b t = never t

module _ (c : Call) where
  sized : (rows flips : List ℕ) → length rows ≡ entries c.form c.lattice.n * size c
      → (takes_flips c ≡ true → length flips ≡ c.lattice.n)
      → When (takes_choices c) (length (cond (is_perm c.mode) rows flips) ≡ choice_bytes c.mode c.form c.lattice.n (size c))
  sized rows flips = by_kind c.form (is_perm c.mode) c.lattice.n (size c) rows flips

  pub composite_sized : (p q : Choices) → Sized c (composite c p q)
  composite_sized p q = record { choices = sized _ _ (rows_long c (λ r k. perm_row c p r (perm_row c q r k))) (λ _. length_table c.lattice.n _) }

  pub inverse_sized : (p : Choices) → Sized c p → Sized c (inverse c p)
  inverse_sized p h = record {
    choices =
        sized _ _ (rows_long c (λ r k. place_of (size c) (perm_row c p r) k))
        (λ t. h.choices (flips_taken c.mode c.form t) ∙ flips_bytes c.mode c.form c.lattice.n (size c) t);
  }

  pub identity_sized : Sized c (identity c)
  identity_sized = record { choices = sized _ _ (rows_long c (λ r k. k)) (λ _. length_table c.lattice.n _) }

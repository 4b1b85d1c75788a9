-- What each public function promises, it promises of one content of the totals.
use Rattle.std.specs.Prelude.{ℕ, ◌+◌, ◌*◌, ◌/◌, ◌%◌, ◌≤◌, ◌<◌, ◌≡◌, refl, ◌⊎◌, Bool, true, false, List, eqb, length, get_or, ℤ, pos}
use Rattle.std.proofs.Math.Path.{sym}
use Rattle.std.proofs.Common.{◌∙◌, ap, inl, inr, arith, mul-le-mul_right, eq-eqb, ne_eqb, ext_get_or}
use Rattle.std.proofs.Math.Decide.{dec_lt}
use Rattle.std.proofs.Math.ListN.{get_or-eq_default}
use Rattle.lemmas.specs.Bools.{never}
use Rattle.lemmas.specs.Cells.{row_of, column_of_lem, cell_lt, tabulate, tabulate_at, length_tabulate}
use Rattle.lemmas.specs.Places.{Placed, Unplaced, place}
use Rattle.paper.specs.declared.Group.{Group}
use Rattle.paper.specs.Panel.Input.{Lattice, member, spin, pattern_of}
use Rattle.columns.specs.Column.{shown}
use Rattle.paper.specs.Answer.Totals.{Brought}
use Rattle.totals.specs.Contract.{Bringable, Spun, Between, BringsAll}
use Rattle.totals.specs.Listed.{Unturned, BringsListed}

-- totals brought to the same spins are the same
pub brought_determined :
    (g : Lattice) (xs totals ys a b : List ℤ) → length totals ≡ g.s → Brought g xs totals ys a → Brought g xs totals ys b → a ≡ b
brought_determined g xs totals ys a b e p q =
    ext_get_or (pos 0) a b (p.long ∙ sym q.long)
    (λ t l. p.each t (omega (arith, p.long, e)) ∙ sym (q.each t (omega (arith, p.long, e))))

-- behind the last row two lists of one length have nothing
past_rows :
    (g : Lattice) (xs ys : List ℤ) → length xs ≡ length ys → length ys ≡ g.s * g.n → (t i : ℕ) → (t < g.s → ⊥) → spin g.n xs t i ≡ spin g.n ys t i
past_rows g xs ys e long t i o =
    let b : g.s ≤ t = omega arith in
    let l : length ys ≤ t * g.n + i = omega (arith, long, mul-le-mul_right g.n b) in
    get_or-eq_default xs (pos 0) (omega (arith, e)) ∙ sym (get_or-eq_default ys (pos 0) l)

module _ (g : Lattice) (group : Group) where
  -- rows that have these columns, and 0 in the systems outside the group
  abbrev spin_at : List ℕ → (t i : ℕ) → Placed group.len (member group) t ⊎ Unplaced group.len (member group) t → ℤ
  spin_at cols t i (inl r) = shown (get_or cols i 0) r.0
  spin_at cols t i (inr u) = pos 0

  rows_of : List ℕ → List ℤ
  rows_of cols = tabulate (g.s * g.n) (λ x. spin_at cols (x / g.n) (x % g.n) (place group.len (member group) (x / g.n)))

  at : (cols : List ℕ) (t i : ℕ) → t < g.s → i < g.n → spin g.n (rows_of cols) t i ≡ spin_at cols t i (place group.len (member group) t)
  unfolding rows_of
  at cols t i lt li =
      tabulate_at (g.s * g.n) _ (t * g.n + i) (cell_lt g.s g.n t i lt li)
      ∙ (λ x. spin_at cols (row_of g.n t i li x) (column_of_lem g.n t i li x) (place group.len (member group) (row_of g.n t i li x)))

  rows_long : (cols : List ℕ) → length (rows_of cols) ≡ g.s * g.n
  unfolding rows_of
  rows_long cols = length_tabulate (g.s * g.n) _

  module _ (olds news : List ℕ) (totals : List ℤ) (h : Bringable g group totals) where
    shows : (cols : List ℕ) (i k : ℕ) → i < g.n → k < group.len → pattern_of g.n group (rows_of cols) i k ≡ shown (get_or cols i 0) k
    shows cols i k li lk = at cols (member group k) i (h.grouped.below k lk) li ∙ is (place group.len (member group) (member group k))
      where
        is : (r : Placed group.len (member group) (member group k) ⊎ Unplaced group.len (member group) (member group k))
            → spin_at cols (member group k) i r ≡ shown (get_or cols i 0) k
        is (inl r) = ap (λ (j : ℕ). shown (get_or cols i 0) j) (sym (h.grouped.distinct k r.0 lk r.1 r.2))
        is (inr u) = absurd (u k lk refl)

    between : Between g.n group olds news (rows_of olds) (rows_of news)
    between = record { before = shows olds; after = shows news; others = λ i t li u. same i t li u (dec_lt t g.s) }
      where
        zero_at : (cols : List ℕ) (i t : ℕ) → Unplaced group.len (member group) t
            → (r : Placed group.len (member group) t ⊎ Unplaced group.len (member group) t) → spin_at cols t i r ≡ pos 0
        zero_at cols i t u (inl r) = absurd (u r.0 r.1 r.2)
        zero_at cols i t u (inr v) = refl

        same : (i t : ℕ) → i < g.n → Unplaced group.len (member group) t → Dec (t < g.s) → spin g.n (rows_of news) t i ≡ spin g.n (rows_of olds) t i
        same i t li u (yes lt) =
            let p = place group.len (member group) t in
            (at news t i lt li ∙ zero_at news i t u p) ∙ sym (at olds t i lt li ∙ zero_at olds i t u p)
        same i t li u (no o) = past_rows g (rows_of news) (rows_of olds) (rows_long news ∙ sym (rows_long olds)) (rows_long olds) t i o

    pub bring_all_determined : (a b : List ℤ) → BringsAll g group olds news totals a → BringsAll g group olds news totals b → a ≡ b
    bring_all_determined a b p q =
        brought_determined g (rows_of olds) totals (rows_of news) a b h.totals_long (p.each (rows_of olds) (rows_of news) between)
        (q.each (rows_of olds) (rows_of news) between)

module _ (g : Lattice) (group : Group) (ys : List ℤ) (members olds : List ℕ) (totals : List ℤ) (h : Bringable g group totals) (spun : Spun g group ys) where
  -- the spin of the system t at the site i before a move of the members, which b tells of
  abbrev was : (t i : ℕ) → Placed group.len (member group) t ⊎ Unplaced group.len (member group) t → Bool → ℤ
  was t i (inl r) true = shown (get_or olds i 0) r.0
  was t i (inl r) false = spin g.n ys t i
  was t i (inr u) b = spin g.n ys t i

  abbrev moved : ℕ → Bool
  moved i = eqb (get_or members i 0) 1

  xs : List ℤ
  xs = tabulate (g.s * g.n) (λ x. was (x / g.n) (x % g.n) (place group.len (member group) (x / g.n)) (moved (x % g.n)))

  had : (t i : ℕ) → t < g.s → i < g.n → spin g.n xs t i ≡ was t i (place group.len (member group) t) (moved i)
  unfolding xs
  had t i lt li =
      tabulate_at (g.s * g.n) _ (t * g.n + i) (cell_lt g.s g.n t i lt li)
      ∙ (λ x. was (row_of g.n t i li x) (column_of_lem g.n t i li x)
      (place group.len (member group) (row_of g.n t i li x)) (moved (column_of_lem g.n t i li x)))

  xs_long : length xs ≡ length ys
  unfolding xs
  xs_long = length_tabulate (g.s * g.n) _ ∙ sym spun.long

  -- where the move changed nothing
  same :
      (t i : ℕ) → i < g.n → (t < g.s → was t i (place group.len (member group) t) (moved i) ≡ spin g.n ys t i)
      → spin g.n ys t i ≡ spin g.n xs t i
  same t i li e = at_row (dec_lt t g.s)
    where
      at_row : Dec (t < g.s) → spin g.n ys t i ≡ spin g.n xs t i
      at_row (yes lt) = sym (had t i lt li ∙ e lt)
      at_row (no o) = sym (past_rows g xs ys xs_long spun.long t i o)

  unturned : Unturned g.n group members olds xs ys
  unturned = record {
    before = λ i k li e lk. had (member group k) i (h.grouped.below k lk) li
        ∙ before_is i k lk (place group.len (member group) (member group k)) (moved i) (eq-eqb (get_or members i 0) 1 e);
    sites = λ i t li o. same t i li (λ lt. site_is t i (place group.len (member group) t) (moved i) (ne_eqb (get_or members i 0) 1 o));
    systems = λ i t li u. same t i li (λ lt. system_is t i u (place group.len (member group) t) (moved i));
  }
    where
      before_is :
          (i k : ℕ) → k < group.len → (r : Placed group.len (member group) (member group k) ⊎ Unplaced group.len (member group) (member group k))
          → (b : Bool) → b ≡ true → was (member group k) i r b ≡ shown (get_or olds i 0) k
      before_is i k lk (inl r) true e = ap (λ (j : ℕ). shown (get_or olds i 0) j) (sym (h.grouped.distinct k r.0 lk r.1 r.2))
      before_is i k lk (inl r) false e = never e
      before_is i k lk (inr u) b e = absurd (u k lk refl)

      site_is :
          (t i : ℕ) (r : Placed group.len (member group) t ⊎ Unplaced group.len (member group) t) (b : Bool) → b ≡ false
          → was t i r b ≡ spin g.n ys t i
      site_is t i (inl r) true e = never (sym e)
      site_is t i (inl r) false e = refl
      site_is t i (inr u) b e = refl

      system_is :
          (t i : ℕ) → Unplaced group.len (member group) t → (r : Placed group.len (member group) t ⊎ Unplaced group.len (member group) t) (b : Bool)
          → was t i r b ≡ spin g.n ys t i
      system_is t i u (inl r) b = absurd (u r.0 r.1 r.2)
      system_is t i u (inr v) b = refl

  pub bring_listed_determined : (a b : List ℤ) → BringsListed g group ys members olds totals a → BringsListed g group ys members olds totals b → a ≡ b
  bring_listed_determined a b p q = brought_determined g xs totals ys a b h.totals_long (p.each xs unturned) (q.each xs unturned)

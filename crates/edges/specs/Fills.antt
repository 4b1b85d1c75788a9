-- Laws of filling: a line has one bond, a list one end, and no list has more lines than there are bonds.
use Rattle.std.specs.Prelude.{ℕ, zero, suc, ◌+◌, ◌*◌, ◌≤◌, ◌<◌, ◌≡◌, refl, List, [], ◌∷◌, ◌++◌, length, get_or, ℤ, pos}
use Rattle.std.proofs.Common.{sym, ◌∙◌, ap, subst, inl, inr, arith, mul-le-mul_right, eq-eqb, ne_eqb}
use Rattle.std.proofs.Math.Decide.{dec_lt, ℕ_discrete}
use Rattle.paper.specs.Refusal.Rules.{Inverse}
use Rattle.edge_text.specs.declared.Edge.{Edge}
use Rattle.edges.specs.Bonds.{Ahead, Joins, Cell, free, holds, Lowest, put, Fills, value_of, table_of}

module _ (n d : ℕ) (fwd : List ℕ) where
  pub lowest_unique : (cells : ℕ → Cell) (i j b c : ℕ) → Lowest n d fwd cells i j b → Lowest n d fwd cells i j c → b ≡ c
  lowest_unique cells i j b c p q = at (dec_lt b c) (dec_lt c b)
    where
      at : Dec (b < c) → Dec (c < b) → b ≡ c
      at (yes l) h = absurd (q.least b l p.joins p.is_free)
      at (no l) (yes h) = absurd (p.least c h q.joins q.is_free)
      at (no l) (no h) = omega arith

  pub fills_unique : (list : List Edge) (cells end end' : ℕ → Cell) → Fills n d fwd cells list end → Fills n d fwd cells list end' → end ≡ end'
  fills_unique [] cells end end' p q = p ∙ sym q
  fills_unique (e ∷ es) cells end end' p q =
      fills_unique es (put cells p.0 e.coupling) end end' p.2
      (subst (λ (b : ℕ). Fills n d fwd (put cells b e.coupling) es end') (lowest_unique cells e.from e.to q.0 p.0 q.1 p.1) q.2)

  -- a list's lines one behind another
  pub fills_behind : (xs ys : List Edge) (cells mid end : ℕ → Cell) → Fills n d fwd cells xs mid
      → Fills n d fwd mid ys end → Fills n d fwd cells (xs ++ ys) end
  fills_behind [] ys cells mid end p q = subst (λ (c : ℕ → Cell). Fills n d fwd c ys end) p q
  fills_behind (a ∷ xs) ys cells mid end p q = (p.0, p.1, fills_behind xs ys (put cells p.0 a.coupling) mid end p.2 q)

  -- a bond that is among n * d joins two of n sites
  ahead_below : (i j b : ℕ) → b < n * d → Ahead d fwd i j b → i < n
  ahead_below i j b l a = at (dec_lt i n)
    where
      at : Dec (i < n) → i < n
      at (yes h) = h
      at (no h) = absurd (omega (arith, mul-le-mul_right d (le_of_not h), a.is, l))
        where
          le_of_not : (i < n → ⊥) → n ≤ i
          le_of_not k = omega arith

  ahead_to : (bwd : List ℕ) → Inverse n d fwd bwd → (i j b : ℕ) → b < n * d → Ahead d fwd i j b → j < n
  ahead_to bwd v i j b l a =
      let h = (v.there i a.way (ahead_below i j b l a) a.below).inside in
      subst (λ (x : ℕ). x < n) (ap (λ (x : ℕ). get_or fwd x 0) (sym a.is) ∙ a.leads) h

  pub record Sites (i j : ℕ) : Type 0 where
    pub first : i < n
    pub second : j < n

  pub joins_sites : (bwd : List ℕ) → Inverse n d fwd bwd → (i j b : ℕ) → b < n * d → Joins d fwd i j b → Sites i j
  joins_sites bwd v i j b l (inl a) = record { first = ahead_below i j b l a; second = ahead_to bwd v i j b l a }
  joins_sites bwd v i j b l (inr a) = record { first = ahead_to bwd v j i b l a; second = ahead_below j i b l a }

-- ---- how many are filled
one : Cell → ℕ
one free = 0
one (holds z) = 1

filled : ℕ → (ℕ → Cell) → ℕ
filled zero cells = 0
filled (suc m) cells = filled m cells + one (cells m)

filled_few : (m : ℕ) (cells : ℕ → Cell) → filled m cells ≤ m
unfolding filled one
filled_few zero cells = omega arith
filled_few (suc m) cells = let h = filled_few m cells in at (cells m) h
  where
    at : (c : Cell) → filled m cells ≤ m → filled m cells + one c ≤ suc m
    at free h = omega arith
    at (holds z) h = omega arith

filled_same : (m b : ℕ) (cells : ℕ → Cell) (z : ℤ) → m ≤ b → filled m (put cells b z) ≡ filled m cells
unfolding filled
filled_same zero b cells z l = refl
filled_same (suc m) b cells z l =
    let h = filled_same m b cells z (omega arith) in
    rw (ne_eqb m b (λ e. omega arith), h) refl

filled_put : (m b : ℕ) (cells : ℕ → Cell) (z : ℤ) → b < m → cells b ≡ free → filled m (put cells b z) ≡ suc (filled m cells)
unfolding filled one
filled_put zero b cells z l f = absurd (omega arith)
filled_put (suc m) b cells z l f = at (ℕ_discrete m b) (λ h. filled_put m b cells z h f)
  where
    at : Dec (m ≡ b) → (b < m → filled m (put cells b z) ≡ suc (filled m cells)) → filled (suc m) (put cells b z) ≡ suc (filled (suc m) cells)
    at (yes e) ih =
        let s = filled_same m b cells z (omega arith) in
        rw (eq-eqb m b e, s, e, f) (omega arith)
    at (no e) ih =
        let s = ih (omega arith) in
        rw (ne_eqb m b e, s) (omega arith)

fills_room : (n d : ℕ) (fwd : List ℕ) (list : List Edge) (cells end : ℕ → Cell) → Fills n d fwd cells list end → length list + filled (n * d) cells ≤ n * d
fills_room n d fwd [] cells end p = let h = filled_few (n * d) cells in omega arith
fills_room n d fwd (e ∷ es) cells end p =
    let h = fills_room n d fwd es (put cells p.0 e.coupling) end p.2 in
    let s = filled_put (n * d) p.0 cells e.coupling p.1.below p.1.is_free in
    omega arith

pub fills_few : (n d : ℕ) (fwd : List ℕ) (list : List Edge) (cells end : ℕ → Cell) → Fills n d fwd cells list end → length list ≤ n * d
fills_few n d fwd list cells end p = let h = fills_room n d fwd list cells end p in omega arith

-- ---- the table
pub table_long : (m : ℕ) (cells : ℕ → Cell) → length (table_of m cells) ≡ m
unfolding table_of
table_long zero cells = refl
table_long (suc m) cells = ap suc (table_long m (λ k. cells (suc k)))

pub table_at : (m k : ℕ) (cells : ℕ → Cell) → k < m → get_or (table_of m cells) k (pos 0) ≡ value_of (cells k)
unfolding table_of
table_at zero k cells l = absurd (omega arith)
table_at (suc m) zero cells l = refl
table_at (suc m) (suc k) cells l = table_at m k (λ k. cells (suc k)) (omega arith)

-- How tight the promises are: any two results that a function's promise allows for one input are equal.
use Rattle.std.specs.Prelude.{ℕ, ◌+◌, ◌*◌, ◌/◌, ◌%◌, ◌<◌, ◌≡◌, ◌⊎◌, ◌≢◌, List, length, get_or, ℤ, pos}
use Rattle.std.proofs.Common.{sym, ◌∙◌, inl, inr, arith, div-add-mod', mod-lt, ext_get_or}
use Rattle.std.proofs.Math.Decide.{ℕ_discrete}
use Rattle.lemmas.specs.Places.{Placed, Unplaced, place}
use Rattle.paper.specs.declared.Group.{Group}
use Rattle.paper.specs.declared.Mode.{Mode}
use Rattle.paper.specs.Panel.Input.{Pattern, member, spin, pattern_of}
use Rattle.columns.specs.Column.{shown, column_of, Columns}
use Rattle.columns.specs.Gauge.{gauge_of}
use Rattle.columns.specs.Rows.{Written, SiteWritten}

pub permute_group_site_determined :
    (column : ℕ) (g : Group) (perm : List ℕ) (r r' : ℕ)
    → r ≡ column_of g.len (λ k. shown column (get_or perm k 0))
    → r' ≡ column_of g.len (λ k. shown column (get_or perm k 0))
    → r ≡ r'
permute_group_site_determined column g perm r r' e e' = e ∙ sym e'

pub copy_determined : (cols to to' : List ℕ) → to ≡ cols → to' ≡ cols → to ≡ to'
copy_determined cols to to' e e' = e ∙ sym e'

pub columns_unique : (n m : ℕ) (f : ℕ → Pattern) (cols cols' : List ℕ) → Columns n m f cols → Columns n m f cols' → cols ≡ cols'
columns_unique n m f cols cols' c c' = ext_get_or 0 cols cols' (c.long ∙ sym c'.long) at
  where
    at : (i : ℕ) → i < length cols → get_or cols i 0 ≡ get_or cols' i 0
    at i h = let l : i < n = omega (arith, c.long) in c.at i l ∙ sym (c'.at i l)

pub pack_determined :
    (n : ℕ) (g : Group) (xs : List ℤ) (cols cols' : List ℕ)
    → Columns n g.len (pattern_of n g xs) cols
    → Columns n g.len (pattern_of n g xs) cols'
    → cols ≡ cols'
pack_determined n g xs = columns_unique n g.len (pattern_of n g xs)

pub gauge_determined :
    (mode : Mode) (g : Group) (reference : ℕ) (cols : List ℕ) (r r' : ℕ)
    → r ≡ gauge_of mode g.len (get_or cols reference 0)
    → r' ≡ gauge_of mode g.len (get_or cols reference 0)
    → r ≡ r'
gauge_determined mode g reference cols r r' e e' = e ∙ sym e'

pub write_rows_determined :
    (n : ℕ) (g : Group) (cols : List ℕ) (xs ys zs : List ℤ)
    → Written n g.len g cols xs ys
    → Written n g.len g cols xs zs
    → ys ≡ zs
write_rows_determined n g cols xs ys zs w v = go (ℕ_discrete n 0)
  where
    at : (t i : ℕ) → i < n → Placed g.len (member g) t ⊎ ((k : ℕ) → k < g.len → t ≢ member g k) → spin n ys t i ≡ spin n zs t i
    at t i h (inl r) = rw r.2 (w.group i r.0 h r.1 ∙ sym (v.group i r.0 h r.1))
    at t i h (inr r) = w.others i t h r ∙ sym (v.others i t h r)

    cell : 0 < n → (x : ℕ) → get_or ys x (pos 0) ≡ get_or zs x (pos 0)
    cell h x = rw (← div-add-mod' x n) (at (x / n) (x % n) (mod-lt x h) (place g.len (member g) (x / n)))

    go : Dec (n ≡ 0) → ys ≡ zs
    go (yes e) = w.empty e ∙ sym (v.empty e)
    go (no e) = ext_get_or (pos 0) ys zs (w.long ∙ sym v.long) (λ x h. cell (omega (arith, e)) x)

-- ---- one site
module _ (n : ℕ) (g : Group) (xs : List ℤ) (i : ℕ) where
  pub column_at_determined : (r r' : ℕ) → r ≡ column_of g.len (pattern_of n g xs i) → r' ≡ column_of g.len (pattern_of n g xs i) → r ≡ r'
  column_at_determined r r' e e' = e ∙ sym e'

  pub quick_column_at_determined : (r r' : ℕ) → r ≡ column_of g.len (pattern_of n g xs i) → r' ≡ column_of g.len (pattern_of n g xs i) → r ≡ r'
  quick_column_at_determined r r' e e' = e ∙ sym e'

  pub gauge_at_determined :
      (mode : Mode) (r r' : ℕ)
      → r ≡ gauge_of mode g.len (column_of g.len (pattern_of n g xs i))
      → r' ≡ gauge_of mode g.len (column_of g.len (pattern_of n g xs i))
      → r ≡ r'
  gauge_at_determined mode r r' e e' = e ∙ sym e'

  pub write_site_determined :
      (column : ℕ) (ys zs : List ℤ) → SiteWritten n g.len g i column xs ys → SiteWritten n g.len g i column xs zs → ys ≡ zs
  write_site_determined column ys zs w v =
      ext_get_or (pos 0) ys zs (w.long ∙ sym v.long) (λ x h. at x (place g.len (λ k. member g k * n + i) x))
    where
      at : (x : ℕ) → Placed g.len (λ k. member g k * n + i) x ⊎ Unplaced g.len (λ k. member g k * n + i) x → get_or ys x (pos 0) ≡ get_or zs x (pos 0)
      at x (inl r) = rw r.2 (w.group r.0 r.1 ∙ sym (v.group r.0 r.1))
      at x (inr r) = w.others x r ∙ sym (v.others x r)

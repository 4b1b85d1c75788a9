-- For one input each public function's promise allows one result, and one content of the buffer that it was lent.
use Rattle.std.specs.Prelude.{ℕ, ◌/◌, ◌^◌, ◌<◌, ◌≡◌, refl, Bool, List, length, get_or, ℤ}
use Rattle.std.proofs.Common.{sym, ◌∙◌, arith, ext_get_or}
use Rattle.std.proofs.Math.Decide.{dec_lt}
use Rattle.lemmas.specs.Tells.{Tells, tells_determined}
use Rattle.paper.specs.declared.Group.{Group}
use Rattle.paper.specs.declared.Mode.{Mode}
use Rattle.paper.specs.Site.Acting.{pair_differs, test_by}
use Rattle.paper.specs.Component.Marks.{Flags}
use Rattle.columns.specs.Column.{shown, shown_spin}
use Rattle.columns.specs.Bits.{column_same}
use Rattle.columns.specs.Determined.{columns_unique}
use Rattle.column_rules.specs.Tables.{Table, acts_entry, flip_entry, SomeMarked, Looked}
use Rattle.column_rules.specs.Laws.{SomeSite}
use Rattle.column_rules.specs.Sight.{acts_at, Shows, Lookable, Looks, Sights}

module _ (g : Group) (x : ℕ) (r s : Bool) where
  pub any_pair_differs_determined : r ≡ pair_differs (g.len / 2) (shown x) → s ≡ pair_differs (g.len / 2) (shown x) → r ≡ s
  any_pair_differs_determined a b = a ∙ sym b

  pub acts_column_determined : (mode : Mode) → r ≡ test_by mode g.len (shown x) → s ≡ test_by mode g.len (shown x) → r ≡ s
  acts_column_determined mode a b = a ∙ sym b

-- ---- tables
pub table_unique : (m : ℕ) (f : ℕ → ℕ) (r s : List ℕ) → Table m f r → Table m f s → r ≡ s
table_unique m f r s a b = ext_get_or 0 r s (a.long ∙ sym b.long) (λ x h. there x h (dec_lt x (2 ^ m)))
  where
    there : (x : ℕ) → x < length r → Dec (x < 2 ^ m) → get_or r x 0 ≡ get_or s x 0
    there x h (yes l) = a.at x l ∙ sym (b.at x l)
    there x h (no l) = a.beyond x (omega arith) (omega (arith, a.long)) ∙ sym (b.beyond x (omega arith) (omega (arith, a.long)))

module _ (mode : Mode) (g : Group) (r s : List ℕ) where
  pub acts_table_determined : Table g.len (acts_entry mode g.len) r → Table g.len (acts_entry mode g.len) s → r ≡ s
  acts_table_determined = table_unique g.len (acts_entry mode g.len) r s

  pub flip_table_determined : Table g.len (flip_entry mode g.len) r → Table g.len (flip_entry mode g.len) s → r ≡ s
  flip_table_determined = table_unique g.len (flip_entry mode g.len) r s

pub flip_group_site_determined : (x : ℕ) (g : Group) (mode : Mode) (r s : ℕ) → r ≡ flip_entry mode g.len x → s ≡ flip_entry mode g.len x → r ≡ s
flip_group_site_determined x g mode r s a b = a ∙ sym b

-- ---- the look-up: the lent bytes and the result
pub record SameLooked (acts : List ℕ) (r : Bool) (acts' : List ℕ) (r' : Bool) : Type 0 where
  pub bytes : acts ≡ acts'
  pub result : r ≡ r'

module _ (table : List ℕ) (gauge : ℕ) (cols acts acts' : List ℕ) (r r' : Bool) where
  pub mark_active_determined : Looked table gauge cols acts r → Looked table gauge cols acts' r' → SameLooked acts r acts' r'
  mark_active_determined a b = record { bytes = same; result = tells_determined (SomeMarked (length cols) acts) r r' a.tells (rw same b.tells) }
    where
      there : (i : ℕ) → i < length acts → get_or acts i 0 ≡ get_or acts' i 0
      there i h = let l : i < length cols = omega (arith, a.long) in a.at i l ∙ sym (b.at i l)

      same : acts ≡ acts'
      same = ext_get_or 0 acts acts' (a.long ∙ sym b.long) there

-- ---- the look: columns, marks and the result
pub record SameSights (cols flags : List ℕ) (r : Bool) (cols' flags' : List ℕ) (r' : Bool) : Type 0 where
  pub columns : cols ≡ cols'
  pub flagged : flags ≡ flags'
  pub result : r ≡ r'

flags_unique : (n : ℕ) (f : ℕ → Bool) (xs ys : List ℕ) → Flags n f xs → Flags n f ys → xs ≡ ys
flags_unique n f xs ys p q = ext_get_or 0 xs ys (p.long ∙ sym q.long) (λ i h. let l = rw p.long at h in p.at i l ∙ sym (q.at i l))

-- columns of m members are those of what they show
own_shows : (m : ℕ) (cols : List ℕ) → ((i : ℕ) → i < length cols → get_or cols i 0 < 2 ^ m) → Shows m cols (λ i. shown (get_or cols i 0))
own_shows m cols narrow = record {
  columns = record { long = refl; at = λ i h. sym (column_same m (get_or cols i 0) (narrow i h)) };
  spins = λ i k h l. shown_spin (get_or cols i 0) k;
}

pub look_columns_determined :
    (mode : Mode) (g : Group) (q : ℕ) (cols lent flags flags' : List ℕ) (r r' : Bool) → Lookable mode g q cols lent
    → Looks mode g.len q cols flags r → Looks mode g.len q cols flags' r' → SameLooked flags r flags' r'
look_columns_determined mode g q cols lent flags flags' r r' p a b =
    let w = own_shows g.len cols p.narrow in
    record {
      bytes = flags_unique (length cols) _ flags flags' (a.flagged _ w) (b.flagged _ w);
      result = tells_determined _ r r' (a.some _ w) (b.some _ w);
    }

module _ (mode : Mode) (n : ℕ) (g : Group) (q : ℕ) (xs : List ℤ) where
  pub look_determined :
      (cols flags : List ℕ) (r : Bool) (cols' flags' : List ℕ) (r' : Bool)
      → Sights mode n g q xs cols flags r → Sights mode n g q xs cols' flags' r' → SameSights cols flags r cols' flags' r'
  look_determined cols flags r cols' flags' r' a b = record {
    columns = columns_unique _ _ _ cols cols' a.columns b.columns;
    flagged = flags_unique n _ flags flags' a.flagged b.flagged;
    result = tells_determined _ r r' a.some b.some;
  }

  pub any_acts_determined : (r r' : Bool) → Tells r (SomeSite n (acts_at mode n g q xs)) → Tells r' (SomeSite n (acts_at mode n g q xs)) → r ≡ r'
  any_acts_determined = tells_determined (SomeSite n (acts_at mode n g q xs))

  pub acts_at_determined : (i : ℕ) (r r' : Bool) → r ≡ acts_at mode n g q xs i → r' ≡ acts_at mode n g q xs i → r ≡ r'
  acts_at_determined i r r' a b = a ∙ sym b

-- What a task of a form that labels asks and leaves, on rows and on columns, and its totals.
use Rattle.std.specs.Prelude.{ℕ, ◌≡◌, refl, Bool, true, List, [], ℤ}
use Rattle.std.proofs.Common.{sym}
use Rattle.paper.specs.declared.Group.{Group}
use Rattle.paper.specs.Panel.Input.{Lattice, Call, Choices, Buffers, pattern, pattern_of, size}
use Rattle.paper.specs.Panel.Made.{buffers_of}
use Rattle.paper.specs.Panel.Takes.{labels_by}
use Rattle.paper.specs.Refusal.Kept.{Valid}
use Rattle.paper.specs.Answer.Totals.{TotalsReady, TotalsAfter}
use Rattle.columns.specs.Column.{Columns, Spinning}
use Rattle.columns.specs.Rows.{Written}
use Rattle.columns.specs.Laws.{columns_shown}
use Rattle.moves.specs.Tested.{ready}
use Rattle.moves.specs.Rewritten.{own_written}
use Rattle.totals.specs.Contract.{Bringable, Between}

-- what a task on rows asks. A form that labels takes no members, so these may be any
pub record RowsAsk (c : Call) (p : Choices) (xs : List ℤ) (labels grey_labels counts sizes found grey_found : List ℕ) : Type 0 where
  pub labelled : labels_by c.form ≡ true
  pub valid : Valid c p (buffers_of xs labels grey_labels counts sizes [] found grey_found)

-- what becomes of the totals, for any rows that have the columns before and after
pub record KeepsFor (keeping : Bool) (g : Lattice) (group : Group) (cols new : List ℕ) (ts ts' : List ℤ) : Type 0 where
  pub each : (xs ys : List ℤ) → Between g.n group cols new xs ys → TotalsAfter keeping g xs ts ys ts'

-- rows whose columns did not change are written from them
pub still_written :
    {n : ℕ} {g : Group} {xs : List ℤ} {cols new : List ℕ} → Columns n g.len (pattern_of n g xs) cols → Spinning n g xs → new ≡ cols
    → Written n g.len g new xs xs
still_written w spins e = rw e (own_written w spins)

module _ (c : Call) (p : Choices) (b : Buffers) (v : Valid c p b) where
  -- the group's columns before the task and after it
  pub between :
      {cols new : List ℕ} {ys : List ℤ} → Columns c.lattice.n (size c) (pattern c b.spins) cols
      → Written c.lattice.n (size c) c.group new b.spins ys
      → Between c.lattice.n c.group cols new b.spins ys
  between w o = record {
    before = λ i k li lk. sym (columns_shown w i k li lk ((ready c p b v.sound).spins i k li lk));
    after = o.group;
    others = o.others;
  }

  pub asks :
      (ts : List ℤ) → TotalsReady true c.lattice c.group ts → Bringable c.lattice c.group ts
  asks ts r = let s = v.sound in record {
    sizes = s.ranged.lattice;
    few = s.ranged.size_high;
    grouped = s.grouped;
    fwd_long = s.exact.fwd;
    bwd_long = s.exact.bwd;
    js_long = (r.lengths refl).couplings;
    totals_long = (r.lengths refl).totals;
    inverse = s.inverse;
    couplings = r.couplings refl;
    totals_small = r.small refl;
  }

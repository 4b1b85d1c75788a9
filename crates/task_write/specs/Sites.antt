-- The columns of the group's rows read at listed sites.
use Rattle.std.specs.Prelude.{ℕ, ◌+◌, ◌≤◌, ◌<◌, ◌≡◌, List, length, get_or, set, ℤ}
use Rattle.std.proofs.Common.{sym, ap, ◌∙◌, arith, length-set}
use Rattle.std.proofs.Math.Decide.{ℕ_discrete}
use Rattle.lemmas.specs.Stores.{AfterSet, AfterSet.here, AfterSet.there, after_set, lt_of_ne}
use Rattle.paper.specs.declared.Group.{Group}
use Rattle.columns.specs.Column.{Inside}
use Rattle.totals.specs.Listed.{SitesIn, columns_by}
use Rattle.grow.specs.Listed.{site_at}
use Rattle.grow.specs.Totals.{OldsRead}

-- what is asked: the group's rows, a list of sites, and room for the columns of all sites
pub record Readable (n : ℕ) (g : Group) (xs : List ℤ) (list : List ℕ) (m olds : ℕ) : Type 0 where
  pub few : g.len ≤ 8
  pub inside : Inside n g xs
  pub sites : SitesIn n list m
  pub room : n ≤ olds

pub read_none : {n : ℕ} {g : Group} {xs : List ℤ} {list olds : List ℕ} → n ≤ length olds → OldsRead n g xs list 0 olds
read_none room = record { room = room; each = λ a l. absurd (omega arith) }

-- one column more. A site that stands there twice has the same column again
pub read_more :
    {n : ℕ} {g : Group} {xs : List ℤ} {list : List ℕ} {m : ℕ} {olds : List ℕ} {i v : ℕ} → OldsRead n g xs list m olds → i < length olds
    → i ≡ site_at list m → v ≡ columns_by n g xs i → OldsRead n g xs list (m + 1) (set olds i v)
read_more {n} {g} {xs} {list} {m} {olds} {i} {v} was l is e = record {
  room = omega (arith, length-set olds i v, was.room);
  each = λ a al. at a al (after_set olds i v (site_at list a) l) (ℕ_discrete a m);
}
  where
    at : (a : ℕ) → a < m + 1 → AfterSet olds i v (site_at list a) → Dec (a ≡ m) → get_or (set olds i v) (site_at list a) 0 ≡ columns_by n g xs (site_at list a)
    at a al (here q f) d = f ∙ (e ∙ ap (columns_by n g xs) (sym q))
    at a al (there q f) (yes d) = absurd (q (ap (site_at list) d ∙ sym is))
    at a al (there q f) (no d) = f ∙ was.each a (lt_of_ne al d)

-- What the step works on once it is tested, and what it leaves.
use Rattle.std.specs.Prelude.{ℕ, zero, suc, ◌*◌, ◌≤◌, ◌<◌, ◌≡◌, refl, ◌≢◌, Bool, true, false, cond, List, [], length, get_or, ℤ}
use Rattle.std.proofs.Common.{sym, ◌∙◌, ap, mul-le-mul_right, suc-mul, arith, eq-eqb, ne_eqb}
use Rattle.std.proofs.Math.Decide.{ℕ_discrete}
use Rattle.lemmas.specs.Bools.{never}
use Rattle.paper.specs.declared.Group.{Group}
use Rattle.paper.specs.declared.Task.{Task}
use Rattle.paper.specs.Panel.Input.{Lattice, member, spin, pattern_of}
use Rattle.paper.specs.Panel.Made.{call_of}
use Rattle.paper.specs.Panel.Takes.{grows_by, labels_by, keeps_by}
use Rattle.paper.specs.Refusal.Rule.{Kept}
use Rattle.paper.specs.Refusal.Kept.{named}
use Rattle.paper.specs.Refusal.Verdict.{Verdict}
use Rattle.paper.specs.Refusal.Rules.{Sizes, Grouped}
use Rattle.paper.specs.Answer.Totals.{TotalsAfter}
use Rattle.columns.specs.Column.{shown, Columns, Inside, Spinning}
use Rattle.columns.specs.Rows.{Written}
use Rattle.columns.specs.Laws.{columns_shown}
use Rattle.packing.specs.Bytes.{own_group, own_task}
use Rattle.packing.proofs.Laws.{own_grouped}
use Rattle.totals.specs.Contract.{lattice_for, Bringable, Between, BringsAll}
use Rattle.totals.specs.Listed.{SitesIn}
use Rattle.turn.specs.Turned.{ListWritten}
use Rattle.grow.specs.Totals.{Writable, written_in, written_out}
use Rattle.task_steps.specs.Choose.{has_column}
use Rattle.task_steps.specs.Write.{Shape, shape_of, Writing, writing_of, write_rules, WriteAccepts, WriteAnswers}
use Rattle.task_write.specs.Marks.{Collected}
use Rattle.task_write.specs.Sites.{Readable}

-- rows of the group's systems, which hold spins, an area of columns, and totals that can be brought along
pub record Ready (t : Task) (fwd bwd : List ℕ) (js xs : List ℤ) (area : List ℕ) (ts : List ℤ) : Type 0 where
  pub sizes : Sizes t.n t.d t.s
  pub few : t.group.len ≤ 8
  pub grouped : Grouped t.s t.group
  pub long : length xs ≡ t.s * t.n
  pub spins : Spinning t.n t.group xs
  pub area_long : length area ≡ t.n
  pub bringable : keeps_by t.keeps t.form ≡ true → Bringable (lattice_for t fwd bwd js) t.group ts

pub ready_inside : {t : Task} {fwd bwd : List ℕ} {js xs : List ℤ} {area : List ℕ} {ts : List ℤ} → Ready t fwd bwd js xs area ts → Inside t.n t.group xs
ready_inside {t} r k l = omega (arith, r.long, suc-mul (member t.group k) t.n, mul-le-mul_right t.n (r.grouped.below k l))

-- ---- a task on rows of its own that is tested
module _ (t : Task) (fwd bwd : List ℕ) (js xs : List ℤ) (members area : List ℕ) (ts : List ℤ) where
  abbrev keeping : Bool
  keeping = keeps_by t.keeps t.form

  abbrev TestedKept : Type 0
  TestedKept = Kept (write_rules keeping (shape_of (call_of (own_task t) fwd bwd [] js [])) (writing_of xs members area ts))

  module _ (k : TestedKept) where
    few : t.group.len ≤ 8
    few = k.0.size_high

    grouped : Grouped t.group.len (own_group t.group.len)
    grouped = own_grouped t.group.len few

    pub ready_of : Ready (own_task t) fwd bwd js xs area ts
    ready_of =
        let exact = k.1.1.0 in
        let rest = k.1.1.1 in
        record {
          sizes = k.0.lattice;
          few = few;
          grouped = grouped;
          long = exact.rows;
          spins = λ i j il jl. rest.0 (member (own_group t.group.len) j) i (named j jl grouped) il;
          area_long = exact.area;
          bringable = λ e. record {
            sizes = k.0.lattice;
            few = few;
            fwd_long = exact.fwd e;
            bwd_long = exact.bwd e;
            js_long = (exact.totals e).couplings;
            totals_long = (exact.totals e).totals;
            inverse = rest.1.1.0 e;
            grouped = grouped;
            couplings = rest.1.1.1.0 e;
            totals_small = λ j jl. rest.1.1.1.1.1.0 e (member (own_group t.group.len) j) (named j jl grouped);
          };
        }

    pub members_long : grows_by t.form ≡ true → length members ≡ t.n
    members_long e = k.1.1.0.members e

-- ---- the forms that label: all sites are written

-- what becomes of the totals, whatever the rows become that are written from the area
pub record Ahead (keeping : Bool) (g : Lattice) (group : Group) (area : List ℕ) (xs ts us : List ℤ) : Type 0 where
  pub each : (ys : List ℤ) → Written g.n group.len group area xs ys → TotalsAfter keeping g xs ts ys us

pub ahead_kept :
    {keeping : Bool} {g : Lattice} {group : Group} {cols area : List ℕ} {xs ts us : List ℤ} → keeping ≡ true
    → Columns g.n group.len (pattern_of g.n group xs) cols → Spinning g.n group xs
    → BringsAll g group cols area ts us → Ahead keeping g group area xs ts us
ahead_kept {keeping} {g} {group} {cols} {area} {xs} on packed spins b = record {
  each = λ ys w. record { brought = λ _. b.each xs ys (between ys w); left = λ off. never (sym off ∙ on) };
}
  where
    between : (ys : List ℤ) → Written g.n group.len group area xs ys → Between g.n group cols area xs ys
    between ys w = record {
      before = λ i k il kl. sym (columns_shown packed i k il kl (spins i k il kl));
      after = w.group;
      others = w.others;
    }

pub ahead_left : {keeping : Bool} {g : Lattice} {group : Group} {area : List ℕ} {xs ts : List ℤ} → keeping ≡ false → Ahead keeping g group area xs ts ts
ahead_left off = record { each = λ ys w. record { brought = λ on. never (sym off ∙ on); left = λ _. refl } }

-- ---- the form that grows: the members alone are

-- of the group at the sites that are marked; all else is as it was
pub record MembersWritten (n : ℕ) (g : Group) (members area : List ℕ) (xs ys : List ℤ) : Type 0 where
  pub long : length ys ≡ length xs
  pub marked : (i k : ℕ) → i < n → get_or members i 0 ≡ 1 → k < g.len → pattern_of n g ys i k ≡ shown (get_or area i 0) k
  pub others : (i t : ℕ) → i < n → get_or members i 0 ≢ 1 → spin n ys t i ≡ spin n xs t i

-- the list of them, as it is asked for
module _ {t : Task} {fwd bwd : List ℕ} {js xs : List ℤ} {area : List ℕ} {ts : List ℤ} (r : Ready t fwd bwd js xs area ts)
    {members list : List ℕ} {m : ℕ} (long : length members ≡ t.n) (room : 4096 ≤ length list) (h : Collected members (length members) list m) where
  sites : SitesIn t.n list m
  sites = record {
    few = omega (arith, h.short, long, r.sizes.n_high);
    long = omega (arith, h.short, long, r.sizes.n_high, room);
    below = λ a l. omega (arith, h.below a l, long);
  }

  pub reads : {olds : ℕ} → olds ≡ 4096 → Readable t.n t.group xs list m olds
  reads e = record { few = r.few; inside = ready_inside r; sites = sites; room = omega (arith, e, r.sizes.n_high) }

  -- from columns that are the area's
  module _ {news : List ℕ} (copied : news ≡ area) where
    pub writable : Writable t xs members list m (length news)
    writable = record {
      few = r.few;
      grouped = r.grouped;
      long = r.long;
      spins = r.spins;
      changed = record {
        sites = sites;
        members_long = omega (arith, long);
        room = omega (arith, ap length copied, r.area_long);
        distinct = h.apart;
        marked = h.each;
        listed = λ i il on. h.all i (omega (arith, il, long)) on;
      };
    }

    pub members_written : {ys : List ℤ} → ListWritten t.n t.group list m news xs ys → MembersWritten t.n t.group members area xs ys
    members_written w = record {
      long = w.long;
      marked = λ i k il on kl. written_in writable w i k il kl on ∙ ap (λ (cols : List ℕ). shown (get_or cols i 0) k) copied;
      others = written_out writable w;
    }

-- ---- the answer

pub refused_by :
    (keeping : Bool) (h : Shape) (l : Writing) (r : ℕ) → (r ≡ 0 → ⊥) → Verdict (write_rules keeping h l) r
    → WriteAnswers keeping h l r l.rows l.totals
refused_by _ h l zero e v = absurd (e refl)
refused_by _ h l (suc r) e v = record { why = v; kept = refl; totals_kept = refl }

module _ (t : Task) (fwd bwd : List ℕ) (js xs : List ℤ) (members area : List ℕ) (ts ys us : List ℤ) (k : TestedKept t fwd bwd js xs members area ts)
    (after : TotalsAfter (keeping t fwd bwd js xs members area ts) (lattice_for (own_task t) fwd bwd js) xs ts ys us) where
  abbrev Accepted : Type 0
  Accepted = WriteAccepts (keeps_by t.keeps t.form) (shape_of (call_of (own_task t) fwd bwd [] js [])) (writing_of xs members area ts) ys us

  pub labelled_accepts : labels_by t.form ≡ true → Written t.n t.group.len (own_group t.group.len) area xs ys → Accepted
  labelled_accepts on w = record {
    valid = k;
    long = w.long;
    written = λ i j il jl. rw on (w.group i j il jl);
    totals = after;
  }

  pub grown_accepts : grows_by t.form ≡ true → MembersWritten t.n (own_group t.group.len) members area xs ys → Accepted
  grown_accepts on w = record {
    valid = k;
    long = w.long;
    written = λ i j il jl. at i j il jl (ℕ_discrete (get_or members i 0) 1);
    totals = after;
  }
    where
      at :
          (i j : ℕ) → i < t.n → j < t.group.len → Dec (get_or members i 0 ≡ 1)
          → pattern_of t.n (own_group t.group.len) ys i j
          ≡ cond (has_column t.form members i) (shown (get_or area i 0) j) (pattern_of t.n (own_group t.group.len) xs i j)
      at i j il jl (yes q) = rw (on, eq-eqb _ _ q) (w.marked i j il q jl)
      at i j il jl (no q) = rw (on, ne_eqb _ _ q) (w.others i (member (own_group t.group.len) j) il q)

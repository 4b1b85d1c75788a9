-- A member's new column shows its new pattern, and that pattern is the paper's, whatever the cluster's label. So a cluster whose new columns are written
-- is turned.
use Rattle.std.specs.Prelude.{ℕ, ◌*◌, ◌/◌, ◌≤◌, ◌<◌, ◌≡◌, refl, Bool, true, false, cond, ◌&&◌, List, ltb, get_or, ℤ, neg_ℤ, ◌*ℤ◌, Float}
use Rattle.std.proofs.Common.{sym, ◌∙◌, ap, subst, zero-mul, zero-add}
use Rattle.paper.specs.declared.Mode.{Mode}
use Rattle.paper.specs.declared.Mode.TheVariants.{Houd, Pair, Perm, Gperm, Jorg, Cmr}
use Rattle.paper.specs.declared.Task.{Task}
use Rattle.paper.specs.Panel.Input.{Pattern, pattern_of}
use Rattle.paper.specs.Panel.Made.{call_of, choices_of}
use Rattle.paper.specs.Panel.Takes.{is_perm, is_gperm, is_cmr}
use Rattle.paper.specs.Move.Moving.{partner, flip_by, perm_at, flip_some, act_by, grey_at, grey_bit}
use Rattle.paper.specs.Refusal.Rules.{Permutes, When}
use Rattle.laws.specs.Patterns.{Spinning, flip_spin}
use Rattle.columns.specs.Column.{shown, column_of, shown_column, shown_spin, column_lt, column_ext}
use Rattle.columns.specs.Gauge.{gauge_of}
use Rattle.column_rules.specs.Acted.{acted, acted_spin}
use Rattle.choose.specs.Chosen.{greyed}
use Rattle.turn.specs.Turned.{bare, acted_to, turned_to, acted_column, turned_column, OneCluster, Chooses}
use Rattle.turn.specs.Turned.{Choosable, Turnable, ColumnsTurned, ListWritten, Turned}

-- ---- the entry of the one cluster
module _ (t : Task) (choices : List ℕ) (one : OneCluster t.form choices) where
  pub first_place : (k : ℕ) → perm_at t.form t.group.len choices 0 k ≡ get_or choices k 0
  first_place k = rw (one.first 0, zero-mul, zero-add)

  pub first_perm : Permutes t.group.len (λ k. get_or choices k 0) → Permutes t.group.len (perm_at t.form t.group.len choices 0)
  first_perm p = record {
    within = λ k h. rw (first_place k) (p.within k h);
    distinct = λ a b ha hb e. p.distinct a b ha hb (sym (first_place a) ∙ (e ∙ first_place b));
  }

  -- so its choice is that of any label, in any call of the task
  module _ (greys fwd bwd pins : List ℕ) (js : List ℤ) (cuts : List Float) (r : ℕ) where
    same_flip : flip_by t.form choices r ≡ flip_by t.form choices 0
    same_flip = one.flips r ∙ sym (one.flips 0)

    same_place : (k : ℕ) → perm_at t.form t.group.len choices r k ≡ perm_at t.form t.group.len choices 0 k
    same_place k = rw (one.first r, one.first 0)

    pub act_any :
        (m : Mode) (P f : Pattern) (k : ℕ)
        → act_by m (call_of t fwd bwd pins js cuts) (choices_of choices greys) P r f k ≡ act_by m (bare t) (choices_of choices greys) P 0 f k
    act_any Houd P f k = ap (λ (b : Bool). cond (b && ltb k (2 * (t.group.len / 2))) (neg_ℤ (f k)) (f k)) same_flip
    act_any Pair P f k = ap (λ (b : Bool). f (cond b (partner t.group.len k) k)) same_flip
    act_any Jorg P f k = ap (λ (b : Bool). f (cond b (partner t.group.len k) k)) same_flip
    act_any Perm P f k = ap f (same_place k)
    act_any Gperm P f k = ap (λ (x : ℕ). P k *ℤ P x *ℤ f x) (same_place k)
    act_any Cmr P f k = ap (λ (b : Bool). cond b (neg_ℤ (f k)) (f k)) same_flip

    pub grey_any : grey_at t.form greys r ≡ grey_at t.form greys 0
    grey_any = rw (one.first r, one.first 0)

-- ---- columns
module _
    (t : Task) (choices greys : List ℕ) (c : Chooses t choices) (two : When (is_cmr t.mode) (t.group.len ≡ 2)) (P f : Pattern)
    (reference : is_gperm t.mode ≡ true → Spinning t.group.len P) (spins : Spinning t.group.len f)
  where
    abbrev m : ℕ
    m = t.group.len

    perm : is_perm t.mode ≡ true → Permutes m (perm_at t.form m choices 0)
    perm e = first_perm t choices c.one (c.perm e)

    acted_spins : (b : Bool) → Spinning m (acted_to t choices greys P b f)
    acted_spins true k h = acted_spin t.mode (bare t) (choices_of choices greys) 0 P f reference spins perm k h
    acted_spins false k h = spins k h

    acted_column_lem : (b : Bool) → acted_column t (gauge_of t.mode m (column_of m P)) choices b (column_of m f) ≡ column_of m (acted_to t choices greys P b f)
    acted_column_lem true = acted t.mode (bare t) (choices_of choices greys) 0 P f reference spins perm
    acted_column_lem false = refl

    -- on the two bits of a column a grey number flips the pattern's spins
    greyed_column : (x : ℕ) (h : Pattern) → m ≡ 2 → Spinning m h → greyed x (column_of m h) ≡ column_of m (flip_some (grey_bit x) h)
    greyed_column x h e s =
        subst (λ (z : ℕ). greyed x (column_of m h) ≡ column_of z (flip_some (grey_bit x) h)) (sym e)
        (column_ext 2 _ _ (λ k l. ap (λ (z : ℤ). cond (grey_bit x k) (neg_ℤ z) z) (shown_column m h k (rw e l) (s k (rw e l)))))

    -- a grey number, or none
    grey_column : (q : Bool) (x : ℕ) (h : Pattern) → (q ≡ true → m ≡ 2) → Spinning m h
        → cond q (greyed x (column_of m h)) (column_of m h) ≡ column_of m (λ k. cond q (flip_some (grey_bit x) h k) (h k))
    grey_column true x h e s = greyed_column x h (e refl) s
    grey_column false x h e s = refl

    grey_spin : (q : Bool) (x : ℕ) (h : Pattern) → Spinning m h → Spinning m (λ k. cond q (flip_some (grey_bit x) h k) (h k))
    grey_spin true x h s k l = flip_spin (grey_bit x k) (h k) (s k l)
    grey_spin false x h s k l = s k l

    pub turned_column_lem : (b : Bool)
        → turned_column t (gauge_of t.mode m (column_of m P)) choices greys b (column_of m f) ≡ column_of m (turned_to t choices greys P b f)
    turned_column_lem b = rw (acted_column_lem b) (grey_column (is_cmr t.mode) (grey_at t.form greys 0) (acted_to t choices greys P b f) two (acted_spins b))

    pub turned_shown :
        (b : Bool) (k : ℕ) → k < m
        → shown (turned_column t (gauge_of t.mode m (column_of m P)) choices greys b (column_of m f)) k ≡ turned_to t choices greys P b f k
    turned_shown b k h =
        rw (turned_column_lem b)
        (shown_column m (turned_to t choices greys P b f) k h
        (grey_spin (is_cmr t.mode) (grey_at t.form greys 0) (acted_to t choices greys P b f) (acted_spins b) k h))

-- ---- chosen and written
module _ {t : Task} {xs : List ℤ} {choices greys list cols : List ℕ} {len : ℕ} (a : Turnable t xs choices greys list cols len) where
  abbrev site : ℕ → ℕ
  site x = get_or list x 0

  abbrev at : ℕ → Pattern
  at = pattern_of t.n t.group xs

  pub choosable : {area : ℕ} → t.n ≤ area → Choosable t choices greys list cols len area
  choosable room = record {
    chooses = a.chooses;
    two = a.two;
    lent = a.lent;
    small = a.small;
    long = a.long;
    sites = a.sites;
    apart = a.apart;
    cols_room = a.room;
    area_room = room;
    narrow = λ x h. rw (a.kept x h) (column_lt t.group.len (at (site x)));
  }

  -- the rows that the columns were read from become those after the move
  pub written_turned :
      {gauge blue : ℕ} {news news' : List ℕ} {ys : List ℤ} → gauge ≡ gauge_of t.mode t.group.len (column_of t.group.len (at t.reference))
      → ColumnsTurned t gauge choices greys list cols blue len news news' → ListWritten t.n t.group list len news' xs ys
      → Turned t choices greys list blue len xs ys
  written_turned {gauge} {blue} {news} {news'} {ys} seen c w = record {
    long = w.long;
    listed = λ x k h l. w.listed x k h l ∙ (ap (λ (z : ℕ). shown z k) (column x h) ∙ shows x k h l);
    spins = λ x k h l. rw (w.listed x k h l) (shown_spin (get_or news' (site x) 0) k);
    others = w.others;
    systems = w.systems;
    empty = w.empty;
  }
    where
      column :
          (x : ℕ) → x < len
          → get_or news' (site x) 0
          ≡ turned_column t (gauge_of t.mode t.group.len (column_of t.group.len (at t.reference))) choices greys (ltb x blue)
          (column_of t.group.len (at (site x)))
      column x h = c.listed x h ∙ (λ i. turned_column t (seen i) choices greys (ltb x blue) (a.kept x h i))

      shows :
          (x k : ℕ) → x < len → k < t.group.len
          → shown (turned_column t (gauge_of t.mode t.group.len (column_of t.group.len (at t.reference))) choices greys (ltb x blue)
          (column_of t.group.len (at (site x)))) k
          ≡ turned_to t choices greys (at t.reference) (ltb x blue) (at (site x)) k
      shows x k h l =
          turned_shown t choices greys a.chooses a.two (at t.reference) (at (site x))
          (λ q j g. a.panel.spins t.reference j (a.panel.reference q) g) (λ j g. a.panel.spins (site x) j (a.sites x h) g) (ltb x blue) k l

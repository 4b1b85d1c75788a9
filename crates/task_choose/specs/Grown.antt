-- The form that grows: what each member's column becomes, and that it is the column of the paper's pattern.
use Rattle.std.specs.Prelude.{ℕ, ◌*◌, ◌≤◌, ◌<◌, ◌≡◌, Bool, not, ◌&&◌, List, [], ◌∷◌, length, get_or, ℤ}
use Rattle.std.proofs.Math.Path.{refl, sym, ap}
use Rattle.std.proofs.Common.{◌∙◌, zero-mul, zero-add, one-mul, arith, eq-eqb, eqb-true}
use Rattle.std.proofs.Math.Bool.{true, false, cond}
use Rattle.std.proofs.Math.Dec.{eqb}
use Rattle.std.specs.Int.Bits.{bit_xor}
use Rattle.lemmas.specs.Bools.{and_no}
use Rattle.paper.specs.declared.Task.{Task}
use Rattle.paper.specs.declared.Mode.{Mode}
use Rattle.paper.specs.declared.Mode.TheVariants.{Houd, Pair, Perm, Gperm, Jorg, Cmr}
use Rattle.paper.specs.Panel.Input.{Call, Choices, Pattern, pinned, pattern, pattern_of, size}
use Rattle.paper.specs.Panel.Made.{call_of, choices_of}
use Rattle.paper.specs.Panel.Takes.{is_cmr, grows_by, perms_by, greys_by, takes_greys}
use Rattle.paper.specs.Site.Acting.{test_by, acts}
use Rattle.paper.specs.Component.Sizes.{label_of}
use Rattle.paper.specs.Move.Moving.{flip_some, act_by, grey_at, grey_bit, has_one, held, reached, after, final}
use Rattle.paper.specs.Refusal.Rules.{When, Permutes, perm_row}
use Rattle.laws.specs.Choices.{perms_taken, perms_bytes}
use Rattle.laws.specs.Counting.{cmr_acts}
use Rattle.columns.specs.Column.{shown, column_of, column_ext, Inside}
use Rattle.columns.specs.Gauge.{gauge_of}
use Rattle.column_rules.specs.Sight.{column_acts_lem}
use Rattle.turn.specs.Turned.{bare, acted_to, turned_to, turned_column, OneCluster, Chooses}
use Rattle.turn.specs.Laws.{act_any, grey_any, turned_column_lem}
use Rattle.grow.specs.Formed.{one_cluster_lem, reached_grown, is_cmr_lem, none_flips, grown_greys, grown_perms, grown_entries}
use Rattle.task_choose.specs.Asked.{Asks, sighted}
use Rattle.task_choose.specs.Blocks.{Between}

-- the column of the group's spins at the site i
abbrev pub column_in : Task → List ℤ → ℕ → ℕ
column_in t xs i = column_of t.group.len (pattern_of t.n t.group xs i)

-- and after the move, where the site takes the cluster's choice if it acts
abbrev pub member_column : Task → ℕ → List ℤ → List ℕ → List ℕ → Bool → ℕ → ℕ
member_column t gauge xs choices greys takes i =
    turned_column t gauge choices greys (test_by t.mode t.group.len (shown (bit_xor (column_in t xs i) gauge)) && takes) (column_in t xs i)

-- what it is worked out on
pub record Turning (t : Task) (xs : List ℤ) (choices greys : List ℕ) : Type 0 where
  pub inside : Inside t.n t.group xs
  pub chooses : Chooses t choices
  pub two : When (is_cmr t.mode) (t.group.len ≡ 2)
  pub lent : When (is_cmr t.mode) (1 ≤ length greys)
  pub small : When (is_cmr t.mode) (get_or greys 0 0 ≤ 3)

-- a mark for each site of those that take the choice and of the members, and a byte for each column
pub record Listing (n : ℕ) (takers members area : List ℕ) : Type 0 where
  pub takers_long : length takers ≡ n
  pub members_long : length members ≡ n
  pub area_long : length area ≡ n

pub record GrownAsks (t : Task) (xs : List ℤ) (pins choices greys members blue area : List ℕ) : Type 0 where
  pub grows : grows_by t.form ≡ true
  pub asks : Asks (call_of t [] [] pins [] []) (choices_of choices greys) xs
  pub members_long : length members ≡ t.n
  pub blue_long : When (is_cmr t.mode) (length blue ≡ t.n)
  pub area_long : length area ≡ t.n

-- those that take the cluster's choice: in CMR the blue ones, else all members
abbrev pub takers_of : Mode → List ℕ → List ℕ → List ℕ
takers_of mode members blue = cond (is_cmr mode) blue members

-- at the members the columns after the move, elsewhere what was there
pub record GrownLeaves (c : Call) (p : Choices) (xs : List ℤ) (members blue area area' : List ℕ) : Type 0 where
  pub long : length area' ≡ length area
  pub chosen : (i : ℕ) → i < c.lattice.n → get_or members i 0 ≡ 1
      → get_or area' i 0 ≡ column_of (size c) (final c p xs (takers_of c.mode members blue) members i)
  pub left : (i : ℕ) → (get_or members i 0 ≡ 1 → ⊥) → get_or area' i 0 ≡ get_or area i 0

module _ (t : Task) (xs : List ℤ) (pins choices greys : List ℕ) (grows : grows_by t.form ≡ true)
    (a : Asks (call_of t [] [] pins [] []) (choices_of choices greys) xs) where
  abbrev c : Call
  c = call_of t [] [] pins [] []

  abbrev p : Choices
  p = choices_of choices greys

  abbrev m : ℕ
  m = t.group.len

  -- ---- what the steps ask
  one : OneCluster t.form choices
  one = one_cluster_lem t.form choices grows

  chooses : Chooses t choices
  chooses = record {
    size_low = omega (arith, a.ranged.size_low);
    size_high = a.ranged.size_high;
    one = one;
    long = λ q.
        let taken : perms_by t.mode t.form ≡ true = grown_perms t.form t.mode grows ∙ q in
        a.choices_long (perms_taken t.mode t.form taken)
        ∙ (perms_bytes t.mode t.form t.n m taken
        ∙ (ap (λ (x : ℕ). x * m) (grown_entries t.form t.n grows) ∙ one-mul m));
    perm = λ q.
        first_row (a.chosen.perms (grown_perms t.form t.mode grows ∙ q) 0 (rw (grown_entries t.form t.n grows) (omega arith)));
  }
    where
      row : (k : ℕ) → perm_row c p 0 k ≡ get_or choices k 0
      row k = rw (zero-mul, zero-add)

      first_row : Permutes m (perm_row c p 0) → Permutes m (λ k. get_or choices k 0)
      first_row h = record {
        within = λ k l. rw (row k) at (h.within k l);
        distinct = λ a b la lb e. h.distinct a b la lb (row a ∙ (e ∙ sym (row b)));
      }

  pub turning : Turning t xs choices greys
  turning = record {
    inside = a.inside;
    chooses = chooses;
    two = a.ranged.cmr_two;
    lent = λ q. rw (a.greys_long (takes q), grown_entries t.form t.n grows) (omega arith);
    small = λ q. a.chosen.greys (takes q) 0 (rw (grown_entries t.form t.n grows) (omega arith));
  }
    where
      takes : is_cmr t.mode ≡ true → greys_by t.mode t.form ≡ true
      takes q = grown_greys t.form t.mode grows ∙ q

  -- the grey number 0 can be turned by
  pub turning_none : Turning t xs choices (0 ∷ [])
  turning_none = record {
    inside = a.inside;
    chooses = chooses;
    two = a.ranged.cmr_two;
    lent = λ q. omega arith;
    small = λ q. omega arith;
  }

  -- ---- which sites are reached, by any marks
  module _ (marks : List ℕ) (i : ℕ) where
    pub reached_is : reached c xs marks i ≡ (acts c xs i && (not (has_one (pinned c) marks 1) && eqb (label_of marks i) 1))
    unfolding reached
    reached_is = rw (reached_grown t.form t.mode t.seed marks i grows) (go (eqb (label_of marks i) 1) refl)
      where
        and_swap : (x : Bool) → (true && x) ≡ (x && true)
        and_swap true = refl
        and_swap false = refl

        go : (b : Bool) → eqb (label_of marks i) 1 ≡ b → (acts c xs i && (b && not (held c marks i))) ≡ (acts c xs i && (not (has_one (pinned c) marks 1) && b))
        go false e = ap (λ (x : Bool). acts c xs i && x) (sym (and_no (not (has_one (pinned c) marks 1))))
        go true e =
            ap (λ (r : ℕ). acts c xs i && not (has_one (pinned c) marks r)) (eqb-true (label_of marks i) 1 e)
            ∙ ap (λ (x : Bool). acts c xs i && x) (and_swap (not (has_one (pinned c) marks 1)))

  -- ---- the pattern after the move at a member
  module _ (takers members grey : List ℕ) (i : ℕ) (below : i < t.n) (on : get_or members i 0 ≡ 1)
      (kept : is_cmr t.mode ≡ true → has_one (pinned c) members 1 ≡ false → grey ≡ greys)
      (none : is_cmr t.mode ≡ true → has_one (pinned c) members 1 ≡ true → grey ≡ 0 ∷ [])
    where
      abbrev P : Pattern
      P = pattern c xs t.reference

      abbrev f : Pattern
      f = pattern c xs i

      abbrev takes : Bool
      takes = not (has_one (pinned c) takers 1) && eqb (label_of takers i) 1

      -- a choice reads no grey number
      act_greys : (mode : Mode) (k : ℕ) → act_by mode (bare t) (choices_of choices greys) P 0 f k ≡ act_by mode (bare t) (choices_of choices grey) P 0 f k
      act_greys Houd k = refl
      act_greys Pair k = refl
      act_greys Perm k = refl
      act_greys Gperm k = refl
      act_greys Jorg k = refl
      act_greys Cmr k = refl

      acted : (b : Bool) (k : ℕ) → cond b (act_by t.mode c p P (label_of takers i) f k) (f k) ≡ acted_to t choices grey P b f k
      acted true k = act_any t choices one greys [] [] pins [] [] (label_of takers i) t.mode P f k ∙ act_greys t.mode k
      acted false k = refl

      after_is : (k : ℕ) → after c p xs takers i k ≡ acted_to t choices grey P (acts c xs i && takes) f k
      after_is k = rw (reached_is takers i) (acted (acts c xs i && takes) k)

      abbrev grey_free : Bool
      grey_free = not (has_one (pinned c) members 1)

      grey_here : (takes_greys c && reached c xs members i) ≡ (is_cmr t.mode && grey_free)
      grey_here =
          rw (reached_is members i, grown_greys t.form t.mode grows, eq-eqb (get_or members i 0) 1 on) (go (is_cmr t.mode) refl)
        where
          and_yes : (b : Bool) → (b && true) ≡ b
          and_yes true = refl
          and_yes false = refl

          go : (b : Bool) → is_cmr t.mode ≡ b → (b && (acts c xs i && (grey_free && true))) ≡ (b && grey_free)
          go false e = refl
          go true e = rw (cmr_acts c xs (is_cmr_lem t.mode e) i) (and_yes grey_free)

      -- the grey flips: of the grey number where no member is pinned, else none
      greyed_is : (h : Pattern) (k : ℕ)
          → cond (is_cmr t.mode && grey_free) (flip_some (grey_bit (grey_at t.form greys (label_of members i))) h k) (h k)
          ≡ cond (is_cmr t.mode) (flip_some (grey_bit (grey_at t.form grey 0)) h k) (h k)
      greyed_is h k = go (is_cmr t.mode) (has_one (pinned c) members 1) refl refl
        where
          go : (b x : Bool) → is_cmr t.mode ≡ b → has_one (pinned c) members 1 ≡ x
              → cond (b && not x) (flip_some (grey_bit (grey_at t.form greys (label_of members i))) h k) (h k)
              ≡ cond b (flip_some (grey_bit (grey_at t.form grey 0)) h k) (h k)
          go false x e q = refl
          go true false e q = rw (kept e q, grey_any t choices one greys [] [] pins [] [] (label_of members i))
          go true true e q = rw (none e q, one.first 0, none_flips k)

      final_is : (k : ℕ) → final c p xs takers members i k ≡ turned_to t choices grey P (acts c xs i && takes) f k
      unfolding final
      final_is k =
          rw (grey_here)
          (greyed_is (after c p xs takers i) k
          ∙ ap (λ (z : ℤ). cond (is_cmr t.mode) (flip_some (grey_bit (grey_at t.form grey 0)) (λ _. z) k) z) (after_is k))

      pub member_is : {gauge : ℕ} {free : Bool} → gauge ≡ gauge_of t.mode m (column_in t xs t.reference) → free ≡ not (has_one (pinned c) takers 1)
          → member_column t gauge xs choices grey (free && eqb (get_or takers i 0) 1) i ≡ column_of m (final c p xs takers members i)
      unfolding acts
      member_is {gauge} {free} eg ef =
          ap (λ (x : ℕ). member_column t x xs choices grey (free && eqb (get_or takers i 0) 1) i) eg
          ∙ (ap (λ (b : Bool). member_column t (gauge_of t.mode m (column_in t xs t.reference)) xs choices grey (b && eqb (get_or takers i 0) 1) i) ef
          ∙ (ap (λ (b : Bool). turned_column t (gauge_of t.mode m (column_in t xs t.reference)) choices grey (b && takes) (column_in t xs i))
          (column_acts_lem (sighted c p xs a) below refl refl)
          ∙ (turned_column_lem t choices grey chooses a.ranged.cmr_two P f (λ q k h. a.spins t.reference k (a.chosen.reference q) h)
          (λ k h. a.spins i k below h) (acts c xs i && takes)
          ∙ sym (column_ext m (final c p xs takers members i) _ (λ k h. final_is k)))))

  -- ---- so all members have the columns of the paper's patterns
  pub grown_leaves :
      {takers members blue grey area area' : List ℕ} {gauge : ℕ} {free : Bool} → takers ≡ takers_of t.mode members blue
      → (is_cmr t.mode ≡ true → has_one (pinned c) members 1 ≡ false → grey ≡ greys)
      → (is_cmr t.mode ≡ true → has_one (pinned c) members 1 ≡ true → grey ≡ 0 ∷ [])
      → gauge ≡ gauge_of t.mode m (column_in t xs t.reference)
      → free ≡ not (has_one (pinned c) takers 1)
      → Between members (λ i. member_column t gauge xs choices grey (free && eqb (get_or takers i 0) 1) i) 0 t.n area area'
      → GrownLeaves c p xs members blue area area'
  grown_leaves {takers} {members} {blue} {grey} is kept none eg ef b = record {
    long = b.long;
    chosen = λ i h on.
        b.marked i (omega arith) h on
        ∙ (member_is takers members grey i h on kept none eg ef ∙ ap (λ (l : List ℕ). column_of m (final c p xs l members i)) is);
    left = λ i off. b.left i (λ l h on. off on);
  }

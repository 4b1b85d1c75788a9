-- Line by line: what is still to be read makes a list just if the whole does, and with the same end.
use Prim.Native.Nat.{ℕ, ◌+◌, ◌-◌, ◌*◌, ◌≤◌, ◌<◌}
use mathlib.Core.Path.{◌≡◌, refl, sym, ◌∙◌, ap, subst}
use mathlib.Core.Bool.{Bool, true, false}
use mathlib.Core.List.{List, [], ◌∷◌, ◌++◌}
use native.Mathlib.Omega.{arith}
use native.Mathlib.Decide.{ℕ_discrete}
use borrow.Author.Tests.{eq-eqb, ne_eqb, eqb-true, eqb-false}
use lib.Dec.{eqb}
use lib.ListN.{length, get_or, drop, set, length-set, length-drop, drop_of_length-le}
use lib.Seq.{get_or-set_same, get_or-set_other}
use lib.IntN.{ℤ}
use Rattle.edge_text.specs.declared.Edge.{Edge}
use Rattle.edge_text.specs.Outcome.Line.{None}
use Rattle.edge_text.specs.Form.{lines_of, line_of}
use Rattle.edge_text.specs.Numbers.{same_line}
use Rattle.edge_text.specs.Reading.{LineAt, LineAs, code_of}
use Rattle.edges.specs.Bonds.{Cell, free, Lowest, put, Fills}
use Rattle.edges.specs.Fills.{lowest_unique, joins_sites}
use Rattle.edges.specs.Filling.{Celled, FoundAs, cell_code, Coded, LinesFrom, Readable, Filled, FilledAs}
use Rattle.edges.proofs.Codes.{cell_free}

-- ---- a bond that is found is the lowest free one
module _ {n d : ℕ} {fwd cells : List ℕ} {i j b : ℕ} (state : ℕ → Cell) (c : Coded (n * d) state cells) (f : FoundAs n d fwd cells i j b) where
  pub lowest_of : b < n * d → Lowest n d fwd state i j b
  lowest_of l = record {
    below = l;
    joins = f.joins l;
    is_free = cell_free (state b) (sym (c b l) ∙ f.is_free l);
    least = λ x q w g. f.least x q w (c x (omega arith) ∙ ap cell_code g);
  }

  pub none_of : b ≡ n * d → (x : ℕ) → Lowest n d fwd state i j x → ⊥
  none_of e x w = f.least x (let h = w.below in omega arith) w.joins (c x w.below ∙ ap cell_code w.is_free)

coded_put : (m : ℕ) (state : ℕ → Cell) (cells : List ℕ) (b : ℕ) (z : ℤ) (x : ℕ) → Coded m state cells → b < length cells → x ≡ code_of z
    → Coded m (put state b z) (set cells b x)
coded_put m state cells b z x c l e k h = at (ℕ_discrete k b)
  where
    at : Dec (k ≡ b) → get_or (set cells b x) k 0 ≡ cell_code (put state b z k)
    at (yes p) = rw (eq-eqb k b p, p) (get_or-set_same cells b x 0 l ∙ e)
    at (no p) = rw (ne_eqb k b p) (get_or-set_other cells b k x 0 p ∙ c k h)

pub record Going (n d : ℕ) (fwd text : List ℕ) (a m : ℕ) (before cells : List ℕ) (p k : ℕ) : Type 0 where
  pub long : length cells ≡ length before
  pub within : p ≤ length text
  pub left : ℕ
  pub sum : k + left ≡ m
  pub state : ℕ → Cell
  pub coded : Coded (n * d) state cells
  pub back : (end : ℕ → Cell) → LinesFrom n d fwd state (drop p text) left end → LinesFrom n d fwd (λ b. free) (drop a text) m end
  pub forth : (end : ℕ → Cell) → LinesFrom n d fwd (λ b. free) (drop a text) m end → LinesFrom n d fwd state (drop p text) left end

module _ {n d : ℕ} {fwd text : List ℕ} {a : ℕ} {before : List ℕ} (m : ℕ) (r : Readable n d fwd text a before) where
  pub going_none : Going n d fwd text a m before before a 0
  going_none = record {
    long = refl;
    within = r.place;
    left = m;
    sum = omega arith;
    state = λ b. free;
    coded = r.empty;
    back = λ end l. l;
    forth = λ end l. l;
  }

  module _ {cells : List ℕ} {p k : ℕ} (g : Going n d fwd text a m before cells p k) where
    pub celled : Celled n d fwd cells
    celled = record {
      n_high = r.celled.n_high;
      d_high = r.celled.d_high;
      fwd_long = r.celled.fwd_long;
      cells_long = let h = r.celled.cells_long in let q = g.long in omega arith;
    }

    module _ (more : k < m) where
      positive : 0 < g.left
      positive = let s = g.sum in omega arith

      -- no line stands here
      pub going_bad : LineAs text p n None → (end : ℕ → Cell) → LinesFrom n d fwd (λ b. free) (drop a text) m end → ⊥
      unfolding lines_of
      going_bad none end whole = let l = g.forth end whole in at l.list l.count l.text l.fills
        where
          at : (list : List Edge) → length list ≡ g.left → drop p text ≡ lines_of list → Fills n d fwd g.state list end → ⊥
          at [] c t f = let h = positive in omega arith
          at (e ∷ es) c t f =
              let s = joins_sites n d fwd r.bwd r.inverse e.from e.to f.0 f.1.below f.1.joins in
              none e (lines_of es) s.first s.second t

      module _ {i j x q b : ℕ} (line : LineAt text p n i j x q) (found : FoundAs n d fwd cells i j b) where
        abbrev edge : Edge
        edge = record { from = i; to = j; coupling = line.coupling }

        -- no bond is left for the line
        pub going_full : b ≡ n * d → (end : ℕ → Cell) → LinesFrom n d fwd (λ b. free) (drop a text) m end → ⊥
        unfolding lines_of
        going_full full end whole = let l = g.forth end whole in at l.list l.count l.text l.fills
          where
            at : (list : List Edge) → length list ≡ g.left → drop p text ≡ lines_of list → Fills n d fwd g.state list end → ⊥
            at [] c t f = let h = positive in omega arith
            at (e ∷ es) c t f =
                let s = same_line edge e (drop p text) (drop q text) (lines_of es) line.is t in
                let mine = subst (λ (y : Edge). Lowest n d fwd g.state y.from y.to f.0) (sym s.edge) f.1 in
                none_of g.state g.coded found full f.0 mine

        module _ (l : b < n * d) where
          abbrev next : ℕ → Cell
          next = put g.state b line.coupling

          lowest : Lowest n d fwd g.state i j b
          lowest = lowest_of g.state g.coded found l

          one_back : (end : ℕ → Cell) → LinesFrom n d fwd next (drop q text) (g.left - 1) end → LinesFrom n d fwd g.state (drop p text) g.left end
          unfolding lines_of
          one_back end f = record {
            list = edge ∷ f.list;
            count = let c = f.count in let h = positive in omega arith;
            text = line.is ∙ ap (λ (s : List ℕ). line_of edge ++ s) f.text;
            fills = (b, lowest, f.fills);
          }

          one_forth : (end : ℕ → Cell) → LinesFrom n d fwd g.state (drop p text) g.left end → LinesFrom n d fwd next (drop q text) (g.left - 1) end
          unfolding lines_of
          one_forth end w = at w.list w.count w.text w.fills
            where
              at : (list : List Edge) → length list ≡ g.left → drop p text ≡ lines_of list → Fills n d fwd g.state list end
                  → LinesFrom n d fwd next (drop q text) (g.left - 1) end
              at [] c t f = let h = positive in absurd (omega arith)
              at (e ∷ es) c t f =
                  let s = same_line edge e (drop p text) (drop q text) (lines_of es) line.is t in
                  let mine = subst (λ (y : Edge). Lowest n d fwd g.state y.from y.to f.0) (sym s.edge) f.1 in
                  let same = lowest_unique n d fwd g.state i j f.0 b mine lowest in
                  let to = subst (λ (y : Edge). Fills n d fwd (put g.state f.0 y.coupling) es end) (sym s.edge) f.2 in
                  record {
                    list = es;
                    count = let h = positive in omega arith;
                    text = s.behind;
                    fills = subst (λ (y : ℕ). Fills n d fwd (put g.state y line.coupling) es end) same to;
                  }

          pub going_more : Going n d fwd text a m before (set cells b x) q (k + 1)
          going_more = record {
            long = length-set cells b x ∙ g.long;
            within = line.within;
            left = g.left - 1;
            sum = let s = g.sum in let h = positive in omega arith;
            state = next;
            coded = coded_put (n * d) g.state cells b line.coupling x g.coded (let h = celled.cells_long in omega arith) line.code;
            back = λ end f. g.back end (one_back end f);
            forth = λ end f. one_forth end (g.forth end f);
          }

    -- after the last line
    module _ (done : m ≤ k) where
      none_left : g.left ≡ 0
      none_left = let s = g.sum in omega arith

      whole : p ≡ length text → Filled n d fwd (drop a text) m cells
      unfolding lines_of
      whole e = record {
        end = g.state;
        lines = g.back g.state (record { list = []; count = sym none_left; text = drop_of_length-le text {i = p} (omega arith); fills = refl });
        coded = g.coded;
      }

      behind : (p ≡ length text → ⊥) → (end : ℕ → Cell) → LinesFrom n d fwd (λ b. free) (drop a text) m end → ⊥
      unfolding lines_of
      behind h end w = let l = g.forth end w in at l.list l.count l.text
        where
          at : (list : List Edge) → length list ≡ g.left → drop p text ≡ lines_of list → ⊥
          at [] c t = h (let q = g.within in omega (arith, ap (length {A = ℕ}) t, length-drop p text))
          at (e ∷ es) c t = let z = none_left in omega arith

      pub going_end : (t : Bool) → eqb p (length text) ≡ t → FilledAs n d fwd (drop a text) m t cells
      going_end true e = whole (eqb-true p (length text) e)
      going_end false e = behind (eqb-false p (length text) e)

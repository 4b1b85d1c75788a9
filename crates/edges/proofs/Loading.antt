-- The whole text, and the answer of reading: what each test adds, and which rule its failure breaks.
use Prim.Native.Nat.{ℕ, ◌*◌}
use mathlib.Core.Path.{◌≡◌, refl, sym, ◌∙◌, subst}
use mathlib.Core.Logic.{inl, inr}
use mathlib.Core.Bool.{Bool, true, false}
use mathlib.Core.List.{List, ◌++◌}
use lib.ListN.{length, drop}
use lib.IntN.{ℤ}
use Rattle.paper.specs.Refusal.Rules.{Sizes, Inverse, SmallCouplings}
use Rattle.lemmas.specs.Bools.{never}
use Rattle.edge_text.specs.Outcome.Number.{Bad}
use Rattle.edge_text.specs.Form.{head_of, lines_of}
use Rattle.edge_text.specs.Numbers.{begins, same_number, head_split}
use Rattle.edge_text.specs.Reading.{HeadAt, HeadAs}
use Rattle.edges.specs.Bonds.{Cell, free, table_of}
use Rattle.edges.specs.Fills.{fills_few}
use Rattle.edges.specs.Answer.{net_of, Exact, IsList, SmallList, ReadAnswers}
use Rattle.edges.specs.Determined.{cells_unique}
use Rattle.edges.specs.Filling.{FilledAs, LoadedAs, Loaded, SmallCodes, Decoded}
use Rattle.edges.proofs.Codes.{small_table, small_codes, table_of_lem}

module _ (n d : ℕ) (fwd text : List ℕ) where
  pub no_head : HeadAs text n (n * d) Bad → IsList n d fwd text → ⊥
  no_head f u = f (length u.list) (lines_of u.list) (fills_few n d fwd u.list (λ b. free) u.cells u.made.fills) u.made.is

  pub load_as : {m e : ℕ} (cells : List ℕ) → HeadAt text n (n * d) m e → (r : Bool) → FilledAs n d fwd (drop e text) m r cells → LoadedAs n d fwd text r cells
  load_as {m} {e} cells h true f = record {
    read = record {
      list = f.lines.list;
      cells = f.end;
      made = record { is = h.is ∙ (λ i. head_of n (sym f.lines.count i) ++ f.lines.text i); fills = f.lines.fills };
    };
    coded = f.coded;
  }
  load_as {m} {e} cells h false f =
      λ u.
      let whole = u.made.is ∙ head_split n (length u.list) (lines_of u.list) in
      let a = same_number refl (begins n 32 _ (h.is ∙ head_split n m (drop e text))) (begins n 32 _ whole) in
      let b = same_number refl (begins m 10 (drop e text) refl) (begins (length u.list) 10 (lines_of u.list) a.behind) in
      f u.cells (record { list = u.list; count = sym b.number; text = b.behind; fills = u.made.fills })

-- past `if !load(..) { .. }`
pub is_loaded : (n d : ℕ) (fwd text cells : List ℕ) (b : Bool) → b ≡ true → LoadedAs n d fwd text b cells → Loaded n d fwd text cells
is_loaded n d fwd text cells true e l = l
is_loaded n d fwd text cells false e l = never e

-- ---- the answer
module _ (n d : ℕ) (fwd bwd text : List ℕ) (js : List ℤ) where
  pub not_sized : (Sizes n d 1 → ⊥) → ReadAnswers (net_of n d fwd bwd) text js 1 js
  not_sized h = record { why = inl (h, refl); kept = refl }

  module _ (s : Sizes n d 1) where
    pub not_exact : (Exact (net_of n d fwd bwd) js → ⊥) → ReadAnswers (net_of n d fwd bwd) text js 2 js
    not_exact h = record { why = inr (s, inl (h, refl)); kept = refl }

    module _ (x : Exact (net_of n d fwd bwd) js) where
      pub not_inverse : (Inverse n d fwd bwd → ⊥) → ReadAnswers (net_of n d fwd bwd) text js 4 js
      not_inverse h = record { why = inr (s, inr (x, inl (h, refl))); kept = refl }

      module _ (v : Inverse n d fwd bwd) where
        pub no_list : (IsList n d fwd text → ⊥) → ReadAnswers (net_of n d fwd bwd) text js 13 js
        no_list h = record { why = inr (s, inr (x, inr (v, inl (h, refl)))); kept = refl }

        module _ (cells : List ℕ) (l : Loaded n d fwd text cells) where
          pub too_large : (SmallCodes (n * d) cells → ⊥) → ReadAnswers (net_of n d fwd bwd) text js 6 js
          too_large h = record { why = inr (s, inr (x, inr (v, inr (l.read, inl (large, refl))))); kept = refl }
            where
              large : SmallList n d fwd text → ⊥
              large f = h (small_codes (n * d) l.read.cells cells l.coded (f l.read.list l.read.cells l.read.made))

          pub all_read : (js' : List ℤ) → SmallCodes (n * d) cells → Decoded cells js js' → ReadAnswers (net_of n d fwd bwd) text js 0 js'
          all_read js' h c = record {
            valid = (s, (x, (v, (l.read, (small, tt)))));
            read = l.read;
            table = table_of_lem (n * d) l.read.cells cells l.coded js js' x.couplings_long h c;
          }
            where
              small : SmallList n d fwd text
              small list other made =
                  subst (λ (e : ℕ → Cell). SmallCouplings (table_of (n * d) e))
                  (cells_unique n d fwd text l.read (record { list = list; cells = other; made = made }))
                  (small_table (n * d) l.read.cells cells l.coded h)

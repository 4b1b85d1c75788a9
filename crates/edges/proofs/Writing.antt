-- The answer of writing: what each test adds, and which rule its failure breaks.
use Prim.Native.Nat.{ℕ, ◌+◌, ◌≤◌, ◌<◌}
use mathlib.Core.Path.{◌≡◌, refl, ◌∙◌, ap, subst}
use mathlib.Core.Logic.{inl, inr}
use mathlib.Core.List.{List, [], ◌∷◌, ◌++◌}
use native.Mathlib.Omega.{arith}
use lib.ListN.{length, drop, length-append}
use lib.Seq.{sets-eq}
use lib.IntN.{ℤ}
use Rattle.paper.specs.Refusal.Rules.{Sizes, Inverse, SmallCouplings}
use Rattle.edge_text.specs.declared.Edge.{Edge}
use Rattle.edge_text.specs.Form.{head_of, lines_of, text_of}
use Rattle.edge_text.specs.Writing.{Put, Long, put_both, put_long}
use Rattle.edges.specs.Cases.{Listing, Listing.Unlisted, Listing.Wrote}
use Rattle.edges.specs.Answer.{net_of, Exact, list_of, WriteAnswers}
use Rattle.edges.specs.Listing.{Tabled, ListRoom, Counted, Measured}

module _ (n d : ℕ) (fwd bwd : List ℕ) (js : List ℤ) (text : List ℕ) where
  abbrev list : List Edge
  list = list_of (net_of n d fwd bwd) js

  abbrev Answered : Listing → List ℕ → Type 0
  Answered r after = WriteAnswers (net_of n d fwd bwd) js text r after

  pub not_sized : (Sizes n d 1 → ⊥) → Answered (Unlisted 1) text
  not_sized h = record { why = inl (h, refl); kept = refl }

  module _ (s : Sizes n d 1) where
    pub not_exact : (Exact (net_of n d fwd bwd) js → ⊥) → Answered (Unlisted 2) text
    not_exact h = record { why = inr (s, inl (h, refl)); kept = refl }

    module _ (x : Exact (net_of n d fwd bwd) js) where
      pub not_inverse : (Inverse n d fwd bwd → ⊥) → Answered (Unlisted 4) text
      not_inverse h = record { why = inr (s, inr (x, inl (h, refl))); kept = refl }

      module _ (v : Inverse n d fwd bwd) where
        pub not_small : (SmallCouplings js → ⊥) → Answered (Unlisted 6) text
        not_small h = record { why = inr (s, inr (x, inr (v, inl (h, refl)))); kept = refl }

        module _ (j : SmallCouplings js) where
          pub tabled : Tabled n d fwd js
          tabled = record {
            n_high = s.n_high;
            d_low = s.d_low;
            d_high = s.d_high;
            fwd_long = x.fwd_long;
            js_long = x.couplings_long;
            bwd = bwd;
            inverse = v;
            small = j;
          }

          module _ (m h b : ℕ) (c : Counted list m) (l : Long (head_of n m) 16 h) (w : Measured list b) where
            pub size_is : length (text_of n list) ≡ h + b
            size_is =
                let e = length-append (head_of n (length list)) (lines_of list) in
                let q = ap (λ (k : ℕ). length (head_of n k)) c.is in
                omega (arith, l.bytes, w.is)

            pub no_room : length text < h + b → Answered (Unlisted 2) text
            no_room f = record { why = inr (s, inr (x, inr (v, inr (j, inl ((λ g. omega (arith, size_is, g, f)), refl))))); kept = refl }

            module _ (f : h + b ≤ length text) where
              pub head_fits : length (head_of n m) ≤ length text
              head_fits = omega (arith, l.bytes)

              pub list_room : {a : ℕ} {mid : List ℕ} → Put (head_of n m) text 0 a mid → ListRoom n d fwd js a (length mid)
              list_room p = record { tabled = tabled; fits = omega (arith, p.next, put_long p, l.bytes, w.is) }

              pub wrote : {a r : ℕ} {mid after : List ℕ} → Put (head_of n m) text 0 a mid → Put (lines_of list) mid a r after → Answered (Wrote r) after
              wrote {a} {r} {mid} {after} p q = at (subst (λ (k : ℕ). Put (head_of n k ++ lines_of list) text 0 r after) c.is (put_both p q))
                where
                  fits : length (text_of n list) ≤ length text
                  fits = omega (arith, size_is)

                  at : Put (text_of n list) text 0 r after → Answered (Wrote r) after
                  at u = record {
                    valid = (s, (x, (v, (j, (fits, tt)))));
                    told = let e : r ≡ length (text_of n list) = let k = u.next in omega arith in ap (λ (y : ℕ). y ∷ []) e;
                    is =
                        let z : 0 + length (text_of n list) ≡ length (text_of n list) = omega arith in
                        u.is ∙ (sets-eq (text_of n list) text 0 (omega (arith, fits)) ∙ ap (λ (k : ℕ). text_of n list ++ drop k text) z);
                  }

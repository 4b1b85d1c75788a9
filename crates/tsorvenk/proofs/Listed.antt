-- The returned number stands for what became of the list.
use Prim.Native.Nat.{ℕ}
use mathlib.Core.Path.{◌≡◌, refl, subst}
use mathlib.Core.Logic.{inl, inr}
use mathlib.Core.List.{List}
use lib.ListN.{length, set}
use lib.IntN.{ℤ}
use Rattle.paper.specs.Refusal.Rule.{Broken}
use Rattle.paper.specs.Refusal.Rules.{Sizes}
use Rattle.edges.specs.Cases.{Listing, Listing.Unlisted, Listing.Wrote}
use Rattle.edges.specs.Answer.{Net, write_rules, WriteAnswers}
use Rattle.tsorvenk.specs.Edges.{lists, list_rules, ListNumbers}
use Rattle.tsorvenk.proofs.Told.{one_set}

module _ (g : Net) (js : List ℤ) (text ws : List ℕ) where
  pub list_no_sizes : (Sizes g.n g.d 1 → ⊥) → ListNumbers g js (lists text ws) 1 (lists text ws)
  list_no_sizes n = record { answer = Unlisted 1; allowed = record { why = inl (n, refl); kept = refl }; number = refl }

  pub list_no_place : Sizes g.n g.d 1 → (length ws ≡ 1 → ⊥) → ListNumbers g js (lists text ws) 2 (lists text ws)
  list_no_place z n = record { answer = Unlisted 2; allowed = record { why = inr (z, inl (n, refl)); kept = refl }; number = refl }

  placed : (c : ℕ) → length ws ≡ 1 → Broken (write_rules g js text) c → Broken (list_rules g js (lists text ws)) c
  placed c l (inl w) = inl w
  placed c l (inr w) = inr (w.0, inr (l, inr w))

  module _ {a : Listing} (k : ℕ) (text' : List ℕ) (l : length ws ≡ 1) where
    pub not_listed : a ≡ Unlisted k → WriteAnswers g js text a text' → ListNumbers g js (lists text ws) k (lists text' ws)
    not_listed e v =
        let w = subst (λ (z : Listing). WriteAnswers g js text z text') e v in
        record { answer = Unlisted k; allowed = record { why = placed k l w.why; kept = λ i. lists (w.kept i) ws }; number = refl }

    pub list_wrote : a ≡ Wrote k → WriteAnswers g js text a text' → ListNumbers g js (lists text ws) 0 (lists text' (set ws 0 k))
    list_wrote e v =
        let w = subst (λ (z : Listing). WriteAnswers g js text z text') e v in
        record { answer = Wrote k; allowed = record { room = l; writes = w; length_told = one_set ws k l }; number = refl }

-- Two places that may both have come from one.
use Rattle.std.specs.Prelude.{ℕ, ◌<◌, ◌≡◌, true, List, length}
use Rattle.std.proofs.Common.{sym, ◌∙◌}
use Rattle.paper.specs.Component.Sizes.{label_of}
use Rattle.matching.specs.Fitting.{Square}
use Rattle.matching.specs.Explain.{allowed}
use Rattle.matching.specs.Allowed.{Comes, ComesAt, allowed_is, is_allowed}

comes_square : (old new pin k l i j : ℕ) → Comes old new pin k i → Comes old new pin k j → Comes old new pin l i → Comes old new pin l j
comes_square old new pin k l i j a b c = record {
  shows = b.shows ∙ (sym a.shows ∙ c.shows);
  stays = λ p. b.stays p ∙ (sym (a.stays p) ∙ c.stays p);
}

pub allowed_square : (m gauge : ℕ) (olds news labels pins : List ℕ) (r : ℕ) → Square m (allowed gauge olds news labels pins r)
allowed_square m gauge olds news labels pins r k l i j hk hl hi hj a b c =
    is_allowed gauge olds news labels pins r l j (λ s h q. comes_square _ _ _ k l i j (at k i a s h q) (at k j b s h q) (at l i c s h q))
  where
    at : (k j : ℕ) → allowed gauge olds news labels pins r k j ≡ true → (s : ℕ) → s < length olds → label_of labels s ≡ r
        → ComesAt gauge olds news labels pins r k j s
    at = allowed_is gauge olds news labels pins r

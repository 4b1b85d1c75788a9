-- Neighbour tables: their cells, and that one sense of being inverse gives the other.
use Rattle.std.specs.Prelude.{ℕ, ◌+◌, ◌*◌, ◌≤◌, ◌<◌, ◌≡◌, List, eqb, length}
use Rattle.std.proofs.Math.Path.{sym, ap}
use Rattle.std.proofs.Common.{◌∙◌, arith}
use Rattle.std.proofs.Math.ListN.{get_or}
use Rattle.lemmas.specs.Places.{Placed}
use Rattle.lemmas.specs.Tells.{Test, same, test_eq}
use Rattle.paper.specs.Refusal.Rules.{Back, Inverse, Permutes}
use Rattle.laws.specs.Permuted.{onto}

-- both tables have an entry for each bond
pub record Tabled (n d : ℕ) (fwd bwd : List ℕ) : Type 0 where
  pub fwd_long : length fwd ≡ n * d
  pub bwd_long : length bwd ≡ n * d

pub record TabledSite (n d : ℕ) (fwd bwd : List ℕ) (i : ℕ) : Type 0 where
  pub tables : Tabled n d fwd bwd
  pub site : i < n

pub record TabledBond (n d : ℕ) (fwd bwd : List ℕ) (i e : ℕ) : Type 0 where
  pub tables : Tabled n d fwd bwd
  pub site : i < n
  pub way : e < d

-- in the sense there alone: b leads back from each neighbour by a
abbrev pub LeadsBack : ℕ → ℕ → List ℕ → List ℕ → Type 0
LeadsBack n d a b = (i e : ℕ) → i < n → e < d → Back n d a b i e

-- then the neighbours in one direction are all different, so they are all sites, and a leads back from each neighbour by b
module _ (n d : ℕ) (a b : List ℕ) (h : LeadsBack n d a b) (e : ℕ) (he : e < d) where
  neighbour : ℕ → ℕ
  neighbour i = get_or a (i * d + e) 0

  permutes : Permutes n neighbour
  unfolding neighbour
  permutes = record {
    within = λ i l. (h i e l he).inside;
    distinct = λ i j li lj q. sym (h i e li he).home ∙ (ap (λ (x : ℕ). get_or b (x * d + e) 0) q ∙ (h j e lj he).home);
  }

  other_sense : (j : ℕ) → Placed n neighbour j → Back n d b a j e
  unfolding neighbour
  other_sense j r =
      let to : get_or b (j * d + e) 0 ≡ r.0 = ap (λ (x : ℕ). get_or b (x * d + e) 0) r.2 ∙ (h r.0 e r.1 he).home in
      record { inside = rw to r.1; home = rw to (sym r.2) }

  pub turned : (j : ℕ) → j < n → Back n d b a j e
  turned j l = other_sense j (onto n neighbour permutes j l)

pub inverse_of : (n d : ℕ) (a b : List ℕ) → LeadsBack n d a b → Inverse n d a b
inverse_of n d a b h = record { there = h; here = λ j e l he. turned n d a b h e he j l }

-- ---- the test of one bond: j is the neighbour that is read, and k the way back from it
module _ (n d : ℕ) (a b : List ℕ) (i e : ℕ) {j : ℕ} (is-j : j ≡ get_or a (i * d + e) 0) where
  pub back_test : {k : ℕ} → j < n → k ≡ get_or b (j * d + e) 0 → Test (eqb k i) (Back n d a b i e)
  back_test {k} l is_k =
      let to : k ≡ get_or b (get_or a (i * d + e) 0 * d + e) 0 = is_k ∙ ap (λ (x : ℕ). get_or b (x * d + e) 0) is-j in
      same (Back n d a b i e) (λ q. record { inside = rw (← is-j) l; home = sym to ∙ q }) (λ w. to ∙ w.home) (test_eq k i)

  pub back_none : n ≤ j → Back n d a b i e → ⊥
  back_none l w = omega (arith, is-j, w.inside)

-- One turn of the loops that draw in order, and of those that write what is drawn.
use Rattle.std.proofs.Common.{◌≡◌, ℕ, ◌+◌, ◌<◌, ◌≤◌, List, length, get_or, set, sym, refl, ap, ◌∙◌, subst, add-one, arith, length-set, get_or-set_other, get_or-set_same, below_more}
use native.Mathlib.Decide.{ℕ_discrete}
use Rattle.draws.specs.declared.Source.{Source}
use Rattle.draws.specs.Fill.{stop, Goes, Written}
use Rattle.draws.specs.Writing.{DrawnTo, DrawnInto}

-- i draws have been made from s, which leave t
pub record Stopped (leaves : Source → Source) (i : ℕ) (s t : Source) : Type 0 where
  pub is : t ≡ stop leaves i s

module _ {leaves : Source → Source} {s : Source} where
  pub stop_none : Stopped leaves 0 s s
  unfolding stop
  stop_none = record { is = refl }

  pub stop_more : {i : ℕ} {t : Source} (u : Source) → Stopped leaves i s t → u ≡ leaves t → Stopped leaves (i + 1) s u
  unfolding stop
  stop_more {i} u h e = record { is = rw add-one (e ∙ ap leaves h.is) }

-- so far none is refused
module _ (refusal : Source → ℕ) {leaves : Source → Source} {s : Source} where
  pub goes_more : {i : ℕ} {t : Source} → Goes refusal leaves i s → Stopped leaves i s t → refusal t ≡ 0 → Goes refusal leaves (i + 1) s
  goes_more {i} g h e = below_more (λ (k : ℕ). refusal (stop leaves k s) ≡ 0) i g (subst (λ (x : Source). refusal x ≡ 0) h.is e)

  pub goes_not : {i n : ℕ} {t : Source} → Stopped leaves i s t → i < n → (refusal t ≡ 0 → ⊥) → Goes refusal leaves n s → ⊥
  goes_not {i} h l e g = e (subst (λ (x : Source). refusal x ≡ 0) (sym h.is) (g i l))

-- one more place of those that take what is drawn for them
module _ {T : Type 0} {Draws : Source → T × Source → Type 0} {s : Source} {xs : List T} where
  pub drawn_none : DrawnTo Draws 0 s xs s xs
  unfolding stop
  drawn_none = record { long = refl; drawn = λ value leaves h. (refl, λ j d l. absurd (omega arith)) }

  pub drawn_more :
      {i : ℕ} {u : Source} {ys : List T} (r : T × Source) → DrawnTo Draws i s xs u ys → i < length xs → Draws u r
      → DrawnTo Draws (i + 1) s xs r.1 (set ys i r.0)
  unfolding stop
  drawn_more {i} {u} {ys} r was l k = record {
    long = simp length-set was.long;
    drawn = λ value leaves h. (
      rw add-one ((h u r k).1 ∙ ap leaves (was.drawn value leaves h).0),
      λ j d m. at value leaves h j d m (ℕ_discrete j i),
    );
  }
    where
      at :
          (value : Source → T) (leaves : Source → Source) (h : (t : Source) (q : T × Source) → Draws t q → (q.0 ≡ value t) × (q.1 ≡ leaves t)) (j : ℕ) (d : T)
          → j < i + 1 → Dec (j ≡ i) → get_or (set ys i r.0) j d ≡ value (stop leaves j s)
      at value leaves h j d m (yes e) =
          rw (e, get_or-set_same ys i r.0 d (omega (arith, was.long))) ((h u r k).0 ∙ ap value (was.drawn value leaves h).0)
      at value leaves h j d m (no e) = get_or-set_other ys i j r.0 d e ∙ (was.drawn value leaves h).1 j d (omega arith)

-- numbers that are drawn so
pub written_by :
    {Draws : Source → ℕ × Source → Type 0} {s u : Source} {xs ys : List ℕ} (value : Source → ℕ) (leaves : Source → Source)
    → ((t : Source) (r : ℕ × Source) → Draws t r → (r.0 ≡ value t) × (r.1 ≡ leaves t)) → DrawnInto Draws s xs u ys
    → Written (λ j. value (stop leaves j s)) (stop leaves (length xs) s) xs u ys
written_by value leaves h w = let p = w.drawn value leaves h in record { long = w.long; each = λ j l. p.1 j 0 l; source = p.0 }

-- the first i places of n are written
pub record Filled (at : ℕ → ℕ) (i n : ℕ) (ys : List ℕ) : Type 0 where
  pub low : i ≤ n
  pub long : length ys ≡ n
  pub each : (j : ℕ) → j < i → get_or ys j 0 ≡ at j

pub fill_none : {at : ℕ → ℕ} (ys : List ℕ) → Filled at 0 (length ys) ys
fill_none ys = record { low = omega arith; long = refl; each = λ j l. absurd (omega arith) }

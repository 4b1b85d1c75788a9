-- Sums that grow: their sizes, and what one summand more makes of them.
use Prim.Native.Nat.{ℕ, ◌+◌, ◌≤◌, ◌<◌}
use mathlib.Core.Path.{◌≡◌, refl, sym, ◌∙◌, ap}
use mathlib.Core.List.{List}
use native.Mathlib.Omega.{arith}
use lib.ListN.{get_or, replicate, get_or-replicate}
use lib.IntN.{ℤ, pos, nat_abs, ◌+ℤ◌, +ℤ_assoc, +ℤ_idl, +ℤ_idr}
use Rattle.lemmas.specs.Ints.{abs_add}
use Rattle.lemmas.specs.Sums.{sum, sum_more}
use Rattle.totals.specs.Gain.{Added, Room, Sums}

pub room_after : {b m : ℕ} {f : ℕ → ℤ} {xs ys : List ℤ} (c : ℕ) → Room b m xs → Added m f xs ys → ((k : ℕ) → k < m → nat_abs (f k) ≤ c) → Room (b + c) m ys
room_after {b} {m} {f} {xs} {ys} c r a h = record {
  long = a.long ∙ r.long;
  few = r.few;
  small = λ k l. rw (a.each k l) (omega (arith, abs_add (get_or xs k (pos 0)) (f k), r.small k l, h k l));
}

pub room_within : {b b' m : ℕ} {xs : List ℤ} → Room b m xs → b ≤ b' → Room b' m xs
room_within r h = record { long = r.long; few = r.few; small = λ k l. omega (arith, r.small k l) }

pub added_none : {m : ℕ} {xs : List ℤ} (f : ℕ → ℕ → ℤ) → Added m (λ k. sum 0 (f k)) xs xs
unfolding sum
added_none f = record { long = refl; each = λ k l. sym (+ℤ_idr _) }

pub added_both :
    {m : ℕ} {f g : ℕ → ℤ} {xs ys zs : List ℤ} → Added m f xs ys → Added m g ys zs → Added m (λ k. f k +ℤ g k) xs zs
added_both {m} {f} {g} {xs} {ys} {zs} a b = record {
  long = b.long ∙ a.long;
  each = λ k l. b.each k l ∙ (ap (λ (z : ℤ). z +ℤ g k) (a.each k l) ∙ +ℤ_assoc (get_or xs k (pos 0)) (f k) (g k));
}

pub added_as : {m : ℕ} {f g : ℕ → ℤ} {xs ys : List ℤ} → Added m f xs ys → ((k : ℕ) → k < m → f k ≡ g k) → Added m g xs ys
added_as {m} {f} {g} {xs} {ys} a e = record { long = a.long; each = λ k l. a.each k l ∙ ap (λ (z : ℤ). get_or xs k (pos 0) +ℤ z) (e k l) }

pub added_more :
    {m e : ℕ} {xs ys zs : List ℤ} (f : ℕ → ℕ → ℤ) → Added m (λ k. sum e (f k)) xs ys → Added m (λ k. f k e) ys zs → Added m (λ k. sum (e + 1) (f k)) xs zs
added_more {e = e} f a b = added_as (added_both a b) (λ k l. sym (sum_more (f k) e))

-- ---- sums that start from noughts

abbrev pub noughts : List ℤ
noughts = replicate 8 (pos 0)

nought : (k : ℕ) → k < 8 → get_or noughts k (pos 0) ≡ pos 0
nought k l = get_or-replicate 8 k (pos 0) (pos 0) l

pub room_noughts : {m : ℕ} → m ≤ 8 → Room 0 m noughts
room_noughts h = record { long = refl; few = h; small = λ k l. rw (nought k (omega arith)) (omega arith) }

pub sums_of : {m : ℕ} {f : ℕ → ℤ} {xs : List ℤ} → m ≤ 8 → Added m f noughts xs → Sums m f xs
sums_of {m} {f} h a = record {
  long = a.long;
  each = λ k l. a.each k l ∙ (ap (λ (z : ℤ). z +ℤ f k) (nought k (omega arith)) ∙ +ℤ_idl (f k));
}

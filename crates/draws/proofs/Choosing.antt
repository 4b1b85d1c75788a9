-- What a test tells, and what a range that was tested holds.
use Rattle.std.proofs.Common.{◌≡◌, ℕ, ◌≤◌, Bool, true, false, ◌&&◌, leb, sym, refl, ◌∙◌, arith, leb-true}
use Rattle.draws.specs.Draw.{Within}

-- of a test whose Bool r the code has: what it tells is v
pub so : {r v : Bool} (t : Bool) → r ≡ v → r ≡ t → v ≡ t
so t e h = sym e ∙ h

both_left : (a b : Bool) → (a && b) ≡ true → a ≡ true
both_left true b e = refl
both_left false b e = e

both_right : (a b : Bool) → (a && b) ≡ true → b ≡ true
both_right true b e = e
both_right false true e = refl
both_right false false e = e

pub within_low : (a b x : ℕ) → Within a b x → a ≤ x
within_low a b x h = leb-true a x (both_left (leb a x) (leb x b) h)

pub within_top : (a b x : ℕ) → Within a b x → x ≤ b
within_top a b x h = leb-true x b (both_right (leb a x) (leb x b) h)

pub clash : {v : Bool} → v ≡ true → v ≡ false → ⊥
clash {v} p q = let z : ◌≡◌ {A = ℕ} 0 1 = cc in omega arith

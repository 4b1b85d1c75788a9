-- Test 2 of a pair, as its comparisons give it.
use Prim.Native.Nat.{ℕ, ◌*◌}
use mathlib.Core.Bool.{◌&&◌}
use lib.Dec.{eqb}
use Rattle.lemmas.specs.Tells.{Tells, test_eq, both, same}
use Rattle.vendor.specs.declared.tested.Offer.{Offer}
use Rattle.vendor.specs.Offered.{Fitting}

pub fitting_tells :
    (n d m : ℕ) (l : Offer)
    → Tells (eqb l.before (m * n) && eqb l.after (m * n) && eqb l.fwd (n * d) && eqb l.bwd (n * d) && eqb l.pins n && eqb l.rows (n * m))
    (Fitting n d m l)
fitting_tells n d m l =
    (same (Fitting n d m l)
    (λ h. record { before = h.0.0.0.0.0; after = h.0.0.0.0.1; fwd = h.0.0.0.1; bwd = h.0.0.1; pins = h.0.1; rows = h.1 })
    (λ f. (((((f.before, f.after), f.fwd), f.bwd), f.pins), f.rows))
    (both (both (both (both (both (test_eq _ _) (test_eq _ _)) (test_eq _ _)) (test_eq _ _)) (test_eq _ _)) (test_eq _ _))
    ).says

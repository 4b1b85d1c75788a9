-- A bond so judged is the paper's: where the forward table leads from (i, e) to j it holds just if `holds`, and with `grey` in CMR `holds_grey`, says so.
use Rattle.std.specs.Prelude.{ℕ, suc, ◌+◌, ◌*◌, ◌≤◌, ◌<◌, ◌≡◌, refl, Bool, false, List, get_or, ℤ, Float}
use Rattle.std.proofs.Math.Bool.{true}
use Rattle.std.proofs.Common.{arith, mul-le-mul_right, suc-mul}
use Rattle.lemmas.specs.Bools.{never}
use Rattle.paper.specs.declared.Task.{Task}
use Rattle.paper.specs.declared.Mode.{Mode}
use Rattle.paper.specs.declared.Mode.TheVariants.{Houd, Pair, Perm, Gperm, Jorg, Cmr}
use Rattle.paper.specs.Panel.Input.{Choices, Buffers, member}
use Rattle.paper.specs.Panel.Made.{call_of}
use Rattle.paper.specs.Panel.Takes.{is_gperm, is_cmr}
use Rattle.paper.specs.Site.Acting.{acts}
use Rattle.paper.specs.Site.Bonds.{holds_by, holds, holds_grey}
use Rattle.paper.specs.Refusal.Kept.{named, Sound}
use Rattle.columns.specs.Column.{Inside}
use Rattle.judge.specs.declared.Rule.{Rule}
use Rattle.judge.specs.Judged.{Growable, Prepared, Ready, judged_by, judged}

module _ (t : Task) (fwd bwd pins : List ℕ) (js : List ℤ) (cuts : List Float) (xs : List ℤ) (i e j : ℕ) (leads : get_or fwd (i * t.d + e) 0 ≡ j) where
  by_mode : (m : Mode) → judged_by m t false xs js cuts i e j ≡ holds_by m (call_of t fwd bwd pins js cuts) xs i e
  unfolding acts
  by_mode Houd = rw leads
  by_mode Pair = rw leads
  by_mode Perm = rw leads
  by_mode Gperm = rw leads
  by_mode Jorg = rw leads
  by_mode Cmr = rw leads

  pub judged_holds : judged t false xs js cuts i e j ≡ holds (call_of t fwd bwd pins js cuts) xs i e
  unfolding judged holds
  judged_holds = by_mode t.mode

  pub judged_grey : is_cmr t.mode ≡ true → judged t true xs js cuts i e j ≡ holds_grey (call_of t fwd bwd pins js cuts) xs i e
  unfolding judged holds_grey
  judged_grey q = go t.mode q
    where
      go : (m : Mode) → is_cmr m ≡ true → judged_by m t true xs js cuts i e j ≡ holds_grey (call_of t fwd bwd pins js cuts) xs i e
      go Houd q = never q
      go Pair q = never q
      go Perm q = never q
      go Gperm q = never q
      go Jorg q = never q
      go Cmr q = rw leads

-- an accepted call's panel can be grown on
pub growable :
    (t : Task) (fwd bwd pins : List ℕ) (js : List ℤ) (cuts : List Float) (p : Choices) (b : Buffers)
    → Sound (call_of t fwd bwd pins js cuts) p b → (is_gperm t.mode ≡ true → t.reference < t.n)
    → Growable t b.spins js cuts
growable t fwd bwd pins js cuts p b s site = record {
  panel = record {
    n_high = s.ranged.lattice.n_high;
    size_low = omega (arith, s.ranged.size_low);
    size_high = s.ranged.size_high;
    inside = inside;
    spins = λ i k hi hk. s.spins (member t.group k) i (named k hk s.grouped) hi;
    reference = site;
  };
  directions = s.ranged.lattice.d_high;
  two = s.ranged.cmr_two;
  coupled = λ q. record { couplings_long = s.exact.couplings q; cuts_long = s.exact.cuts q; small = s.couplings q };
}
  where
    inside : Inside t.n t.group b.spins
    inside k h =
        let below : suc (member t.group k) ≤ t.s = s.grouped.below k h in
        omega (arith, s.exact.spins, mul-le-mul_right t.n below, suc-mul (member t.group k) t.n)

-- and a rule prepared on it is ready
pub ready : {t : Task} {grey : Bool} {xs js : List ℤ} {cuts : List Float} {r : Rule} → Growable t xs js cuts → Prepared t grey xs r → Ready r xs js cuts
ready g p = record {
  growable = rw p.task g;
  prepared = record { task = refl; grey = refl; sampler = rw p.task p.sampler; gauge = rw p.task p.gauge };
}

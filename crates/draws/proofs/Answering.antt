-- A fill of a buffer of one.
use Rattle.std.proofs.Common.{◌≡◌, ℕ, List, length, get_or, set, ap, arith, length-set, get_or-set_same}
use Rattle.draws.specs.declared.Source.{Source}
use Rattle.draws.specs.Answer.{Drawn}
use Rattle.draws.specs.Fill.{stop, go_on, number_at, Written}

-- a buffer of one, into which one draw goes
pub one_written :
    (d : Source → Drawn) (s : Source) (xs : List ℕ) (x : Drawn) → length xs ≡ 1 → x ≡ d s
    → Written (number_at d s) (stop (go_on d) (length xs) s) xs x.source (set xs 0 x.value)
unfolding stop
one_written d s xs x one e = record {
  long = simp length-set;
  each = λ j l. first j (omega arith);
  source = rw one (ap (λ (r : Drawn). r.source) e);
}
  where
    first : (j : ℕ) → j ≡ 0 → get_or (set xs 0 x.value) j 0 ≡ number_at d s j
    first j z = rw (z, get_or-set_same xs 0 x.value 0 (omega arith)) (ap (λ (r : Drawn). r.value) e)

-- The tasks of a sweep that take steps: those that are not masked. Each is listed once.
use Rattle.std.specs.Prelude.{ℕ, zero, suc, ◌+◌, ◌≤◌, ◌<◌, ◌≡◌, refl, Bool, true, false, cond, List, [], ◌∷◌}
use Rattle.std.proofs.Common.{sym, ◌∙◌, ap, subst, inl, inr, arith}
use Rattle.std.proofs.Math.Decide.{ℕ_discrete}
use Rattle.lemmas.specs.Bools.{never}
use Rattle.paper.specs.Answer.Task.{Sweep, tasks, masked}
use Rattle.any_order.specs.Schedule.{Key, In, Apart}

abbrev pub key : ℕ → ℕ → Key
key team k = record { team = team; task = k }

-- of the m tasks from k on those that are not masked, ascending
abbrev pub unmasked_from : ℕ → Sweep → ℕ → ℕ → List Key
unmasked_from team w zero k = []
unmasked_from team w (suc m) k = cond (masked w k) (unmasked_from team w m (suc k)) (key team k ∷ unmasked_from team w m (suc k))

abbrev pub unmasked_tasks : ℕ → Sweep → List Key
unmasked_tasks team w = unmasked_from team w (tasks w) 0

-- the tasks that take steps, where the tests of the sweep answer the number: a refused sweep has none
abbrev pub stepping : ℕ → ℕ → Sweep → List Key
stepping zero team w = unmasked_tasks team w
stepping (suc r) team w = []

-- ---- what is listed
pub record Unmasked (team : ℕ) (w : Sweep) (q : Key) : Type 0 where
  pub is : q ≡ key team q.task
  pub below : q.task < tasks w
  pub unmasked : masked w q.task ≡ false

record Among (team : ℕ) (w : Sweep) (m k : ℕ) (q : Key) : Type 0 where
  pub is : q ≡ key team q.task
  pub from : k ≤ q.task
  pub below : q.task < k + m
  pub unmasked : masked w q.task ≡ false

module _ (team : ℕ) (w : Sweep) where
  among : (q : Key) (m k : ℕ) → In q (unmasked_from team w m k) → Among team w m k q
  among q zero k h = absurd h
  among q (suc m) k h = go (masked w k) refl h (among q m (suc k))
    where
      one : masked w k ≡ false → Among team w (suc m) k (key team k)
      one f = record { is = refl; from = omega arith; below = omega arith; unmasked = f }

      go :
          (t : Bool)
          → masked w k ≡ t
          → In q (cond t (unmasked_from team w m (suc k)) (key team k ∷ unmasked_from team w m (suc k)))
          → (In q (unmasked_from team w m (suc k)) → Among team w m (suc k) q)
          → Among team w (suc m) k q
      go true f l ih = let a = ih l in record { is = a.is; from = omega (arith, a.from); below = omega (arith, a.below); unmasked = a.unmasked }
      go false f (inl e) ih = subst (Among team w (suc m) k) (sym e) (one f)
      go false f (inr l) ih = let a = ih l in record { is = a.is; from = omega (arith, a.from); below = omega (arith, a.below); unmasked = a.unmasked }

  pub listed_is : (q : Key) → In q (unmasked_tasks team w) → Unmasked team w q
  listed_is q h = let a = among q (tasks w) 0 h in record { is = a.is; below = omega (arith, a.below); unmasked = a.unmasked }

  from_apart : (m k : ℕ) → Apart (unmasked_from team w m k)
  from_apart zero k = tt
  from_apart (suc m) k = go (masked w k) (from_apart m (suc k))
    where
      later : In (key team k) (unmasked_from team w m (suc k)) → ⊥
      later l = absurd (omega (arith, (among (key team k) m (suc k) l).from))

      go : (t : Bool) → Apart (unmasked_from team w m (suc k)) → Apart (cond t (unmasked_from team w m (suc k)) (key team k ∷ unmasked_from team w m (suc k)))
      go true ih = ih
      go false ih = (later, ih)

  from_in : (m k j : ℕ) → k ≤ j → j < k + m → masked w j ≡ false → In (key team j) (unmasked_from team w m k)
  from_in zero k j l h e = absurd (omega arith)
  from_in (suc m) k j l h e = go (masked w k) refl (ℕ_discrete j k) (λ n. from_in m (suc k) j n (omega arith) e)
    where
      go :
          (t : Bool)
          → masked w k ≡ t
          → Dec (j ≡ k)
          → (suc k ≤ j → In (key team j) (unmasked_from team w m (suc k)))
          → In (key team j) (cond t (unmasked_from team w m (suc k)) (key team k ∷ unmasked_from team w m (suc k)))
      go true f (yes q) ih = never (sym e ∙ (ap (masked w) q ∙ f))
      go true f (no q) ih = ih (omega arith)
      go false f (yes q) ih = inl (ap (key team) q)
      go false f (no q) ih = inr (ih (omega arith))

  pub tasks_listed : (k : ℕ) → k < tasks w → masked w k ≡ false → In (key team k) (unmasked_tasks team w)
  tasks_listed k h e = from_in (tasks w) 0 k (omega arith) (omega arith) e

  pub tasks_once : Apart (unmasked_tasks team w)
  tasks_once = from_apart (tasks w) 0

  -- and so with those that take steps
  pub stepping_once : (r : ℕ) → Apart (stepping r team w)
  stepping_once zero = tasks_once
  stepping_once (suc r) = tt

  pub stepping_is : (r : ℕ) (q : Key) → In q (stepping r team w) → Unmasked team w q
  stepping_is zero q h = listed_is q h
  stepping_is (suc r) q h = absurd h

  pub stepping_none : (r : ℕ) → 0 < r → (q : Key) → In q (stepping r team w) → ⊥
  stepping_none zero some q h = absurd (omega arith)
  stepping_none (suc r) some q h = h

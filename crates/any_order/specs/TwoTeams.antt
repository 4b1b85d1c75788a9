-- The steps of two teams' sweeps, mixed in any order that keeps each task's own: each team's tasks do their three steps alone, and
-- those of a refused sweep hold what they held.
use Rattle.std.specs.Prelude.{ℕ, ◌<◌, ◌≡◌, refl, ◌⊎◌, Bool, false, cond, List, [], ◌∷◌, ◌++◌, eqb}
use Rattle.std.proofs.Common.{sym, ◌∙◌, ap, subst, inl, inr, ⊎_elim, eq-eqb, ne_eqb}
use Rattle.paper.specs.Answer.Task.{Sweep, tasks, masked}
use Rattle.paper.specs.Answer.Team.{Team, read_sweep}
use Rattle.laws.specs.Isolated.{OtherTeam}
use Rattle.any_order.specs.Schedule.{Key, Turn, Steps, Run, Alone, In, Apart, Ordered}
use Rattle.any_order.specs.Commute.{each_alone, others_untouched}
use Rattle.any_order.specs.Tasks.{Holding, DoesFor}
use Rattle.any_order.specs.Unmasked.{key, stepping, tasks_listed, stepping_once, stepping_is, stepping_none}

-- a team's steps are those of its own sweep
abbrev pub TwoSteps : ℕ → Bool → Sweep → Bool → Sweep → Steps Holding
TwoSteps team keeping w keeping' x q = cond (eqb q.team team) (DoesFor keeping w q.task) (DoesFor keeping' x q.task)

-- the tasks of both that take steps, where the tests of their sweeps answer the numbers r and r'
abbrev pub both_stepping : ℕ → Team → Sweep → ℕ → Team → Sweep → List Key
both_stepping r o w r' e x = stepping r o.team (read_sweep o w) ++ stepping r' e.team (read_sweep e x)

abbrev pub both_tasks : Team → Sweep → Team → Sweep → List Key
both_tasks o w e x = both_stepping 0 o w 0 e x

-- ---- each of them stands once
in_left : (q : Key) (ks js : List Key) → In q ks → In q (ks ++ js)
in_left q (k ∷ ks) js (inl e) = inl e
in_left q (k ∷ ks) js (inr h) = inr (in_left q ks js h)
in_left q [] js h = elim h [ ]

in_right : (q : Key) (ks js : List Key) → In q js → In q (ks ++ js)
in_right q [] js h = h
in_right q (k ∷ ks) js h = inr (in_right q ks js h)

pub in_either : (q : Key) (ks js : List Key) → In q (ks ++ js) → In q ks ⊎ In q js
in_either q [] js h = inr h
in_either q (k ∷ ks) js (inl e) = inl (inl e)
in_either q (k ∷ ks) js (inr h) = ⊎_elim (λ l. inl (inr l)) (λ r. inr r) (in_either q ks js h)

all_apart : (ks js : List Key) → Apart ks → Apart js → ((q : Key) → In q ks → In q js → ⊥) → Apart (ks ++ js)
all_apart [] js a c n = c
all_apart (k ∷ ks) js a c n =
    ((λ h. ⊎_elim a.0 (n k (inl refl)) (in_either k ks js h)), all_apart ks js a.1 c (λ q h. n q (inr h)))

-- ---- each team's tasks do their three steps alone
module _ (o e : Team) (other : OtherTeam o e) (w x : Sweep) (r r' : ℕ) where
  both_once : Apart (both_stepping r o w r' e x)
  both_once =
      all_apart (stepping r o.team (read_sweep o w)) (stepping r' e.team (read_sweep e x)) (stepping_once o.team (read_sweep o w) r)
      (stepping_once e.team (read_sweep e x) r')
      (λ q h l. other.other
      (ap (λ (z : Key). z.team) (sym (stepping_is e.team (read_sweep e x) r' q l).is ∙ (stepping_is o.team (read_sweep o w) r q h).is)))

  module _
      (keeping keeping' : Bool) (xs : List Turn) (st st' : Key → Holding) (ordered : Ordered (both_stepping r o w r' e x) xs)
      (run : Run (TwoSteps o.team keeping (read_sweep o w) keeping' (read_sweep e x)) xs st st')
    where
      pub ours : r ≡ 0 → (k : ℕ) → k < tasks w → masked w k ≡ false → Alone (DoesFor keeping (read_sweep o w) k) (st (key o.team k)) (st' (key o.team k))
      ours z k h q =
          subst
          (λ (t : Bool). Alone (cond t (DoesFor keeping (read_sweep o w) k) (DoesFor keeping' (read_sweep e x) k)) (st (key o.team k))
          (st' (key o.team k)))
          (eq-eqb o.team o.team refl)
          (each_alone (both_stepping r o w r' e x) xs both_once ordered run (key o.team k)
          (in_left (key o.team k) (stepping r o.team (read_sweep o w)) (stepping r' e.team (read_sweep e x))
          (subst (λ (n : ℕ). In (key o.team k) (stepping n o.team (read_sweep o w))) (sym z) (tasks_listed o.team (read_sweep o w) k h q))))

      pub theirs :
          r' ≡ 0 → (k : ℕ) → k < tasks x → masked x k ≡ false → Alone (DoesFor keeping' (read_sweep e x) k) (st (key e.team k)) (st' (key e.team k))
      theirs z k h q =
          subst
          (λ (t : Bool). Alone (cond t (DoesFor keeping (read_sweep o w) k) (DoesFor keeping' (read_sweep e x) k)) (st (key e.team k))
          (st' (key e.team k)))
          (ne_eqb e.team o.team other.other)
          (each_alone (both_stepping r o w r' e x) xs both_once ordered run (key e.team k)
          (in_right (key e.team k) (stepping r o.team (read_sweep o w)) (stepping r' e.team (read_sweep e x))
          (subst (λ (n : ℕ). In (key e.team k) (stepping n e.team (read_sweep e x))) (sym z) (tasks_listed e.team (read_sweep e x) k h q))))

      -- no task of a refused sweep holds anything else than it did
      pub ours_untouched : 0 < r → (k : ℕ) → st' (key o.team k) ≡ st (key o.team k)
      ours_untouched some k =
          others_untouched (both_stepping r o w r' e x) xs both_once ordered run (key o.team k)
          (λ l. ⊎_elim (stepping_none o.team (read_sweep o w) r some (key o.team k))
          (λ h. other.other (sym (ap (λ (z : Key). z.team) (stepping_is e.team (read_sweep e x) r' (key o.team k) h).is)))
          (in_either (key o.team k) (stepping r o.team (read_sweep o w)) (stepping r' e.team (read_sweep e x)) l))

      pub theirs_untouched : 0 < r' → (k : ℕ) → st' (key e.team k) ≡ st (key e.team k)
      theirs_untouched some k =
          others_untouched (both_stepping r o w r' e x) xs both_once ordered run (key e.team k)
          (λ l. ⊎_elim (λ h. other.other (ap (λ (z : Key). z.team) (stepping_is o.team (read_sweep o w) r (key e.team k) h).is))
          (stepping_none e.team (read_sweep e x) r' some (key e.team k))
          (in_either (key e.team k) (stepping r o.team (read_sweep o w)) (stepping r' e.team (read_sweep e x)) l))

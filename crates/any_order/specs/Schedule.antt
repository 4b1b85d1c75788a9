-- Steps of tasks, one after another in some order. A step changes what its own task holds, and of the other tasks nothing.
use Rattle.std.specs.Prelude.{ℕ, ◌≡◌, ◌⊎◌, ◌≢◌, List, [], ◌∷◌}
use Rattle.std.proofs.Common.{ap}
use Rattle.std.proofs.Math.Logic.{ite}
use Rattle.std.proofs.Math.Decide.{ℕ_discrete}

pub data Step : Type 0 where
  label choose write : Step

-- the task of a team
pub record Key : Type 0 where
  pub team : ℕ
  pub task : ℕ

pub same_key : (q r : Key) → Dec (q ≡ r)
same_key q r = both (ℕ_discrete q.team r.team) (ℕ_discrete q.task r.task)
  where
    both : Dec (q.team ≡ r.team) → Dec (q.task ≡ r.task) → Dec (q ≡ r)
    both (yes e) (yes f) = yes (λ i. record { team = e i; task = f i })
    both (yes e) (no f) = no (λ p. f (ap (λ (k : Key). k.task) p))
    both (no e) d = no (λ p. e (ap (λ (k : Key). k.team) p))

-- a task's turn to take a step
pub record Turn : Type 0 where
  pub key : Key
  pub step : Step

abbrev pub turn : Key → Step → Turn
turn q s = record { key = q; step = s }

-- ---- a run, where `Does q s h h'` says that the step s of the task q turns what the task holds, h, into h'

abbrev pub Steps : Type 0 → Type 1
Steps Holding = Key → Step → Holding → Holding → Type 0

pub record Takes {Holding : Type 0} (Does : Steps Holding) (x : Turn) (st st' : Key → Holding) : Type 0 where
  pub own : Does x.key x.step (st x.key) (st' x.key)
  pub others : (q : Key) → q ≢ x.key → st' q ≡ st q

pub data Run {Holding : Type 0} (Does : Steps Holding) : List Turn → (Key → Holding) → (Key → Holding) → Type 0 where
  over : {st : Key → Holding} → Run Does [] st st
  first : {x : Turn} {xs : List Turn} {st st₁ st' : Key → Holding} → Takes Does x st st₁ → Run Does xs st₁ st' → Run Does (x ∷ xs) st st'

-- the three steps of one task, with what it held between them
pub record Alone {Holding : Type 0} (Does : Step → Holding → Holding → Type 0) (h₀ h₃ : Holding) : Type 0 where
  pub h₁ : Holding
  pub h₂ : Holding
  pub labels : Does label h₀ h₁
  pub chooses : Does choose h₁ h₂
  pub writes : Does write h₂ h₃

-- ---- orders

-- the steps of the task q, in their order
abbrev pub steps_of : Key → List Turn → List Step
steps_of q [] = []
steps_of q (x ∷ xs) = ite (same_key x.key q) (x.step ∷ steps_of q xs) (steps_of q xs)

abbrev pub In : Key → List Key → Type 0
In q [] = ⊥
In q (k ∷ ks) = (q ≡ k) ⊎ In q ks

-- no task stands twice
abbrev pub Apart : List Key → Type 0
Apart [] = Unit {0}
Apart (k ∷ ks) = (In k ks → ⊥) × Apart ks

-- all the steps of these tasks and no others, each task's three in order
pub record Ordered (ks : List Key) (xs : List Turn) : Type 0 where
  pub each : (q : Key) → In q ks → steps_of q xs ≡ label ∷ choose ∷ write ∷ []
  pub none : (q : Key) → (In q ks → ⊥) → steps_of q xs ≡ []

-- one task after another
abbrev pub in_turn : List Key → List Turn
in_turn [] = []
in_turn (k ∷ ks) = turn k label ∷ turn k choose ∷ turn k write ∷ in_turn ks

-- neighbours of different tasks are exchanged, any number of times
pub data Exchanged : List Turn → List Turn → Type 0 where
  same : {xs : List Turn} → Exchanged xs xs
  swap : {x y : Turn} {xs : List Turn} → x.key ≢ y.key → Exchanged (x ∷ y ∷ xs) (y ∷ x ∷ xs)
  later : {x : Turn} {xs ys : List Turn} → Exchanged xs ys → Exchanged (x ∷ xs) (x ∷ ys)
  then : {xs ys zs : List Turn} → Exchanged xs ys → Exchanged ys zs → Exchanged xs zs

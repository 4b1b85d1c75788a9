-- Neighbours of different tasks commute, so every order that keeps each task's own three steps in order ends as one task after another does.
use Rattle.std.specs.Prelude.{ℕ, ◌≡◌, refl, ◌≢◌, List, [], ◌∷◌, ◌++◌, length}
use Rattle.std.proofs.Common.{sym, ◌∙◌, ap, subst, inl, inr, ⊎_elim, arith}
use Rattle.std.proofs.Math.Logic.{ite, if_pos, if_neg}
use Rattle.any_order.specs.Schedule.{Step, Step.label, Step.choose, Step.write, Key, same_key, Turn, turn, Steps, Takes, Run}
use Rattle.any_order.specs.Schedule.{Alone, steps_of, In, Apart, Ordered, in_turn, Exchanged}

-- ---- a run may have neighbours exchanged
module _ {Holding : Type 0} {Does : Steps Holding} where
  swapped :
      {a b : Turn} {xs : List Turn} {st st₁ st₂ st' : Key → Holding}
      → a.key ≢ b.key
      → Takes Does a st st₁
      → Takes Does b st₁ st₂
      → Run Does xs st₂ st'
      → Run Does (b ∷ a ∷ xs) st st'
  swapped {a} {b} {xs} {st} {st₁} {st₂} ne p q rest = Run.first {st₁ = mid} firsts (Run.first seconds rest)
    where
      -- after b alone
      mid : Key → Holding
      mid k = ite (same_key k b.key) (st₂ k) (st k)

      at_b : mid b.key ≡ st₂ b.key
      at_b = if_pos (same_key b.key b.key) refl _ _

      off_b : (k : Key) → k ≢ b.key → mid k ≡ st k
      off_b k n = if_neg (same_key k b.key) n _ _

      firsts : Takes Does b st mid
      firsts = record {
        own = subst (λ (h : Holding). Does b.key b.step (st b.key) h) (sym at_b)
            (subst (λ (h : Holding). Does b.key b.step h (st₂ b.key)) (p.others b.key (λ e. ne (sym e))) q.own);
        others = off_b;
      }

      kept : (k : Key) → k ≢ a.key → Dec (k ≡ b.key) → st₂ k ≡ mid k
      kept k n (yes e) = rw e (sym at_b)
      kept k n (no e) = q.others k e ∙ (p.others k n ∙ sym (off_b k e))

      seconds : Takes Does a mid st₂
      seconds = record {
        own = subst (λ (h : Holding). Does a.key a.step h (st₂ a.key)) (sym (off_b a.key ne))
            (subst (λ (h : Holding). Does a.key a.step (st a.key) h) (sym (q.others a.key ne)) p.own);
        others = λ k n. kept k n (same_key k b.key);
      }

  pub exchanged_run : {xs ys : List Turn} {st st' : Key → Holding} → Exchanged xs ys → Run Does xs st st' → Run Does ys st st'
  exchanged_run Exchanged.same r = r
  exchanged_run (Exchanged.swap ne) (Run.first p (Run.first q rest)) = swapped ne p q rest
  exchanged_run (Exchanged.later e) (Run.first p rest) = Run.first p (exchanged_run e rest)
  exchanged_run (Exchanged.then e f) r = exchanged_run f (exchanged_run e r)

behind : {ys zs : List Turn} (xs : List Turn) → Exchanged ys zs → Exchanged (xs ++ ys) (xs ++ zs)
behind [] e = e
behind (x ∷ xs) e = Exchanged.later (behind xs e)

pub neighbours_commute :
    {Holding : Type 0} {Does : Steps Holding} {st st' : Key → Holding} (a b : Turn) (xs ys : List Turn)
    → a.key ≢ b.key
    → Run Does (xs ++ (a ∷ b ∷ ys)) st st'
    → Run Does (xs ++ (b ∷ a ∷ ys)) st st'
neighbours_commute a b xs ys ne = exchanged_run (behind xs (Exchanged.swap ne))

-- ---- every order can be exchanged into one task after another
abbrev turns_of : Key → List Step → List Turn
turns_of q [] = []
turns_of q (s ∷ ss) = turn q s ∷ turns_of q ss

-- the turns of other tasks
unfoldable others_of : Key → List Turn → List Turn
others_of q [] = []
others_of q (x ∷ xs) = ite (same_key x.key q) (others_of q xs) (x ∷ others_of q xs)

-- a turn may pass those of another task
past : (q : Key) (x : Turn) (ss : List Step) (ys : List Turn) → x.key ≢ q → Exchanged (x ∷ (turns_of q ss ++ ys)) (turns_of q ss ++ (x ∷ ys))
past q x [] ys ne = Exchanged.same
past q x (s ∷ ss) ys ne = Exchanged.then (Exchanged.swap ne) (Exchanged.later (past q x ss ys ne))

-- so the turns of one task may go to the front
forward : (q : Key) (xs : List Turn) → Exchanged xs (turns_of q (steps_of q xs) ++ others_of q xs)
unfolding others_of
forward q [] = Exchanged.same
forward q (x ∷ xs) = go (same_key x.key q) (forward q xs)
  where
    go :
        (d : Dec (x.key ≡ q))
        → Exchanged xs (turns_of q (steps_of q xs) ++ others_of q xs)
        → Exchanged (x ∷ xs) (turns_of q (ite d (x.step ∷ steps_of q xs) (steps_of q xs)) ++ ite d (others_of q xs) (x ∷ others_of q xs))
    go (yes e) ih =
        subst (λ (k : Key). Exchanged (x ∷ xs) (turn k x.step ∷ (turns_of q (steps_of q xs) ++ others_of q xs))) e (Exchanged.later ih)
    go (no e) ih = Exchanged.then (Exchanged.later ih) (past q x (steps_of q xs) (others_of q xs) e)

none_left : (q : Key) (xs : List Turn) → steps_of q (others_of q xs) ≡ []
unfolding others_of
none_left q [] = refl
none_left q (x ∷ xs) = go (same_key x.key q) (none_left q xs)
  where
    go : (d : Dec (x.key ≡ q)) → steps_of q (others_of q xs) ≡ [] → steps_of q (ite d (others_of q xs) (x ∷ others_of q xs)) ≡ []
    go (yes e) ih = ih
    go (no e) ih = if_neg (same_key x.key q) e _ _ ∙ ih

others_left : (q r : Key) → r ≢ q → (xs : List Turn) → steps_of r (others_of q xs) ≡ steps_of r xs
unfolding others_of
others_left q r ne [] = refl
others_left q r ne (x ∷ xs) = go (same_key x.key q) (others_left q r ne xs)
  where
    go : (d : Dec (x.key ≡ q)) → steps_of r (others_of q xs) ≡ steps_of r xs → steps_of r (ite d (others_of q xs) (x ∷ others_of q xs)) ≡ steps_of r (x ∷ xs)
    go (yes e) ih = ih ∙ sym (if_neg (same_key x.key r) (λ f. ne (sym f ∙ e)) _ _)
    go (no e) ih = ap (λ (ss : List Step). ite (same_key x.key r) (x.step ∷ ss) ss) ih

empty : (xs : List Turn) → ((q : Key) → steps_of q xs ≡ []) → xs ≡ []
empty [] h = refl
empty (x ∷ xs) h = absurd (cons_nil (sym (if_pos (same_key x.key x.key) refl _ _) ∙ h x.key))
  where
    cons_nil : {y : Step} {ys : List Step} → ◌≡◌ {A = List Step} (y ∷ ys) [] → ⊥
    cons_nil e = let z : ◌≡◌ {A = ℕ} _ 0 = ap length e in absurd (omega arith)

pub sorted : (ks : List Key) (xs : List Turn) → Apart ks → Ordered ks xs → Exchanged xs (in_turn ks)
sorted [] xs a o = subst (λ (ys : List Turn). Exchanged xs ys) (empty xs (λ q. o.none q (λ h. h))) Exchanged.same
sorted (k ∷ ks) xs a o =
    Exchanged.then
    (subst (λ (ss : List Step). Exchanged xs (turns_of k ss ++ others_of k xs)) (o.each k (inl refl)) (forward k xs))
    (behind (turn k label ∷ turn k choose ∷ turn k write ∷ []) (sorted ks (others_of k xs) a.1 rest))
  where
    other : (q : Key) → In q ks → q ≢ k
    other q h e = a.0 (rw e at h)

    left : (q : Key) → (In q ks → ⊥) → Dec (q ≡ k) → steps_of q (others_of k xs) ≡ []
    left q n (yes e) = rw e (none_left k xs)
    left q n (no e) = others_left k q e xs ∙ o.none q (λ h. ⊎_elim e n h)

    rest : Ordered ks (others_of k xs)
    rest = record {
      each = λ q h. others_left k q (other q h) xs ∙ o.each q (inr h);
      none = λ q n. left q n (same_key q k);
    }

-- ---- in one task after another each does its three steps alone
module _ {Holding : Type 0} {Does : Steps Holding} where
  -- a task that has no step holds what it held
  untouched : {st st' : Key → Holding} (q : Key) (ks : List Key) → (In q ks → ⊥) → Run Does (in_turn ks) st st' → st' q ≡ st q
  untouched {st} {st'} q [] n Run.over = refl
  untouched {st} {st'} q (k ∷ ks) n (Run.first a (Run.first b (Run.first {st₁ = st₃} c rest))) =
      let ne : q ≢ k = λ e. n (inl e) in
      untouched {st = st₃} {st' = st'} q ks (λ h. n (inr h)) rest ∙ (c.others q ne ∙ (b.others q ne ∙ a.others q ne))

  alone : {st st' : Key → Holding} (q : Key) (ks : List Key) → Apart ks → In q ks → Run Does (in_turn ks) st st' → Alone (Does q) (st q) (st' q)
  alone {st} {st'} q (k ∷ ks) apart (inl e) (Run.first a (Run.first b (Run.first {st₁ = st₃} c rest))) =
      subst (λ (j : Key). Alone (Does j) (st j) (st' j)) (sym e)
      (subst (λ (h : Holding). Alone (Does k) (st k) h) (sym (untouched k ks apart.0 rest))
      (record { h₁ = _; h₂ = _; labels = a.own; chooses = b.own; writes = c.own }))
  alone {st} {st'} q (k ∷ ks) apart (inr h) (Run.first a (Run.first b (Run.first {st₁ = st₃} c rest))) =
      let ne : q ≢ k = λ e. apart.0 (subst (λ (j : Key). In j ks) e h) in
      subst (λ (z : Holding). Alone (Does q) z (st' q)) (c.others q ne ∙ (b.others q ne ∙ a.others q ne)) (alone {st = st₃} {st' = st'} q ks apart.1 h rest)
  alone {st} {st'} q [] apart h _ = elim h [ ]

  -- ---- and so in every order
  module _ {st st' : Key → Holding} (ks : List Key) (xs : List Turn) (apart : Apart ks) (o : Ordered ks xs) (r : Run Does xs st st') where
    pub each_in_turn : Run Does (in_turn ks) st st'
    each_in_turn = exchanged_run (sorted ks xs apart o) r

    pub each_alone : (q : Key) → In q ks → Alone (Does q) (st q) (st' q)
    each_alone q h = alone q ks apart h each_in_turn

    pub others_untouched : (q : Key) → (In q ks → ⊥) → st' q ≡ st q
    others_untouched q n = untouched q ks n each_in_turn

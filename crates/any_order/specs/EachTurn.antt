-- A claim of a step that holds wherever its task has begun well and taken the steps before it holds at every turn of a run, whatever the order.
use Rattle.std.specs.Prelude.{◌≡◌, refl, ◌⊎◌, List, [], ◌∷◌}
use Rattle.std.proofs.Common.{sym, subst, inl, inr}
use Rattle.std.proofs.Math.Logic.{if_pos, if_neg}
use Rattle.any_order.specs.Schedule.{Step, Step.label, Step.choose, Step.write, Key, same_key, Turn, Steps, Run, steps_of, In, Ordered}

-- a claim of what a step does
abbrev pub Claim : {Holding : Type 0} → Steps Holding → Type 1
Claim {Holding} Does = (q : Key) (s : Step) (h h' : Holding) → Does q s h h' → Type 0

abbrev pub EachTurn :
    {Holding : Type 0} {Does : Steps Holding} → Claim Does → {xs : List Turn} {st st' : Key → Holding} → Run Does xs st st' → Type 0
EachTurn Fine Run.over = Unit {0}
EachTurn Fine (Run.first {x = x} {st = st} {st₁ = st₁} t r) = Fine x.key x.step (st x.key) (st₁ x.key) t.own × EachTurn Fine r

-- the claim holds of each of the three steps, from a good start
pub record Follows {Holding : Type 0} (Does : Steps Holding) (Good : Key → Holding → Type 0) (Fine : Claim Does) : Type 0 where
  pub first : (q : Key) (h₀ h₁ : Holding) → Good q h₀ → (d : Does q label h₀ h₁) → Fine q label h₀ h₁ d
  pub second : (q : Key) (h₀ h₁ h₂ : Holding) → Good q h₀ → Does q label h₀ h₁ → (d : Does q choose h₁ h₂) → Fine q choose h₁ h₂ d
  pub third :
      (q : Key) (h₀ h₁ h₂ h₃ : Holding) → Good q h₀ → Does q label h₀ h₁ → Does q choose h₁ h₂ → (d : Does q write h₂ h₃) → Fine q write h₂ h₃ d

-- what a task has done, by what is left to do
data Stage {Holding : Type 0} (Does : Steps Holding) (Good : Key → Holding → Type 0) (q : Key) : List Step → Holding → Type 0 where
  fresh : {h : Holding} → Good q h → Stage Does Good q (label ∷ choose ∷ write ∷ []) h
  labelled : {h₀ h : Holding} → Good q h₀ → Does q label h₀ h → Stage Does Good q (choose ∷ write ∷ []) h
  chosen : {h₀ h₁ h : Holding} → Good q h₀ → Does q label h₀ h₁ → Does q choose h₁ h → Stage Does Good q (write ∷ []) h
  done : {h : Holding} → Stage Does Good q [] h

in_list : (q : Key) (ks : List Key) → In q ks ⊎ (In q ks → ⊥)
in_list q [] = inr (λ h. h)
in_list q (k ∷ ks) = go (same_key q k) (in_list q ks)
  where
    go : Dec (q ≡ k) → In q ks ⊎ (In q ks → ⊥) → In q (k ∷ ks) ⊎ (In q (k ∷ ks) → ⊥)
    go (yes e) d = inl (inl e)
    go (no e) (inl h) = inl (inr h)
    go (no e) (inr n) = inr (neither e n)
      where
        neither : (q ≡ k → ⊥) → (In q ks → ⊥) → In q (k ∷ ks) → ⊥
        neither e n (inl f) = e f
        neither e n (inr h) = n h

module _ {Holding : Type 0} {Does : Steps Holding} (Good : Key → Holding → Type 0) (Fine : Claim Does) (f : Follows Does Good Fine) where
  taken :
      {q : Key} {s : Step} {ss : List Step} {h h' : Holding}
      → Stage Does Good q (s ∷ ss) h
      → (d : Does q s h h')
      → Fine q s h h' d × Stage Does Good q ss h'
  taken {q} {h = h} {h' = h'} (Stage.fresh g) d = (f.first q h h' g d, Stage.labelled g d)
  taken {q} {h = h} {h' = h'} (Stage.labelled {h₀ = h₀} g a) d = (f.second q h₀ h h' g a d, Stage.chosen g a d)
  taken {q} {h = h} {h' = h'} (Stage.chosen {h₀ = h₀} {h₁ = h₁} g a b) d = (f.third q h₀ h₁ h h' g a b d, Stage.done)

  from_stages :
      (xs : List Turn) {st st' : Key → Holding} → ((q : Key) → Stage Does Good q (steps_of q xs) (st q)) → (r : Run Does xs st st') → EachTurn Fine r
  from_stages [] at Run.over = tt
  from_stages (x ∷ xs) {st} at (Run.first {st₁ = st₁} t r) = (now.0, from_stages xs (λ q. next q (same_key q x.key)) r)
    where
      now : Fine x.key x.step (st x.key) (st₁ x.key) t.own × Stage Does Good x.key (steps_of x.key xs) (st₁ x.key)
      now =
          taken
          (subst (λ (ss : List Step). Stage Does Good x.key ss (st x.key)) (if_pos (same_key x.key x.key) refl _ _) (at x.key))
          t.own

      next : (q : Key) → Dec (q ≡ x.key) → Stage Does Good q (steps_of q xs) (st₁ q)
      next q (yes e) = subst (λ (k : Key). Stage Does Good k (steps_of k xs) (st₁ k)) (sym e) now.1
      next q (no e) =
          subst (Stage Does Good q (steps_of q xs)) (sym (t.others q e))
          (subst (λ (ss : List Step). Stage Does Good q ss (st q)) (if_neg (same_key x.key q) (λ p. e (sym p)) _ _) (at q))

  pub each_turn :
      (ks : List Key) (xs : List Turn) {st st' : Key → Holding}
      → Ordered ks xs
      → ((q : Key) → In q ks → Good q (st q))
      → (r : Run Does xs st st')
      → EachTurn Fine r
  each_turn ks xs {st} o good = from_stages xs (λ q. at q (in_list q ks))
    where
      at : (q : Key) → In q ks ⊎ (In q ks → ⊥) → Stage Does Good q (steps_of q xs) (st q)
      at q (inl h) = subst (λ (ss : List Step). Stage Does Good q ss (st q)) (sym (o.each q h)) (Stage.fresh (good q h))
      at q (inr n) = subst (λ (ss : List Step). Stage Does Good q ss (st q)) (sym (o.none q n)) Stage.done

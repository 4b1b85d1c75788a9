-- Two steps of a reversible mode, one after the other.
use Rattle.std.specs.Prelude.{ℕ, ◌<◌, ◌≡◌, Bool, true, false, cond, List, ℤ}
use Rattle.std.proofs.Math.Path.{refl}
use Rattle.std.proofs.Common.{sym, ◌∙◌, ap}
use Rattle.paper.specs.Panel.Input.{graph, Call, Choices, pattern, size}
use Rattle.paper.specs.Panel.Takes.{labels_by}
use Rattle.paper.specs.Site.Bonds.{holds}
use Rattle.paper.specs.Component.Sizes.{label_of}
use Rattle.paper.specs.Move.Moving.{chosen, reached}
use Rattle.laws.specs.Unique.{labels_unique, label_lt, spins_equal}
use Rattle.demand3.specs.Statement.{ComposedAt, CancelsAt, Composed, Cancels}
use Rattle.demand3.specs.Step.{Step}
use Rattle.demand3.specs.ChoicesAdd.{ComposedAll, CancelsAll}
use Rattle.demand3.specs.Turns.{seen_at, turn, seen_back, permutes_at, reference_kept, turned, spins_kept, acts_kept, labels_kept}

-- a step by choices that move no place
module _ {c : Call} {p : Choices} {xs : List ℤ} {l : List ℕ} {ys : List ℤ} (f : labels_by c.form ≡ true) (s : Step c p xs l ys) where
  pub none_moved : ((r : ℕ) → r < c.lattice.n → (k : ℕ) → k < size c → chosen c p r k ≡ k) → ys ≡ xs
  none_moved h = spins_equal c ys xs s.some_site s.long same s.others
    where
      stays : (i k : ℕ) → i < c.lattice.n → k < size c → (t : Bool) → cond t (chosen c p (label_of l i) k) k ≡ k
      stays i k hi hk true = h (label_of l i) (label_lt (graph c) (holds c xs) l (s.told.labels f).1 i hi) k hk
      stays i k hi hk false = refl

      same : (i k : ℕ) → i < c.lattice.n → k < size c → pattern c ys i k ≡ pattern c xs i k
      same i k hi hk =
          seen_back c ys xs i k (λ e. reference_kept s e k hk) (λ e. s.spins c.reference (s.reference e) k hk)
          (spins_kept s i hi k hk) (s.spins i hi k hk) (turned s i k hi hk ∙ ap (seen_at c xs i) (stays i k hi hk (reached c xs l i)))

  -- what holds at every entry holds at those that are used
  pub composed_all : {q r : Choices} → ComposedAll c p q r → Composed c xs l p q r
  composed_all h = record { is = λ i hi _. h (label_of l i) (label_lt (graph c) (holds c xs) l (s.told.labels f).1 i hi) }

  pub cancels_all : {q : Choices} → CancelsAll c p q → Cancels c xs l p q
  cancels_all h = record { is = λ i hi _. h (label_of l i) (label_lt (graph c) (holds c xs) l (s.told.labels f).1 i hi) }

module _
    {c : Call} {p q : Choices} {xs : List ℤ} {l : List ℕ} {ys : List ℤ} {m : List ℕ} {zs : List ℤ}
    (f : labels_by c.form ≡ true) (s : Step c p xs l ys) (t : Step c q ys m zs)
  where
    same_labels : m ≡ l
    same_labels = labels_unique (graph c) (holds c ys) m l (t.told.labels f).1 (labels_kept s (s.told.labels f).1)

    same_reach : (i : ℕ) → i < c.lattice.n → reached c ys m i ≡ reached c xs l i
    unfolding reached
    same_reach i h = rw (same_labels, acts_kept s i h) refl

    -- where the two steps take a spin from
    two :
        (i k : ℕ)
        → i < c.lattice.n
        → k < size c
        → (w : ℕ)
        → (reached c xs l i ≡ true → chosen c p (label_of l i) (chosen c q (label_of l i) k) ≡ w)
        → (reached c xs l i ≡ false → k ≡ w)
        → seen_at c zs i k ≡ seen_at c xs i w
    two i k hi hk w yes_way no_way = go (reached c xs l i) refl
      where
        later : (b : Bool) → reached c xs l i ≡ b → seen_at c zs i k ≡ seen_at c ys i (cond b (chosen c q (label_of m i) k) k)
        later b e = turned t i k hi hk ∙ ap (λ (b : Bool). seen_at c ys i (cond b (chosen c q (label_of m i) k) k)) (same_reach i hi ∙ e)

        sooner :
            (b : Bool)
            → reached c xs l i ≡ b
            → (x : ℕ)
            → x < size c
            → seen_at c ys i x ≡ seen_at c xs i (cond b (chosen c p (label_of l i) x) x)
        sooner b e x hx = turned s i x hi hx ∙ ap (λ (b : Bool). seen_at c xs i (cond b (chosen c p (label_of l i) x) x)) e

        go : (b : Bool) → reached c xs l i ≡ b → seen_at c zs i k ≡ seen_at c xs i w
        go true e =
            later true e
            ∙ (sooner true e (chosen c q (label_of m i) k) ((permutes_at t i hi (same_reach i hi ∙ e)).within k hk)
            ∙ (ap (λ (x : List ℕ). seen_at c xs i (chosen c p (label_of l i) (chosen c q (label_of x i) k))) same_labels
            ∙ ap (seen_at c xs i) (yes_way e)))
        go false e = later false e ∙ (sooner false e k hk ∙ ap (seen_at c xs i) (no_way e))

    -- one component's sites are restored
    pub back_at :
        (i k : ℕ)
        → i < c.lattice.n
        → k < size c
        → (reached c xs l i ≡ true → CancelsAt c p q (label_of l i))
        → pattern c zs i k ≡ pattern c xs i k
    back_at i k hi hk h =
        seen_back c zs xs i k (λ e. reference_kept t e k hk ∙ reference_kept s e k hk) (λ e. s.spins c.reference (s.reference e) k hk)
        (spins_kept t i hi k hk) (s.spins i hi k hk) (two i k hi hk k (λ e. h e k hk) (λ e. refl))

    pub two_back : Cancels c xs l p q → zs ≡ xs
    two_back h =
        spins_equal c zs xs s.some_site (t.long ∙ s.long)
        (λ i k hi hk. back_at i k hi hk (h.is i hi))
        (λ i x hi o. t.others i x hi o ∙ s.others i x hi o)

    module _ {r : Choices} {o : List ℕ} {ws : List ℤ} (u : Step c r xs o ws) where
      same : o ≡ l
      same = labels_unique (graph c) (holds c xs) o l (u.told.labels f).1 (s.told.labels f).1

      -- one component's sites are as after the one move
      pub then_at :
          (i k : ℕ)
          → i < c.lattice.n
          → k < size c
          → (reached c xs l i ≡ true → ComposedAt c p q r (label_of l i))
          → pattern c zs i k ≡ pattern c ws i k
      then_at i k hi hk h =
          seen_back c zs ws i k (λ e. reference_kept t e k hk ∙ (reference_kept s e k hk ∙ sym (reference_kept u e k hk)))
          (λ e. spins_kept u c.reference (s.reference e) k hk) (spins_kept t i hi k hk) (spins_kept u i hi k hk)
          (two i k hi hk (turn c r xs o i k) yes_way no_way ∙ sym (turned u i k hi hk))
        where
          yes_way : reached c xs l i ≡ true → chosen c p (label_of l i) (chosen c q (label_of l i) k) ≡ turn c r xs o i k
          yes_way e = rw (same, e) (sym (h e k hk))

          no_way : reached c xs l i ≡ false → k ≡ turn c r xs o i k
          no_way e = rw (same, e) refl

      pub two_then : Composed c xs l p q r → zs ≡ ws
      two_then h =
          spins_equal c zs ws s.some_site (t.long ∙ (s.long ∙ sym u.long))
          (λ i k hi hk. then_at i k hi hk (h.is i hi))
          (λ i x hi o. t.others i x hi o ∙ (s.others i x hi o ∙ sym (u.others i x hi o)))

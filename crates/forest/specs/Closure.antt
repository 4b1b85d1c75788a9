-- Step relations that link the same numbers, with their laws. Nothing here knows of a lattice.
use Rattle.std.specs.Prelude.{ℕ, ◌≡◌, refl, ◌⊎◌}
use Rattle.std.proofs.Common.{sym, ◌∙◌, inl, inr, ⊎_elim}
use Rattle.paper.specs.Component.Links.{Linked, Linked.stay, Linked.along, Linked.against, Within, bind}

-- E and F link the same numbers
pub record SameLinks (E F : ℕ → ℕ → Type 0) : Type 0 where
  pub to : Within E F
  pub from : Within F E

-- a step of E or of F
abbrev pub Or : (ℕ → ℕ → Type 0) → (ℕ → ℕ → Type 0) → ℕ → ℕ → Type 0
Or E F a b = E a b ⊎ F a b

-- the one step from x to y
abbrev pub Only : ℕ → ℕ → ℕ → ℕ → Type 0
Only x y a b = (a ≡ x) × (b ≡ y)

pub one : {E : ℕ → ℕ → Type 0} {a b : ℕ} → E a b → Linked E a b
one e = along e stay

-- what each step of E leaves alone, each way does
pub alike : {E : ℕ → ℕ → Type 0} {a b : ℕ} (f : ℕ → ℕ) → ((x y : ℕ) → E x y → f x ≡ f y) → Linked E a b → f a ≡ f b
alike f w stay = refl
alike f w (along e r) = w _ _ e ∙ alike f w r
alike f w (against e r) = sym (w _ _ e) ∙ alike f w r

pub same_refl : {E : ℕ → ℕ → Type 0} → SameLinks E E
same_refl = record { to = λ a b e. one e; from = λ a b e. one e }

pub same_trans : {E F G : ℕ → ℕ → Type 0} → SameLinks E F → SameLinks F G → SameLinks E G
same_trans s t = record {
  to = λ a b e. bind t.to (s.to a b e);
  from = λ a b g. bind s.from (t.from a b g);
}

-- E' adds G's steps to E, E has those of A and B, and C has those of B and G
pub more : {E' E G A B C : ℕ → ℕ → Type 0} → SameLinks E' (Or E G) → SameLinks E (Or A B)
    → ((a b : ℕ) → B a b → C a b) → ((a b : ℕ) → G a b → C a b) → ((a b : ℕ) → C a b → B a b ⊎ G a b) → SameLinks E' (Or A C)
more {E'} {E} {G} {A} {B} {C} s t bc gc cbg = record {
  to = λ a b e. bind (λ a b. ⊎_elim (λ e. bind (λ a b. ⊎_elim (λ h. one (inl h)) (λ h. one (inr (bc a b h)))) (t.to a b e))
      (λ g. one (inr (gc a b g)))) (s.to a b e);
  from = λ a b. ⊎_elim (λ h. old a b (inl h)) (λ h. ⊎_elim (λ k. old a b (inr k)) (λ g. s.from a b (inr g)) (cbg a b h));
}
  where
    old : (a b : ℕ) → Or A B a b → Linked E' a b
    old a b h = bind s.from (bind (λ a b e. one (inl e)) (t.from a b h))

-- nothing is added yet
pub none : {E B : ℕ → ℕ → Type 0} → ((a b : ℕ) → B a b → ⊥) → SameLinks E (Or E B)
none empty = record { to = λ a b e. one (inl e); from = λ a b. ⊎_elim one (λ e. absurd (empty a b e)) }

-- a step the other way round
pub flip : {E : ℕ → ℕ → Type 0} (x y : ℕ) → SameLinks (Or E (Only y x)) (Or E (Only x y))
flip {E} x y = record { to = λ a b. turn x y a b; from = λ a b. turn y x a b }
  where
    turn : (x y : ℕ) → Within (Or E (Only y x)) (Or E (Only x y))
    turn x y a b (inl e) = one (inl e)
    turn x y a b (inr e) = against (inr (e.1, e.0)) stay

-- a step between what is linked adds nothing
pub settled : {E : ℕ → ℕ → Type 0} (x y : ℕ) → Linked E x y → SameLinks E (Or E (Only x y))
settled {E} x y l = record { to = λ a b e. one (inl e); from = λ a b. ⊎_elim one (λ e. rw (e.0, e.1) l) }

-- x gives up its step to u for one to v
pub reroute : {E E' : ℕ → ℕ → Type 0} (x u v : ℕ) → ((a b : ℕ) → E' a b → E a b ⊎ Only x v a b) → ((a b : ℕ) → E a b → E' a b ⊎ Only x u a b)
    → Linked E x v → Linked E' x u → SameLinks E' E
reroute x u v new old xv xu = record {
  to = λ a b e. ⊎_elim one (λ h. rw (h.0, h.1) xv) (new a b e);
  from = λ a b e. ⊎_elim one (λ h. rw (h.0, h.1) xu) (old a b e);
}

-- x has the step to u, and y gives up its step to v for one to u: then a step from x to v links what one from x to y did
module _ {E E' : ℕ → ℕ → Type 0} (x y u v : ℕ)
    (new : (a b : ℕ) → E' a b → E a b ⊎ Only y u a b) (old : (a b : ℕ) → E a b → E' a b ⊎ Only y v a b)
    (xu : E x u) (xu' : E' x u) (yv : E y v) (yu' : E' y u) where
  to : Within (Or E' (Only x v)) (Or E (Only x y))
  to a b (inl e) = ⊎_elim (λ h. one (inl h)) (λ h. rw (h.0, h.1) (against (inr (refl, refl)) (along (inl xu) stay))) (new a b e)
  to a b (inr e) = rw (e.0, e.1) (along (inr (refl, refl)) (along (inl yv) stay))

  from : Within (Or E (Only x y)) (Or E' (Only x v))
  from a b (inl e) = ⊎_elim (λ h. one (inl h)) (λ h. rw (h.0, h.1) (along (inl yu') (against (inl xu') (along (inr (refl, refl)) stay)))) (old a b e)
  from a b (inr e) = rw (e.0, e.1) (along (inl xu') (against (inl yu') stay))

  pub splice : SameLinks (Or E' (Only x v)) (Or E (Only x y))
  splice = record { to = to; from = from }

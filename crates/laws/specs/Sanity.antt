-- Small consequences of the definitions, for all modes.
use Rattle.std.specs.Prelude.{◌≡◌, refl, ◌⊎◌, true, List, ℕ, ◌<◌, ℤ}
use Rattle.std.proofs.Common.{sym, ◌∙◌, ap, inl, inr}
use Rattle.lemmas.specs.Bools.{never, and_no}
use Rattle.paper.specs.declared.Mode.TheVariants.{Cmr}
use Rattle.paper.specs.declared.Form.TheVariants.{Observe}
use Rattle.paper.specs.Answer.Cases.{Answer, Answer.Refused, Answer.Idle, Answer.Held, Answer.Moved}
use Rattle.paper.specs.Panel.Input.{Call, Choices, Buffers, spin}
use Rattle.paper.specs.Site.Acting.{acts}
use Rattle.paper.specs.Panel.Takes.{grows_by, labels_by}
use Rattle.paper.specs.Move.Moving.{reached, final, Moves}
use Rattle.paper.specs.Refusal.Kept.{valid_of}
use Rattle.paper.specs.Answer.Move.{Goes, Answers}
use Rattle.laws.specs.Forms.{by_form}
use Rattle.laws.specs.Unique.{OthersOf, spins_equal}

-- CMR is never idle
pub cmr_never_idle : (c : Call) (p : Choices) (b b' : Buffers) → c.mode ≡ Cmr → Answers c p b Idle b' → ⊥
unfolding acts
cmr_never_idle c p b b' e w = never (sym (w.none 0 (valid_of c p b w.valid).sound.ranged.lattice.n_low) ∙ rw e refl)

-- by some lists, whatever the form
pub record SomeMoves (c : Call) (p : Choices) (xs ys : List ℤ) : Type 0 where
  pub blue : List ℕ
  pub grey : List ℕ
  pub moved : Moves c p xs blue grey ys

pub some_moves : (c : Call) (p : Choices) (b b' : Buffers) → Goes c p b b' → SomeMoves c p b.spins b'.spins
some_moves c p b b' w = go (by_form c.form)
  where
    go : (labels_by c.form ≡ true) ⊎ (grows_by c.form ≡ true) → SomeMoves c p b.spins b'.spins
    go (inl q) = record { blue = b'.labels; grey = b'.grey_labels; moved = w.moved q }
    go (inr q) = record { blue = (w.turned q).blue; grey = b'.members; moved = (w.turned q).moved }

-- whatever the mode, the form and the answer: the systems outside the group keep their bytes
pub others_kept : (c : Call) (p : Choices) (b b' : Buffers) (a : Answer) → Answers c p b a b' → OthersOf c b.spins b'.spins
others_kept c p b b' (Refused r) w i t h o = ap (λ (z : Buffers). spin c.lattice.n z.spins t i) w.kept
others_kept c p b b' Idle w i t h o = ap (λ (z : List ℤ). spin c.lattice.n z t i) w.still
others_kept c p b b' Held w i t h o = ap (λ (z : List ℤ). spin c.lattice.n z t i) w.still
others_kept c p b b' Moved w i t h o = (some_moves c p b b' w).moved.others i t h o

-- to observe changes no spin
observed : (c : Call) (p : Choices) (xs : List ℤ) (l g : List ℕ) (ys : List ℤ) → c.form ≡ Observe → 0 < c.lattice.n → Moves c p xs l g ys → ys ≡ xs
unfolding acts reached final
observed c p xs l g ys e some m =
    spins_equal c ys xs some m.long (λ i k hi hk. m.group i k hi hk ∙ rw (e, and_no (acts c xs i)) refl) m.others

pub observe_still : (c : Call) (p : Choices) (b b' : Buffers) (a : Answer) → c.form ≡ Observe → Answers c p b a b' → b'.spins ≡ b.spins
observe_still c p b b' (Refused r) e w = ap (λ (z : Buffers). z.spins) w.kept
observe_still c p b b' Idle e w = w.still
observe_still c p b b' Held e w = w.still
observe_still c p b b' Moved e w =
    let m = some_moves c p b b' w in
    observed c p b.spins m.blue m.grey b'.spins e (valid_of c p b w.valid).sound.ranged.lattice.n_low m.moved

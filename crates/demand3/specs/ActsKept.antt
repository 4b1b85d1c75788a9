-- Whether a pattern acts is not changed by a choice.
use Rattle.std.specs.Prelude.{ℕ, ◌/◌, ◌<◌, ◌≡◌, refl, Bool, true, false, cond, ℤ, pos, ◌*ℤ◌}
use Rattle.std.proofs.Common.{sym, ◌∙◌, ap}
use Rattle.lemmas.specs.Ints.{eq_z}
use Rattle.paper.specs.declared.Mode.{Mode}
use Rattle.paper.specs.declared.Mode.TheVariants.{Houd, Pair, Perm, Gperm, Jorg, Cmr}
use Rattle.paper.specs.Panel.Input.{Call, Choices, Pattern, size}
use Rattle.paper.specs.Site.Acting.{differs, pair_differs, gauge, test_by, acts_by}
use Rattle.paper.specs.Move.Moving.{partner, chosen_by}
use Rattle.paper.specs.Refusal.Rules.{Permutes}
use Rattle.laws.specs.Permuted.{sum_permuted, onto}
use Rattle.laws.specs.Patterns.{own_square, differs_no, no_differs, Spinning}
use Rattle.laws.specs.Partners.{pair_partner}
use Rattle.laws.specs.Entries.{perm_of, flip_of}
use Rattle.laws.specs.Acting.{test_ext}
use Rattle.demand3.specs.Statement.{Reversible}

differs_permuted : (m : ℕ) (q : ℕ → ℕ) (u : Pattern) → 0 < m → Permutes m q → differs m (λ k. u (q k)) ≡ differs m u
differs_permuted m q u z h = go (differs m u) (differs m (λ k. u (q k))) refl refl
  where
    all : differs m (λ k. u (q k)) ≡ false → (k : ℕ) → k < m → u k ≡ u (q 0)
    all e k l = let r = onto m q h k l in ap u r.2 ∙ differs_no m (λ k. u (q k)) e r.0 r.1

    go : (s t : Bool) → differs m u ≡ s → differs m (λ k. u (q k)) ≡ t → differs m (λ k. u (q k)) ≡ differs m u
    go false t d e =
        no_differs m (λ k. u (q k)) (λ k l. differs_no m u d (q k) (h.within k l) ∙ sym (differs_no m u d (q 0) (h.within 0 z)))
        ∙ sym d
    go true true d e = e ∙ sym d
    go true false d e = e ∙ sym (no_differs m u (λ k l. all e k l ∙ sym (all e 0 z)))

flip_permuted : (m : ℕ) (t : Bool) (u : Pattern) → pair_differs (m / 2) (λ k. u (cond t (partner m k) k)) ≡ pair_differs (m / 2) u
flip_permuted m true u = pair_partner m u
flip_permuted m false u = refl

test_permuted :
    (m : Mode) (c : Call) (p : Choices) (r : ℕ) (u : Pattern)
    → 0 < size c
    → Reversible m (size c)
    → Permutes (size c) (chosen_by m c p r)
    → test_by m (size c) (λ k. u (chosen_by m c p r k)) ≡ test_by m (size c) u
test_permuted Houd c p r u z v h = ap (λ (x : ℤ). eq_z x (pos 0)) (sum_permuted (size c) (chosen_by Houd c p r) u h)
test_permuted Pair c p r u z v h = flip_permuted (size c) (flip_of c p r) u
test_permuted Perm c p r u z v h = differs_permuted (size c) (perm_of c p r) u z h
test_permuted Gperm c p r u z v h = differs_permuted (size c) (perm_of c p r) u z h
test_permuted Jorg c p r u z v h = absurd v
test_permuted Cmr c p r u z v h = absurd v

pub acts_chosen :
    (m : Mode) (c : Call) (p : Choices) (r : ℕ) (P Q f g : Pattern)
    → 0 < size c
    → Reversible m (size c)
    → Permutes (size c) (chosen_by m c p r)
    → ((k : ℕ) → k < size c → gauge m P f k ≡ gauge m Q g (chosen_by m c p r k))
    → acts_by m (size c) P f ≡ acts_by m (size c) Q g
acts_chosen m c p r P Q f g z v h e =
    test_ext m (size c) (gauge m P f) (λ k. gauge m Q g (chosen_by m c p r k)) z e ∙ test_permuted m c p r (gauge m Q g) z v h

-- the reference site never acts
pub reference_rests : (s : ℕ) (P : Pattern) → 0 < s → Spinning s P → acts_by Gperm s P P ≡ false
reference_rests s P z h = no_differs s (λ k. P k *ℤ P k) (λ k l. own_square (P k) (P 0) (h k l) (h 0 z))

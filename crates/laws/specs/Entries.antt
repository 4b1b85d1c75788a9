-- What is chosen on a component: its own entry of the choices, which an accepted call has right.
use Rattle.std.specs.Prelude.{ℕ, ◌<◌, Bool, true, ◌≡◌, refl, List, ℤ}
use Rattle.std.proofs.Common.{arith}
use Rattle.lemmas.specs.Bools.{never, and_left, and_right}
use Rattle.paper.specs.Panel.Input.{Call, Choices, size, Buffers, pattern, system}
use Rattle.paper.specs.Site.Acting.{acts}
use Rattle.paper.specs.Move.Moving.{flip_by, perm_at, reached_by, reached}
use Rattle.paper.specs.declared.Form.{Form}
use Rattle.paper.specs.declared.Form.TheVariants.{Sw, Wolff, Observe, Grow}
use Rattle.paper.specs.Panel.Takes.{grows_by, moves, takes_perms, entry, entries}
use Rattle.paper.specs.Refusal.Rule.{Kept}
use Rattle.paper.specs.Refusal.Rules.{Permutes, rules}
use Rattle.paper.specs.Refusal.Kept.{named, Valid, valid_of}
use Rattle.laws.specs.Patterns.{Spinning}

-- the permutation chosen on the component r
abbrev pub perm_of : Call → Choices → ℕ → ℕ → ℕ
perm_of c p r = perm_at c.form (size c) p.choices r

-- the flip chosen there
abbrev pub flip_of : Call → Choices → ℕ → Bool
flip_of c p r = flip_by c.form p.choices r

pub form_moves : (f : Form) (c : Call) (l : List ℕ) (i : ℕ) → reached_by f c.mode c.seed l i ≡ true → moves f ≡ true
form_moves Sw c l i e = refl
form_moves Wolff c l i e = refl
form_moves Observe c l i e = e
form_moves Grow c l i e = refl

pub reached_moves : (c : Call) (xs : List ℤ) (l : List ℕ) (i : ℕ) → reached c xs l i ≡ true → moves c.form ≡ true
unfolding reached
reached_moves c xs l i e =
    form_moves c.form c l i (and_left (reached_by c.form c.mode c.seed l i) _ (and_right (acts c xs i) _ e))

pub entry_lt : (f : Form) (n r : ℕ) → moves f ≡ true → r < n → entry f r < entries f n
entry_lt Sw n r e h = h
entry_lt Wolff n r e h = omega arith
entry_lt Observe n r e h = never e
entry_lt Grow n r e h = omega arith

-- grow has one entry, whatever a list of members says of a site
grown_entry : (f : Form) (n r : ℕ) → grows_by f ≡ true → entry f r < entries f n
grown_entry Sw n r g = never g
grown_entry Wolff n r g = never g
grown_entry Observe n r g = never g
grown_entry Grow n r g = omega arith

module _ {c : Call} {p : Choices} {b : Buffers} (valid : Valid c p b) where
  pub spin_of : (i : ℕ) → i < c.lattice.n → Spinning (size c) (pattern c b.spins i)
  spin_of i h k l = valid.sound.spins (system c k) i (named k l valid.sound.grouped) h

  pub perms_of : takes_perms c ≡ true → (r : ℕ) → r < c.lattice.n → Permutes (size c) (perm_of c p r)
  perms_of e r h = valid.fit.chosen.perms e (entry c.form r) (entry_lt c.form c.lattice.n r (and_left (moves c.form) _ e) h)

  pub perms_grown : grows_by c.form ≡ true → takes_perms c ≡ true → (r : ℕ) → Permutes (size c) (perm_of c p r)
  perms_grown g e r = valid.fit.chosen.perms e (entry c.form r) (grown_entry c.form c.lattice.n r g)

pub rows :
    (c : Call) (p : Choices) (b : Buffers)
    → Kept (rules c p b)
    → takes_perms c ≡ true
    → (r : ℕ)
    → r < c.lattice.n
    → Permutes (size c) (perm_of c p r)
rows c p b k = perms_of (valid_of c p b k)

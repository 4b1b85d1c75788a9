-- The choices of pair and houd: they add modulo 2, and each undoes itself.
use Rattle.std.specs.Prelude.{ℕ, zero, suc, ◌+◌, ◌%◌, ◌<◌, ◌≤◌, ◌≡◌, refl, Bool, true, false, cond, eqb, get_or}
use Rattle.std.proofs.Common.{sym, arith}
use Rattle.lemmas.specs.Bools.{never}
use Rattle.paper.specs.declared.Mode.{Mode}
use Rattle.paper.specs.declared.Mode.TheVariants.{Houd, Pair, Perm, Gperm, Jorg, Cmr}
use Rattle.paper.specs.declared.Form.TheVariants.{Sw, Wolff}
use Rattle.paper.specs.Panel.Input.{Call, Choices, size}
use Rattle.paper.specs.Panel.Takes.{is_perm}
use Rattle.paper.specs.Move.Moving.{partner, chosen, chosen_by}
use Rattle.laws.specs.Partners.{partner_twice}
use Rattle.laws.specs.Entries.{flip_of}
use Rattle.demand3.specs.Statement.{Reversible, ComposedAt, CancelsAt}

-- at every entry, also at one that no component has
abbrev pub ComposedAll : Call → Choices → Choices → Choices → Type 0
ComposedAll c p q r = (l : ℕ) → l < c.lattice.n → ComposedAt c p q r l

abbrev pub CancelsAll : Call → Choices → Choices → Type 0
CancelsAll c p q = (l : ℕ) → l < c.lattice.n → CancelsAt c p q l

flip_in :
    (m : Mode) (s : ℕ)
    → Reversible m s
    → is_perm m ≡ false
    → (c : Call) (p : Choices) (l k : ℕ)
    → chosen_by m c p l k ≡ cond (flip_of c p l) (partner (size c) k) k
flip_in Houd s v e c p l k = refl
flip_in Pair s v e c p l k = refl
flip_in Perm s v e c p l k = never (sym e)
flip_in Gperm s v e c p l k = never (sym e)
flip_in Jorg s v e c p l k = absurd v
flip_in Cmr s v e c p l k = absurd v

flips_add :
    (s x y z k : ℕ)
    → x ≤ 1
    → y ≤ 1
    → z ≡ (x + y) % 2
    → cond (eqb z 1) (partner s k) k ≡ cond (eqb x 1) (partner s (cond (eqb y 1) (partner s k) k)) (cond (eqb y 1) (partner s k) k)
flips_add s zero zero z k hx hy e = rw e refl
flips_add s zero (suc zero) z k hx hy e = rw e refl
flips_add s (suc zero) zero z k hx hy e = rw e refl
flips_add s (suc zero) (suc zero) z k hx hy e = rw e (sym (partner_twice s k))
flips_add s (suc (suc x)) y z k hx hy e = absurd (omega arith)
flips_add s zero (suc (suc y)) z k hx hy e = absurd (omega arith)
flips_add s (suc zero) (suc (suc y)) z k hx hy e = absurd (omega arith)

flip_twice : (s : ℕ) (t : Bool) (k : ℕ) → cond t (partner s (cond t (partner s k) k)) (cond t (partner s k) k) ≡ k
flip_twice s true k = partner_twice s k
flip_twice s false k = refl

module _ (c : Call) (v : Reversible c.mode (size c)) (e : is_perm c.mode ≡ false) where
  pub flip_is : (p : Choices) (l k : ℕ) → chosen c p l k ≡ cond (flip_of c p l) (partner (size c) k) k
  flip_is p l k = flip_in c.mode (size c) v e c p l k

  flip_both : (p q : Choices) (l k : ℕ) → chosen c p l (chosen c q l k) ≡ cond (flip_of c p l) (partner (size c) (chosen c q l k)) (chosen c q l k)
  flip_both p q l k = flip_is p l (chosen c q l k)

  -- SW: the flips of the one move are the sums modulo 2 of the two moves' flips
  pub add_composes :
      (p q r : Choices)
      → c.form ≡ Sw
      → ((l : ℕ) → l < c.lattice.n → get_or p.choices l 0 ≤ 1)
      → ((l : ℕ) → l < c.lattice.n → get_or q.choices l 0 ≤ 1)
      → ((l : ℕ) → l < c.lattice.n → get_or r.choices l 0 ≡ (get_or p.choices l 0 + get_or q.choices l 0) % 2)
      → ComposedAll c p q r
  add_composes p q r sw hp hq hr l hl k hk =
      rw (flip_is r l k, flip_both p q l k, flip_is q l k, sw)
      (flips_add (size c) (get_or p.choices l 0) (get_or q.choices l 0) (get_or r.choices l 0) k (hp l hl) (hq l hl) (hr l hl))

  -- the same flips cancel
  pub same_cancels : (p q : Choices) → ((l : ℕ) → flip_of c q l ≡ flip_of c p l) → CancelsAll c p q
  same_cancels p q same l hl k hk = rw (flip_both p q l k, flip_is q l k, same l) (flip_twice (size c) (flip_of c p l) k)

  -- Wolff takes no flip: two moves cancel
  pub wolff_cancels : (p q : Choices) → c.form ≡ Wolff → CancelsAll c p q
  wolff_cancels p q wolff = same_cancels p q (λ l. rw wolff)

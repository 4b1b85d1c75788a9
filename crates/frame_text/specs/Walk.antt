-- Texts that share their lines break the same rule of the frame language: none is accepted, and they have the same answers.
use Rattle.std.specs.Prelude.{ℕ, ◌+◌, ◌*◌, ◌≤◌, ◌<◌, ◌≡◌, refl, ◌⊎◌, List, [], ◌∷◌, length, get_or, drop}
use Rattle.std.proofs.Common.{sym, ◌∙◌, ap, subst, inl, inr, arith, mul-le-mul}
use Rattle.paper.specs.Panel.Input.{Lattice}
use Rattle.paper.specs.Refusal.Rule.{Rule, rule, Kept, Broken}
use Rattle.paper.specs.Answer.Frame.{next, bytes, Spelt, Frame, frame_lattice, group_bytes, FrameSizes, GroupSize, frame_rules, FrameAnswers}
use Rattle.laws.specs.FramesDetermined.{kept_of}
use Rattle.frame_text.specs.Cut.{SameAnswers}
use Rattle.frame_text.specs.Shared.{Stuck, Shared, SameLine, shared_sym, shared_some, first}

-- the first rule of rs that is broken has its like in qs; and one is broken
record Onto (rs qs : List Rule) : Type 0 where
  broken : (c : ℕ) → Broken rs c → Broken qs c
  never : Kept rs → ⊥

-- a rule that both keep or both break; and one that both break
carry : {k : ℕ} {P Q : Type 0} {rs qs : List Rule} → (P → Q) → (Q → P) → (P → Onto rs qs) → Onto (rule k P ∷ rs) (rule k Q ∷ qs)
carry {k} {P} {Q} {rs} {qs} f g h = record { broken = at; never = λ w. (h w.0).never w.1 }
  where
    at : (c : ℕ) → Broken (rule k P ∷ rs) c → Broken (rule k Q ∷ qs) c
    at c (inl w) = inl (λ q. w.0 (g q), w.1)
    at c (inr w) = inr (f w.0, (h w.0).broken c w.1)

stop : {k : ℕ} {P Q : Type 0} {rs qs : List Rule} → (P → ⊥) → (Q → ⊥) → Onto (rule k P ∷ rs) (rule k Q ∷ qs)
stop {k} {P} {Q} {rs} {qs} f g = record { broken = at; never = λ w. f w.0 }
  where
    at : (c : ℕ) → Broken (rule k P ∷ rs) c → Broken (rule k Q ∷ qs) c
    at c (inl w) = inl (g, w.1)
    at c (inr w) = absurd (f w.0)

-- ---- a line that both have, of at most f bytes; behind it the rest is shared
record Next (c : ℕ) (x y : List ℕ) : Type 0 where
  same : bytes x ≡ bytes y
  rest : Shared c (next x) (next y)

no_frame : (tag m : ℕ) (u : List ℕ) → m ≤ 2048 → (Spelt tag u → 2048 < length (bytes u)) → Frame tag m u → ⊥
no_frame tag m u l h f = omega (arith, h f.spelt, f.long)

module _ (tag m m' f b c : ℕ) (x y : List ℕ) (small : tag < 256) (e : m ≡ m') (few : m ≤ f) (fits : f ≤ 2048) (w : c + (2 * f + 3) ≤ b)
    (s : Shared b x y) where
  frame_rule : {rs qs : List Rule} → (Next c x y → Onto rs qs) → Onto (rule 11 (Frame tag m x) ∷ rs) (rule 11 (Frame tag m' y) ∷ qs)
  frame_rule {rs} {qs} h = at (first s)
    where
      at : SameLine b x y ⊎ Stuck x y → Onto (rule 11 (Frame tag m x) ∷ rs) (rule 11 (Frame tag m' y) ∷ qs)
      at (inl o) =
          carry
          (λ g. record { spelt = o.to tag g.spelt; long = ap (length {A = ℕ}) (sym o.same) ∙ (g.long ∙ e) })
          (λ g. record { spelt = o.from tag g.spelt; long = ap (length {A = ℕ}) o.same ∙ (g.long ∙ sym e) })
          (λ g. h (record { same = o.same; rest = o.onward tag c g.spelt (omega (arith, g.long)) }))
      at (inr k) = stop (no_frame tag m x (omega arith) (k.wide tag small)) (no_frame tag m' y (omega arith) (k.wide' tag small))

-- the group's line, of at most 8
abbrev group_rules : List ℕ → List Rule → List Rule
group_rules x rs = rule 11 (Spelt 0x13 x) ∷ rule 1 (GroupSize (length (bytes x))) ∷ rs

module _ (b c : ℕ) (x y : List ℕ) (w : c + 19 ≤ b) (s : Shared b x y) where
  group_rules_lem : {rs qs : List Rule} → (GroupSize (length (bytes x)) → Next c x y → Onto rs qs) → Onto (group_rules x rs) (group_rules y qs)
  group_rules_lem {rs} {qs} h = at (first s)
    where
      at : SameLine b x y ⊎ Stuck x y → Onto (group_rules x rs) (group_rules y qs)
      at (inl o) =
          carry (o.to 0x13) (o.from 0x13) (λ k. carry
          (λ g. subst (λ (bs : List ℕ). GroupSize (length bs)) o.same g)
          (λ g. subst (λ (bs : List ℕ). GroupSize (length bs)) (sym o.same) g)
          (λ g. h g (record { same = o.same; rest = o.onward 0x13 c k (omega (arith, g.high)) })))
      at (inr k) =
          carry (k.to 0x13 (omega arith)) (k.from 0x13 (omega arith)) (λ l. stop
          (λ g. omega (arith, g.high, k.wide 0x13 (omega arith) l))
          (λ g. omega (arith, g.high, k.wide' 0x13 (omega arith) (k.to 0x13 (omega arith) l))))

-- ---- the five lines, of at most 11, 4,099, 4,099, 19 and 4,099 characters
pub sizes_alike : (u v : Lattice) → u.n ≡ v.n → u.d ≡ v.d → u.s ≡ v.s → FrameSizes u → FrameSizes v
sizes_alike u v a b c s = omega arith

module _ {c : ℕ} {x y : List ℕ} (k : Next c x y) where
  n_same : (frame_lattice x []).n ≡ (frame_lattice y []).n
  n_same = ap (λ (bs : List ℕ). 256 * get_or bs 0 0 + get_or bs 1 0) k.same

  d_same : (frame_lattice x []).d ≡ (frame_lattice y []).d
  d_same = ap (λ (bs : List ℕ). get_or bs 2 0) k.same

  s_same : (frame_lattice x []).s ≡ (frame_lattice y []).s
  s_same = ap (λ (bs : List ℕ). get_or bs 3 0) k.same

  sizes_to : FrameSizes (frame_lattice x []) → FrameSizes (frame_lattice y [])
  sizes_to = sizes_alike (frame_lattice x []) (frame_lattice y []) n_same d_same s_same

  sizes_from : FrameSizes (frame_lattice y []) → FrameSizes (frame_lattice x [])
  sizes_from = sizes_alike (frame_lattice y []) (frame_lattice x []) (sym n_same) (sym d_same) (sym s_same)

perms_alike : {x y : List ℕ} → FrameSizes (frame_lattice x []) → (frame_lattice x []).n ≡ (frame_lattice y []).n → GroupSize (length (group_bytes x))
    → Next 4099 (next (next (next x))) (next (next (next y))) → Onto (drop 6 (frame_rules x)) (drop 6 (frame_rules y))
perms_alike {x} {y} z e g k =
    frame_rule 0x14 ((frame_lattice x []).n * length (group_bytes x)) ((frame_lattice y []).n * length (group_bytes y)) 2048 4099 0
    (next (next (next (next x)))) (next (next (next (next y)))) (omega arith) (λ i. e i * length (k.same i)) (mul-le-mul z.n_high g.high)
    (omega arith) (omega arith) k.rest (λ q. stop (shared_some q.rest) (shared_some (shared_sym q.rest)))

tables_alike : {x y : List ℕ} → Next 12316 x y → FrameSizes (frame_lattice x []) → Onto (drop 2 (frame_rules x)) (drop 2 (frame_rules y))
tables_alike {x} {y} k z =
    frame_rule 0x11 ((frame_lattice x []).s * (frame_lattice x []).n) ((frame_lattice y []).s * (frame_lattice y []).n) 2048 12316 8217
    (next x) (next y) (omega arith) (λ i. s_same k i * n_same k i) (mul-le-mul z.s_high z.n_high) (omega arith) (omega arith) k.rest (λ k2.
    frame_rule 0x12 (2 * ((frame_lattice x []).n * (frame_lattice x []).d)) (2 * ((frame_lattice y []).n * (frame_lattice y []).d)) 2048 8217 4118
    (next (next x)) (next (next y)) (omega arith) (λ i. 2 * (n_same k i * d_same k i)) (omega (arith, mul-le-mul z.n_high z.d_high)) (omega arith)
    (omega arith) k2.rest (λ k3.
    group_rules_lem 4118 4099 (next (next (next x))) (next (next (next y))) (omega arith) k3.rest (λ g k4. perms_alike z (n_same k) g k4)))

onto : {x y : List ℕ} → Shared 12327 x y → Onto (frame_rules x) (frame_rules y)
onto {x} {y} s =
    frame_rule 0x10 4 4 4 12327 12316 x y (omega arith) refl (omega arith) (omega arith) (omega arith) s (λ k.
    carry (sizes_to k) (sizes_from k) (λ z. tables_alike k z))

pub shared_same : {x y : List ℕ} → Shared 12327 x y → SameAnswers x y
shared_same s = record { to = λ out. at s out; from = λ out. at (shared_sym s) out }
  where
    at : {x y : List ℕ} → Shared 12327 x y → (out : List ℕ) → FrameAnswers x out → FrameAnswers y out
    at s out (inl r) = inl (record { number = r.number; why = (onto s).broken r.number r.why; written = r.written })
    at s out (inr r) = absurd ((onto s).never (kept_of _ r))

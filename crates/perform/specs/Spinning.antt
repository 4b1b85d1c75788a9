-- A task keeps its group's spins +1 or -1.
use Rattle.std.specs.Prelude.{ℕ, ◌≡◌, ◌⊎◌, true, List, length, ℤ}
use Rattle.std.proofs.Common.{ap, subst, inl, inr}
use Rattle.paper.specs.Answer.Cases.{Answer, Answer.Refused, Answer.Idle, Answer.Held, Answer.Moved}
use Rattle.paper.specs.Panel.Input.{graph, Call, Choices, Buffers, spin}
use Rattle.paper.specs.Panel.Takes.{grows_by, labels_by, moves}
use Rattle.paper.specs.Site.Bonds.{holds}
use Rattle.paper.specs.Component.Sizes.{label_of}
use Rattle.paper.specs.Move.Moving.{Moves}
use Rattle.paper.specs.Refusal.Rules.{Spin, group_names, Named, Spins}
use Rattle.paper.specs.Refusal.Kept.{Valid, valid_of}
use Rattle.paper.specs.Answer.Move.{Answers, Goes, Accepted, Accepted.idle, Accepted.held, Accepted.moved}
use Rattle.laws.specs.Unique.{label_lt}
use Rattle.laws.specs.Entries.{perms_of, perms_grown}
use Rattle.laws.specs.Forms.{by_form}
use Rattle.laws.specs.Sanity.{some_moves}
use Rattle.moves.specs.Tested.{ready}
use Rattle.moves.specs.Moved.{Rows}
use Rattle.moves.specs.Finish.{final_spin}

-- ---- the group's spins are +1 or -1 after a task
abbrev GroupSpins : Call → List ℤ → Type 0
GroupSpins c xs = Spins c.lattice.n (Named c.lattice.s (group_names c.group)) xs

-- moved by the lists l and g, with the permutations that l asks for
moved_spins :
    (c : Call) (p : Choices) (b : Buffers) → Valid c p b → (l g : List ℕ) (ys : List ℤ) → (moves c.form ≡ true → Rows c p l)
    → Moves c p b.spins l g ys → GroupSpins c ys
moved_spins c p b v l g ys perms m t i w hi =
    subst (λ (u : ℕ). Spin (spin c.lattice.n ys u i)) w.is
    (rw (m.group i w.place hi w.below)
    (final_spin c p b.spins l g (ready c p b v.sound) v.fit.chosen.reference perms i w.place hi w.below))

gone_spins : (c : Call) (p : Choices) (b b' : Buffers) → Goes c p b b' → GroupSpins c b'.spins
gone_spins c p b b' w = go (by_form c.form)
  where
    v : Valid c p b
    v = valid_of c p b w.valid

    go : (labels_by c.form ≡ true) ⊎ (grows_by c.form ≡ true) → GroupSpins c b'.spins
    go (inl f) = moved_spins c p b v b'.labels b'.grey_labels b'.spins perms (w.moved f)
      where
        perms : moves c.form ≡ true → Rows c p b'.labels
        perms e q i hi =
            perms_of v (rw (e, q)) (label_of b'.labels i) (label_lt (graph c) (holds c b.spins) b'.labels (w.seen.all f).labels.labels i hi)
    go (inr f) = let m = w.turned f in moved_spins c p b v m.blue b'.members b'.spins perms m.moved
      where
        perms : moves c.form ≡ true → Rows c p (w.turned f).blue
        perms e q i hi = perms_grown v f (rw (e, q)) (label_of (w.turned f).blue i)

pub spins_after : (c : Call) (p : Choices) (b b' : Buffers) (a : Answer) → Accepted a → Answers c p b a b' → GroupSpins c b'.spins
spins_after c p b b' (Refused r) h w = elim h [ ]
spins_after c p b b' Idle idle w = rw w.still w.valid.1.1.1.0
spins_after c p b b' Held held w = rw w.still w.valid.1.1.1.0
spins_after c p b b' Moved moved w = gone_spins c p b b' w

pub length_after : (c : Call) (p : Choices) (b b' : Buffers) (a : Answer) → Answers c p b a b' → length b'.spins ≡ length b.spins
length_after c p b b' (Refused r) w = ap (λ (z : Buffers). length z.spins) w.kept
length_after c p b b' Idle w = ap length w.still
length_after c p b b' Held w = ap length w.still
length_after c p b b' Moved w = (some_moves c p b b' w).moved.long

-- What moves: at each site the group's pattern before the move becomes another pattern.
use Rattle.std.specs.Prelude.{ℕ, zero, suc, ◌+◌, ◌*◌, ◌/◌, ◌%◌, ◌<◌, ◌≡◌, ◌≢◌, Bool, true, false, not, cond, ◌&&◌, List, eqb, ltb, leb, length, get_or, ℤ, neg_ℤ, ◌*ℤ◌}
use Rattle.lemmas.specs.Counts.{count_where}
use Rattle.paper.specs.declared.Mode.{Mode}
use Rattle.paper.specs.declared.Mode.TheVariants.{Houd, Pair, Perm, Gperm, Jorg, Cmr}
use Rattle.paper.specs.declared.Form.{Form}
use Rattle.paper.specs.declared.Form.TheVariants.{Sw, Wolff, Observe, Grow}
use Rattle.paper.specs.Panel.Input.{Call, Choices, Pattern, pinned, pattern, spin, size, system}
use Rattle.paper.specs.Panel.Takes.{is_perm, takes_greys, entry}
use Rattle.paper.specs.Site.Acting.{acts}
use Rattle.paper.specs.Component.Sizes.{label_of, size_of}

-- ---- what is chosen on the component with the label r

-- a flip? SW reads it, Wolff and grow flip the seed's component
abbrev pub flip_by : Form → List ℕ → ℕ → Bool
flip_by Sw choices r = eqb (get_or choices r 0) 1
flip_by Wolff choices r = true
flip_by Observe choices r = false
flip_by Grow choices r = true

-- the permutation's value at the place k
abbrev pub perm_at : Form → ℕ → List ℕ → ℕ → ℕ → ℕ
perm_at form m choices r k = get_or choices (entry form r * m + k) 0

abbrev pub grey_at : Form → List ℕ → ℕ → ℕ
grey_at form greys r = get_or greys (entry form r) 0

-- ---- what becomes of a pattern

-- the places 0 and 1, 2 and 3, .. are partners
unfoldable pub other : ℕ → ℕ
other zero = 1
other (suc zero) = 0
other (suc (suc k)) = suc (suc (other k))

-- among m places, the last of an odd number has none
abbrev pub partner : ℕ → ℕ → ℕ
partner m k = cond (ltb k (2 * (m / 2))) (other k) k

abbrev pub flip_some : (ℕ → Bool) → Pattern → Pattern
flip_some which f k = cond (which k) (neg_ℤ (f k)) (f k)

-- replica k gets the old spin of replica p k; gauged by the pattern P
abbrev pub permute : (ℕ → ℕ) → Pattern → Pattern
permute p f k = f (p k)

abbrev pub gauged : Pattern → (ℕ → ℕ) → Pattern → Pattern
gauged P p f k = P k *ℤ P (p k) *ℤ f (p k)

-- the places that the component's choice makes of the places 0 to N - 1, in the modes that exchange spins between replicas
abbrev pub chosen_by : Mode → Call → Choices → ℕ → ℕ → ℕ
chosen_by Houd c p r k = cond (flip_by c.form p.choices r) (partner (size c) k) k
chosen_by Pair c p r k = cond (flip_by c.form p.choices r) (partner (size c) k) k
chosen_by Jorg c p r k = cond (flip_by c.form p.choices r) (partner (size c) k) k
chosen_by Perm c p r k = perm_at c.form (size c) p.choices r k
chosen_by Gperm c p r k = perm_at c.form (size c) p.choices r k
chosen_by Cmr c p r k = k

abbrev pub chosen : Call → Choices → ℕ → ℕ → ℕ
chosen c p = chosen_by c.mode c p

-- with P at the reference site. CMR's is the blue flip, of both replicas
abbrev pub act_by : Mode → Call → Choices → Pattern → ℕ → Pattern → Pattern
act_by Houd c p P r f = flip_some (λ k. flip_by c.form p.choices r && ltb k (2 * (size c / 2))) f
act_by Pair c p P r f = permute (chosen_by Pair c p r) f
act_by Jorg c p P r f = permute (chosen_by Jorg c p r) f
act_by Perm c p P r f = permute (chosen_by Perm c p r) f
act_by Gperm c p P r f = gauged P (chosen_by Gperm c p r) f
act_by Cmr c p P r f = flip_some (λ k. flip_by c.form p.choices r) f

-- CMR: bit 0 of the grey number flips the first replica, bit 1 the second
abbrev pub grey_bit : ℕ → ℕ → Bool
grey_bit g zero = eqb (g % 2) 1
grey_bit g (suc k) = eqb (g / 2 % 2) 1

-- ---- which sites it reaches

-- SW flips move components of two or more sites only
abbrev pub least_size : Mode → ℕ
least_size m = cond (is_perm m) 1 2

-- grow's list is one of members, and not of labels
abbrev pub reached_by : Form → Mode → ℕ → List ℕ → ℕ → Bool
reached_by Sw mode seed l i = leb (least_size mode) (size_of l (label_of l i))
reached_by Wolff mode seed l i = eqb (label_of l i) (label_of l seed)
reached_by Observe mode seed l i = false
reached_by Grow mode seed l i = eqb (label_of l i) 1

-- some site of the component with the label r has the mark
unfoldable pub has_one : (ℕ → Bool) → List ℕ → ℕ → Bool
has_one mark l r = ltb 0 (count_where (λ j. eqb (label_of l j) r && mark j) (length l))

-- a component with a pinned site is held
abbrev pub held : Call → List ℕ → ℕ → Bool
held c l i = has_one (pinned c) l (label_of l i)

-- the site i acts and its component, by the list l, is one that the form moves and that is not held
unfoldable pub reached : Call → List ℤ → List ℕ → ℕ → Bool
reached c xs l i = acts c xs i && (reached_by c.form c.mode c.seed l i && not (held c l i))

-- ---- the pattern at the site i after the move

abbrev pub after : Call → Choices → List ℤ → List ℕ → ℕ → Pattern
after c p xs l i k = cond (reached c xs l i) (act_by c.mode c p (pattern c xs c.reference) (label_of l i) (pattern c xs i) k) (pattern c xs i k)

-- CMR's grey components move second
abbrev pub after_grey : Call → Choices → List ℤ → List ℕ → ℕ → Pattern → Pattern
after_grey c p xs g i f k = cond (takes_greys c && reached c xs g i) (flip_some (grey_bit (grey_at c.form p.greys (label_of g i))) f k) (f k)

unfoldable pub final : Call → Choices → List ℤ → List ℕ → List ℕ → ℕ → Pattern
final c p xs l g i = after_grey c p xs g i (after c p xs l i)

-- the spins ys are the spins xs moved, where the lists l and g tell each site's component and its grey one
pub record Moves (c : Call) (p : Choices) (xs : List ℤ) (l g : List ℕ) (ys : List ℤ) : Type 0 where
  pub long : length ys ≡ length xs
  pub group : (i k : ℕ) → i < c.lattice.n → k < size c → pattern c ys i k ≡ final c p xs l g i k
  pub others : (i t : ℕ) → i < c.lattice.n → ((k : ℕ) → k < size c → t ≢ system c k) → spin c.lattice.n ys t i ≡ spin c.lattice.n xs t i

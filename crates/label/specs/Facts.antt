-- What labels and counts say.
use Rattle.std.specs.Prelude.{ℕ, ◌+◌, ◌*◌, ◌≤◌, ◌<◌, ◌≡◌, ◌↔◌, ◌≢◌, Bool, ◌&&◌, List, length}
use Rattle.std.proofs.Math.Path.{refl, sym, ap}
use Rattle.std.proofs.Common.{◌∙◌, arith, eq-eqb, ne_eqb, eqb-true}
use Rattle.std.proofs.Math.Bool.{true, false, cond, and-true}
use Rattle.std.proofs.Math.Nat.{one-mul}
use Rattle.std.proofs.Math.Decide.{ℕ_discrete, dec_lt}
use Rattle.std.proofs.Math.Dec.{eqb}
use Rattle.std.proofs.Math.ListN.{get_or}
use Rattle.lemmas.specs.Bools.{and_no}
use Rattle.lemmas.specs.Counts.{count_where, count_most}
use Rattle.paper.specs.Panel.Input.{Graph, graph, Call, Buffers}
use Rattle.paper.specs.Site.Acting.{acts}
use Rattle.paper.specs.Site.Bonds.{holds}
use Rattle.paper.specs.Component.Labels.{Joined, Labels}
use Rattle.paper.specs.Component.Marks.{marked}
use Rattle.paper.specs.Component.Sizes.{label_of, is_first, counted, size_of, Counted}
use Rattle.paper.specs.Answer.Move.{SeenAll}
use Rattle.laws.specs.Numbering.{FirstOf, first_of, first_only}
use Rattle.laws.specs.Unique.{same_label}
use Rattle.laws.specs.Counting.{acts_one}
use Rattle.label.specs.Contract.{graph_of, Labelled}
use Rattle.label.specs.Totals.{total, total_ext, total_zero, total_swap, total_one, total_count}

-- two sites have one label just if they are joined
pub one_label : {n d found : ℕ} {fwd holds l tally : List ℕ} → Labelled n d fwd holds l tally found → (i j : ℕ) → i < n → j < n
    → (get_or l i 0 ≡ get_or l j 0) ↔ Joined (graph_of n d fwd) (marked d holds) i j
one_label {n} {d} {found} {fwd} {holds} {l} h = same_label (graph_of n d fwd) (marked d holds) l h.labels

-- two sites that are first with one label are one
one_first : (l : List ℕ) (i j : ℕ) → is_first l i ≡ true → is_first l j ≡ true → label_of l i ≡ label_of l j → i ≡ j
one_first l i j a b e = go (dec_lt i j) (dec_lt j i)
  where
    go : Dec (i < j) → Dec (j < i) → i ≡ j
    go (yes h) k = absurd (first_only l j i b h e)
    go (no h) (yes k) = absurd (first_only l i j a k (sym e))
    go (no h) (no k) = omega arith

-- ---- every site is in one component, so the sizes of all that are counted add up to the number of marked sites, where a component shares its mark
module _ (mark : ℕ → Bool) (l : List ℕ) (n : ℕ) (long : length l ≡ n)
    (one : (i j : ℕ) → i < n → j < n → label_of l i ≡ label_of l j → mark i ≡ mark j) where
  -- the component whose smallest site is i is counted and has s sites; it is counted and has the site j
  of_size : ℕ → ℕ → Bool
  of_size s i = counted mark l i && eqb (size_of l (label_of l i)) s

  within : ℕ → ℕ → Bool
  within i j = counted mark l i && eqb (label_of l j) (label_of l i)

  -- the sites of the component whose smallest site is i, if it is one and counted
  sites : ℕ → ℕ
  sites i = cond (counted mark l i) (size_of l (label_of l i)) 0

  size_le : (r : ℕ) → size_of l r ≤ n
  unfolding size_of
  size_le r = rw (← long) (count_most (λ j. eqb (label_of l j) r) (length l))

  -- of all sizes one is that of i
  by_size : (i : ℕ) → total (λ s. cond (of_size s i) s 0) (n + 1) ≡ sites i
  unfolding of_size sites
  by_size i = go (counted mark l i) (size_of l (label_of l i)) (size_le (label_of l i))
    where
      swap : (x s : ℕ) (b : Bool) → eqb x s ≡ b → cond b s 0 ≡ cond b x 0
      swap x s true e = sym (eqb-true x s e)
      swap x s false e = refl

      go : (b : Bool) (x : ℕ) → x ≤ n → total (λ s. cond (b && eqb x s) s 0) (n + 1) ≡ cond b x 0
      go true x h =
          total_ext (λ s. cond (eqb x s) s 0) (λ s. cond (eqb x s) x 0) (n + 1) (λ s _. swap x s (eqb x s) refl)
          ∙ total_one (λ s. eqb x s) x (n + 1) x (omega arith) (eq-eqb x x refl) (λ k _ ne. ne_eqb x k (λ e. ne (sym e)))
      go false x h = total_zero (n + 1)

  -- the sites of i's component one by one
  by_site : (i : ℕ) → sites i ≡ total (λ j. cond (within i j) 1 0) n
  unfolding sites within size_of
  by_site i = go (counted mark l i) (label_of l i)
    where
      go : (b : Bool) (r : ℕ) → cond b (count_where (λ j. eqb (label_of l j) r) (length l)) 0 ≡ total (λ j. cond (b && eqb (label_of l j) r) 1 0) n
      go true r = rw long (sym (one-mul (count_where (λ j. eqb (label_of l j) r) n)) ∙ total_count 1 (λ j. eqb (label_of l j) r) n)
      go false r = sym (total_zero n)

  -- of all components one is j's, and it is counted if j has the mark
  by_label : (j : ℕ) → j < n → total (λ i. cond (within i j) 1 0) n ≡ cond (mark j) 1 0
  unfolding within
  by_label j jl = go (mark j) refl
    where
      f : FirstOf l j
      f = first_of l j

      low : f.at < n
      low = omega (arith, f.low)

      own : within f.at j ≡ mark j
      own =
          rw (f.is, eq-eqb (label_of l j) (label_of l f.at) (sym f.same), and-true (mark f.at))
          (one f.at j low jl f.same)

      other : (k : ℕ) → k ≢ f.at → (a b : Bool) → is_first l k ≡ a → eqb (label_of l j) (label_of l k) ≡ b → (a && mark k) && b ≡ false
      other k ne true true p q = absurd (ne (one_first l k f.at p f.is (sym (eqb-true _ _ q) ∙ sym f.same)))
      other k ne true false p q = and_no (mark k)
      other k ne false b p q = refl

      others : (k : ℕ) → k ≢ f.at → within k j ≡ false
      others k ne = other k ne (is_first l k) (eqb (label_of l j) (label_of l k)) refl refl

      none : mark j ≡ false → (k : ℕ) → Dec (k ≡ f.at) → within k j ≡ false
      none e k (yes q) = rw q (own ∙ e)
      none e k (no q) = others k q

      go : (b : Bool) → mark j ≡ b → total (λ i. cond (within i j) 1 0) n ≡ cond b 1 0
      go true e = total_one (λ i. within i j) 1 n f.at low (own ∙ e) (λ k _ ne. others k ne)
      go false e = total_ext (λ i. cond (within i j) 1 0) (λ i. 0) n (λ k _. rw (none e k (ℕ_discrete k f.at))) ∙ total_zero n

  pub sizes_total : (counts : List ℕ) → Counted mark l counts → total (λ s. s * get_or counts s 0) (n + 1) ≡ count_where mark n
  unfolding of_size
  sizes_total counts h =
      total_ext (λ s. s * get_or counts s 0) (λ s. total (λ i. cond (of_size s i) s 0) n) (n + 1) each
      ∙ (total_swap (λ s i. cond (of_size s i) s 0) (n + 1) n
      ∙ (total_ext (λ i. total (λ s. cond (of_size s i) s 0) (n + 1)) (λ i. total (λ j. cond (within i j) 1 0) n) n (λ i _. by_size i ∙ by_site i)
      ∙ (total_swap (λ i j. cond (within i j) 1 0) n n
      ∙ (total_ext (λ j. total (λ i. cond (within i j) 1 0) n) (λ j. cond (mark j) 1 0) n by_label
      ∙ (sym (total_count 1 mark n) ∙ one-mul (count_where mark n))))))
    where
      each : (s : ℕ) → s < n + 1 → s * get_or counts s 0 ≡ total (λ i. cond (of_size s i) s 0) n
      each s sl = ap (λ (x : ℕ). s * x) (h.each s (omega arith)) ∙ rw (← long) (total_count s (of_size s) (length l))

-- with a mark that joined sites share, the sum over all sizes s of s times count s is the number of marked sites
pub counts_total : {found : ℕ} (t : Graph) (holding : ℕ → ℕ → Bool) (mark : ℕ → Bool) (l counts : List ℕ) → Labels t holding l found
    → ((i j : ℕ) → Joined t holding i j → mark i ≡ mark j) → Counted mark l counts
    → total (λ s. s * get_or counts s 0) (t.n + 1) ≡ count_where mark t.n
counts_total t holding mark l counts h one k =
    sizes_total mark l t.n h.long (λ i j il jl e. one i j (h.joined i j il jl e)) counts k

-- and so in every move that labels it is the number of acting sites, since these are whole components
pub acting_total : (c : Call) (b b' : Buffers) → SeenAll c b b'
    → total (λ s. s * get_or b'.counts s 0) (c.lattice.n + 1) ≡ count_where (acts c b.spins) c.lattice.n
acting_total c b b' s =
    counts_total (graph c) (holds c b.spins) (acts c b.spins) b'.labels b'.counts s.labels.labels (λ i j w. acts_one c b.spins w)
    s.counts

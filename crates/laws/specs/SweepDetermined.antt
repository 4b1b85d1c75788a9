-- One sweep has one answer and one content of every buffer.
use Rattle.std.specs.Prelude.{ℕ, zero, suc, ◌+◌, ◌*◌, ◌/◌, ◌%◌, ◌<◌, ◌≡◌, refl, ◌⊎◌, ◌≢◌, Bool, true, false, not, ◌&&◌, List, length, get_or, drop, ℤ, pos}
use Rattle.std.proofs.Common.{sym, ◌∙◌, ap, inl, inr, arith, div-add-mod', mod-lt, div-lt_iff_lt-mul, ext_get_or, get_or-take, get_or-drop}
use Rattle.std.proofs.Math.Decide.{ℕ_discrete}
use Rattle.lemmas.specs.Bools.{never}
use Rattle.lemmas.specs.Counts.{count_ext}
use Rattle.lemmas.specs.Places.{Placed, Unplaced, place}
use Rattle.paper.specs.Answer.Cases.{Answer}
use Rattle.paper.specs.Answer.Cases.{SweepAnswer, SweepAnswer.Fault, SweepAnswer.Swept}
use Rattle.paper.specs.Panel.Input.{Buffers, spin, pattern, system}
use Rattle.paper.specs.Panel.Takes.{grows_by, labels_by, takes_grey_labels}
use Rattle.paper.specs.Refusal.Rule.{broken_unique, broken_not_kept}
use Rattle.paper.specs.Refusal.Rules.{When}
use Rattle.paper.specs.Answer.Task.{Sweep, tasks, masked, part, task_call, task_choices, areas, is_idle, is_moved, is_held, tasks_that}
use Rattle.paper.specs.Answer.Sweep.{common, sweep_rules, Sweeps, SweepAnswers}
use Rattle.laws.specs.SweepKept.{SweepValid, sweep_valid_of}
use Rattle.laws.specs.Determined.{Same, buffers_equal, determined}

-- ---- a list is its parts
part_at : (k m : ℕ) (xs : List ℕ) (o : ℕ) → o < m → get_or (part k m xs) o 0 ≡ get_or xs (k * m + o) 0
part_at k m xs o h = get_or-take m (drop (k * m) xs) o 0 h ∙ get_or-drop (k * m) xs o 0

pub parts_equal :
    (K m : ℕ) (xs ys : List ℕ)
    → 0 < m
    → length xs ≡ K * m
    → length ys ≡ length xs
    → ((k : ℕ) → k < K → part k m xs ≡ part k m ys)
    → xs ≡ ys
parts_equal K m xs ys z long same h = ext_get_or 0 xs ys (sym same) (λ x l. rw (← div-add-mod' x m) (at (x / m) (x % m) (inside x l) (mod-lt x z)))
  where
    inside : (x : ℕ) → x < length xs → x / m < K
    inside x l = (div-lt_iff_lt-mul z).1 (rw long at l)

    at : (k o : ℕ) → k < K → o < m → get_or xs (k * m + o) 0 ≡ get_or ys (k * m + o) 0
    at k o hk ho = sym (part_at k m xs o ho) ∙ (ap (λ (q : List ℕ). get_or q o 0) (h k hk) ∙ part_at k m ys o ho)

-- ---- a system is in an unmasked task's group, or in none
record Located (w : Sweep) (K t : ℕ) : Type 0 where
  task : ℕ
  below : task < K
  open' : masked w task ≡ false
  place : ℕ
  inside : place < w.members
  is : t ≡ system (task_call w task) place

abbrev Nowhere : Sweep → ℕ → ℕ → Type 0
Nowhere w K t = (k x : ℕ) → k < K → masked w k ≡ false → x < w.members → t ≢ system (task_call w k) x

locate : (w : Sweep) (K t : ℕ) → Located w K t ⊎ Nowhere w K t
locate w zero t = inr (λ k x h _ _ _. omega arith)
locate w (suc K) t = go (locate w K t) (masked w K) refl (place w.members (system (task_call w K)) t)
  where
    extend : Nowhere w K t → ((x : ℕ) → masked w K ≡ false → x < w.members → t ≢ system (task_call w K) x) → Nowhere w (suc K) t
    extend r last k x h q l = at (ℕ_discrete k K)
      where
        at : Dec (k ≡ K) → t ≢ system (task_call w k) x
        at (yes e) = rw e (last x (rw e at q) l)
        at (no e) = r k x (omega arith) q l

    sooner : Located w K t → Located w (suc K) t
    sooner r = record { task = r.task; below = omega (arith, r.below); open' = r.open'; place = r.place; inside = r.inside; is = r.is }

    go :
        Located w K t ⊎ Nowhere w K t
        → (b : Bool)
        → masked w K ≡ b
        → Placed w.members (system (task_call w K)) t ⊎ Unplaced w.members (system (task_call w K)) t
        → Located w (suc K) t ⊎ Nowhere w (suc K) t
    go (inl r) b e q = inl (sooner r)
    go (inr r) false e (inl q) = inl (record { task = K; below = omega arith; open' = e; place = q.0; inside = q.1; is = q.2 })
    go (inr r) false e (inr q) = inr (extend r (λ x _ l. q x l))
    go (inr r) true e q = inr (extend r (λ x f l. never (sym f ∙ e)))

module _ (w : Sweep) (b y z : Buffers) (i₁ m₁ h₁ i₂ m₂ h₂ : ℕ) (p : Sweeps w b i₁ m₁ h₁ y) (q : Sweeps w b i₂ m₂ h₂ z) where
  -- what the two answer to one task, and what they leave of it
  task_determined :
      (k : ℕ) (h : k < tasks w) (e : masked w k ≡ false)
      → Same (p.answered k) (areas w y (p.each k h e).spins k) (q.answered k) (areas w z (q.each k h e).spins k)
  task_determined k h e =
      determined (task_call w k) (task_choices w k) (areas w b b.spins k) (areas w y (p.each k h e).spins k) (areas w z (q.each k h e).spins k)
      (p.answered k) (q.answered k) (p.each k h e).answers (q.each k h e).answers

  task_same : (k : ℕ) (h : k < tasks w) (e : masked w k ≡ false) → areas w y (p.each k h e).spins k ≡ areas w z (q.each k h e).spins k
  task_same k h e = (task_determined k h e).buffers

  -- so as many tasks have an answer of one kind
  kind_same : (kind : Answer → Bool) → tasks_that kind w p.answered ≡ tasks_that kind w q.answered
  kind_same kind = count_ext _ _ (tasks w) (λ k h. at k h (masked w k) refl)
    where
      at : (k : ℕ) → k < tasks w → (t : Bool) → masked w k ≡ t → (not t && kind (p.answered k)) ≡ (not t && kind (q.answered k))
      at k h false e = ap kind (task_determined k h e).answer
      at k h true e = refl

  answer_same : Swept i₁ m₁ h₁ ≡ Swept i₂ m₂ h₂
  answer_same =
      ap (λ (vs : List ℕ). Swept (get_or vs 0 0) (get_or vs 1 0) (get_or vs 2 0))
      (p.counts ∙ (cc (kind_same is_idle, kind_same is_moved, kind_same is_held) ∙ sym q.counts))

  -- a field f of the areas that is not the spins
  areas_same :
      {A : Type 0} (f : Buffers → A)
      → ((v : Buffers) (xs xs' : List ℤ) (k : ℕ) → f (areas w v xs k) ≡ f (areas w v xs' k))
      → (k : ℕ)
      → k < tasks w
      → f (areas w y b.spins k) ≡ f (areas w z b.spins k)
  areas_same f free k h = go (masked w k) refl
    where
      go : (t : Bool) → masked w k ≡ t → f (areas w y b.spins k) ≡ f (areas w z b.spins k)
      go true e = ap f (p.skipped k h e ∙ sym (q.skipped k h e))
      go false e = free y b.spins (p.each k h e).spins k ∙ (ap f (task_same k h e) ∙ free z (q.each k h e).spins b.spins k)

  valid : SweepValid w b
  valid = sweep_valid_of w b p.valid

  some : 0 < w.lattice.n
  some = valid.ranged.ranged.lattice.n_low

  spins_same : y.spins ≡ z.spins
  spins_same =
      ext_get_or (pos 0) y.spins z.spins (p.lengths.spins ∙ sym q.lengths.spins)
      (λ x _. rw (← div-add-mod' x n) (cell (x / n) (x % n) (mod-lt x some)))
    where
      n : ℕ
      n = w.lattice.n

      at :
          (t i : ℕ)
          → i < w.lattice.n
          → Located w (tasks w) t ⊎ Nowhere w (tasks w) t
          → spin w.lattice.n y.spins t i ≡ spin w.lattice.n z.spins t i
      at t i h (inl r) =
          rw r.is
          ((p.each r.task r.below r.open').rows i r.place h r.inside
          ∙ (ap (λ (v : Buffers). pattern (task_call w r.task) v.spins i r.place) (task_same r.task r.below r.open')
          ∙ sym ((q.each r.task r.below r.open').rows i r.place h r.inside)))
      at t i h (inr r) = p.others i t h r ∙ sym (q.others i t h r)

      cell : (t i : ℕ) → i < w.lattice.n → spin w.lattice.n y.spins t i ≡ spin w.lattice.n z.spins t i
      cell t i h = at t i h (locate w (tasks w) t)

  -- a buffer whose tasks' parts have m elements, and that is kept whole where it is not written
  part_same :
      (t : Bool) (m : ℕ) (f : Buffers → List ℕ)
      → 0 < m
      → When t (length (f b) ≡ tasks w * m)
      → length (f y) ≡ length (f b)
      → length (f z) ≡ length (f b)
      → ((k : ℕ) → k < tasks w → part k m (f y) ≡ part k m (f z))
      → (t ≡ false → f y ≡ f b)
      → (t ≡ false → f z ≡ f b)
      → f y ≡ f z
  part_same true m f some long ly lz same ky kz = parts_equal (tasks w) m (f y) (f z) some (ly ∙ long refl) (lz ∙ sym ly) same
  part_same false m f some long ly lz same ky kz = ky refl ∙ sym (kz refl)

  labels_same : y.labels ≡ z.labels
  labels_same =
      part_same (labels_by w.form) w.lattice.n (λ v. v.labels) some valid.exact.labels p.lengths.labels q.lengths.labels
      (areas_same (λ v. v.labels) (λ v xs xs' k. refl)) p.kept.labels q.kept.labels

  grey_same : y.grey_labels ≡ z.grey_labels
  grey_same =
      part_same (takes_grey_labels (common w)) w.lattice.n (λ v. v.grey_labels) some valid.exact.grey_labels p.lengths.grey_labels
      q.lengths.grey_labels (areas_same (λ v. v.grey_labels) (λ v xs xs' k. refl)) p.kept.grey_labels q.kept.grey_labels

  counts_same : y.counts ≡ z.counts
  counts_same =
      part_same (labels_by w.form) (w.lattice.n + 1) (λ v. v.counts) (omega arith) valid.exact.counts p.lengths.counts q.lengths.counts
      (areas_same (λ v. v.counts) (λ v xs xs' k. refl)) p.kept.counts q.kept.counts

  sizes_same : y.sizes ≡ z.sizes
  sizes_same =
      part_same (labels_by w.form) 4 (λ v. v.sizes) (omega arith) valid.exact.sizes p.lengths.sizes q.lengths.sizes
      (areas_same (λ v. v.sizes) (λ v xs xs' k. refl)) p.kept.sizes q.kept.sizes

  members_same : y.members ≡ z.members
  members_same =
      part_same (grows_by w.form) w.lattice.n (λ v. v.members) some valid.exact.members p.lengths.members q.lengths.members
      (areas_same (λ v. v.members) (λ v xs xs' k. refl)) p.kept.members q.kept.members

  -- of one number a task
  found_same : y.found ≡ z.found
  found_same =
      part_same (labels_by w.form) 1 (λ v. v.found) (omega arith) (λ t. omega (arith, valid.exact.found t)) p.lengths.found q.lengths.found
      (areas_same (λ v. v.found) (λ v xs xs' k. refl)) p.kept.found q.kept.found

  grey_found_same : y.grey_found ≡ z.grey_found
  grey_found_same =
      part_same (takes_grey_labels (common w)) 1 (λ v. v.grey_found) (omega arith) (λ t. omega (arith, valid.exact.grey_found t))
      p.lengths.grey_found q.lengths.grey_found (areas_same (λ v. v.grey_found) (λ v xs xs' k. refl)) p.kept.grey_found
      q.kept.grey_found

  buffers_same : y ≡ z
  buffers_same = buffers_equal y z spins_same labels_same grey_same counts_same sizes_same members_same found_same grey_found_same

pub record SameSweep (a₁ : SweepAnswer) (b₁ : Buffers) (a₂ : SweepAnswer) (b₂ : Buffers) : Type 0 where
  pub answer : a₁ ≡ a₂
  pub buffers : b₁ ≡ b₂

pub sweep_determined : (w : Sweep) (b y z : Buffers) (a a' : SweepAnswer) → SweepAnswers w b a y → SweepAnswers w b a' z → SameSweep a y a' z
sweep_determined w b y z (Fault r) (Fault s) f g = record {
  answer = ap Fault (broken_unique (sweep_rules w b) r s f.why g.why);
  buffers = f.kept ∙ sym g.kept;
}
sweep_determined w b y z (Fault r) (Swept i m h) f g = absurd (broken_not_kept (sweep_rules w b) r f.why g.valid)
sweep_determined w b y z (Swept i m h) (Fault s) f g = absurd (broken_not_kept (sweep_rules w b) s g.why f.valid)
sweep_determined w b y z (Swept i m h) (Swept j o l) f g = record {
  answer = answer_same w b y z i m h j o l f g;
  buffers = buffers_same w b y z _ _ _ _ _ _ f g;
}

-- To observe changes no spin, in a move and in a sweep.
use Rattle.std.specs.Prelude.{ℕ, ◌<◌, ◌≡◌, refl, ◌⊎◌, true, false, List, ℤ}
use Rattle.std.proofs.Common.{sym, ◌∙◌, ap, inl, inr}
use Rattle.lemmas.specs.Bools.{never, and_no}
use Rattle.paper.specs.declared.Mode.{Mode}
use Rattle.paper.specs.declared.Form.{Form}
use Rattle.paper.specs.declared.Form.TheVariants.{Sw, Wolff, Observe, Grow}
use Rattle.paper.specs.Answer.Cases.{Answer, Answer.Refused, Answer.Idle, Answer.Held, Answer.Moved}
use Rattle.paper.specs.Answer.Cases.{SweepAnswer.Swept}
use Rattle.paper.specs.Panel.Input.{Call, Choices, Buffers, pattern}
use Rattle.paper.specs.Panel.Takes.{grows_by, labels_by, moves, takes_greys}
use Rattle.paper.specs.Site.Acting.{acts}
use Rattle.paper.specs.Move.Moving.{reached_by, reached, final, Moves}
use Rattle.paper.specs.Refusal.Kept.{valid_of}
use Rattle.paper.specs.Answer.Move.{Goes, Answers}
use Rattle.paper.specs.Answer.Task.{Sweep, tasks, masked, task_call, task_choices, areas}
use Rattle.paper.specs.Answer.Sweep.{Done, Sweeps}
use Rattle.laws.specs.Forms.{by_form, grows_moves}
use Rattle.laws.specs.Unique.{spins_equal}
use Rattle.laws.specs.SweepDetermined.{sweep_determined}

none_reached : (f : Form) (m : Mode) (seed : ℕ) (l : List ℕ) (i : ℕ) → moves f ≡ false → reached_by f m seed l i ≡ false
none_reached Sw m seed l i e = never (sym e)
none_reached Wolff m seed l i e = never (sym e)
none_reached Observe m seed l i e = refl
none_reached Grow m seed l i e = never (sym e)

-- ---- a move
module _ (c : Call) (p : Choices) (still : moves c.form ≡ false) where
  pattern_stays : (xs : List ℤ) (l g : List ℕ) (i k : ℕ) → final c p xs l g i k ≡ pattern c xs i k
  unfolding final reached
  pattern_stays xs l g i k =
      rw (
        none_reached c.form c.mode c.seed l i still,
        none_reached c.form c.mode c.seed g i still,
        and_no (acts c xs i),
        and_no (takes_greys c),
      )

  goes_nowhere : (b b' : Buffers) → Goes c p b b' → b'.spins ≡ b.spins
  goes_nowhere b b' w = go (by_form c.form)
    where
      same : Moves c p b.spins b'.labels b'.grey_labels b'.spins → b'.spins ≡ b.spins
      same m =
          spins_equal c b'.spins b.spins (valid_of c p b w.valid).sound.ranged.lattice.n_low m.long
          (λ i k hi hk. m.group i k hi hk ∙ pattern_stays b.spins b'.labels b'.grey_labels i k)
          m.others

      go : (labels_by c.form ≡ true) ⊎ (grows_by c.form ≡ true) → b'.spins ≡ b.spins
      go (inl q) = same (w.moved q)
      go (inr q) = never (sym still ∙ grows_moves c.form q)

  pub observed_still : (b b' : Buffers) (a : Answer) → Answers c p b a b' → b'.spins ≡ b.spins
  observed_still b b' (Refused r) w = ap (λ (z : Buffers). z.spins) w.kept
  observed_still b b' Idle w = w.still
  observed_still b b' Held w = w.still
  observed_still b b' Moved w = goes_nowhere b b' w

-- ---- a sweep
module _ (w : Sweep) (still : moves w.form ≡ false) (b b' : Buffers) (i m h : ℕ) (s : Sweeps w b i m h b') where
  -- what the sweep left, with the spins before it
  abbrev unmoved : Buffers
  unmoved = record {
    spins = b.spins;
    labels = b'.labels;
    grey_labels = b'.grey_labels;
    counts = b'.counts;
    sizes = b'.sizes;
    members = b'.members;
    found = b'.found;
    grey_found = b'.grey_found;
  }

  done : (k : ℕ) → k < tasks w → masked w k ≡ false → Done w b unmoved k (s.answered k)
  done k h e =
      let d = s.each k h e in
      let stay : d.spins ≡ b.spins =
      observed_still (task_call w k) (task_choices w k) still (areas w b b.spins k) (areas w b' d.spins k) (s.answered k) d.answers in
      record { spins = b.spins; answers = rw stay at d.answers; rows = λ _ _ _ _. refl }

  -- that is an outcome of the sweep too, and a sweep has one
  again : Sweeps w b i m h unmoved
  again = record {
    valid = s.valid;
    answered = s.answered;
    counts = s.counts;
    lengths = record {
      spins = refl;
      labels = s.lengths.labels;
      counts = s.lengths.counts;
      sizes = s.lengths.sizes;
      grey_labels = s.lengths.grey_labels;
      members = s.lengths.members;
      found = s.lengths.found;
      grey_found = s.lengths.grey_found;
    };
    each = done;
    skipped = s.skipped;
    others = λ _ _ _ _. refl;
    kept = record {
      labels = s.kept.labels;
      grey_labels = s.kept.grey_labels;
      counts = s.kept.counts;
      sizes = s.kept.sizes;
      members = s.kept.members;
      found = s.kept.found;
      grey_found = s.kept.grey_found;
    };
  }

  pub sweep_observed_still : b'.spins ≡ b.spins
  sweep_observed_still = ap (λ (z : Buffers). z.spins) (sweep_determined w b b' unmoved (Swept i m h) (Swept i m h) s again).buffers

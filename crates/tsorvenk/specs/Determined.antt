-- How tight the promises are: what each allows for one input is one number and one content of every lent buffer.
use Rattle.std.specs.Prelude.{ℕ, ◌≡◌, Bool, List, length, ℤ}
use Rattle.std.proofs.Common.{sym, ◌∙◌, ap}
use Rattle.std.proofs.Math.Decide.{ℕ_discrete}
use Rattle.paper.specs.Answer.Cases.{MeterAnswer, MeterAnswer.Unmetered, MeterAnswer.Energy}
use Rattle.paper.specs.Answer.Cases.{SweepAnswer}
use Rattle.paper.specs.Panel.Input.{Lattice, Call, Choices, Buffers}
use Rattle.paper.specs.Panel.Takes.{keeps_by}
use Rattle.paper.specs.Refusal.Rule.{Kept, broken_unique, broken_not_kept}
use Rattle.paper.specs.Refusal.Verdict.{Verdict, verdict_unique}
use Rattle.paper.specs.Answer.Number.{sweep_values, meter_values}
use Rattle.paper.specs.Answer.Meter.{meter_determined}
use Rattle.paper.specs.Answer.Task.{Sweep}
use Rattle.paper.specs.Answer.Team.{Team, Owned, read, read_call, read_sweep, hand_over_rules}
use Rattle.laws.specs.KeepDetermined.{SameSweepKept}
use Rattle.label.specs.Entry.{Request, Lent}
use Rattle.label.specs.Determined.{components_determined}
use Rattle.frame_lines.specs.Outcome.{Written}
use Rattle.frame_lines.specs.Number.{written_values}
use Rattle.frame_lines.specs.Determined.{SameWritten}
use Rattle.frame.specs.Determined.{run_determined}
use Rattle.draws.specs.declared.Source.{Source}
use Rattle.draws.specs.Answer.{Left}
use Rattle.draws.specs.Promise.{WordDrawn, CoinDrawn, BelowDrawn, PermutationDrawn, FlipsFilled, BelowFilled, BytesFilled}
use Rattle.draws.specs.Promise.{PermutationsFilled, WolffFilled, GreysFilled, NumbersFilled, WolffNumbersFilled}
use Rattle.draws.specs.Determined as Draw
use Rattle.edges.specs.Cases.{Listing, Listing.Unlisted, Listing.Wrote}
use Rattle.edges.specs.Answer.{Net, net_of, ReadAnswers, listing_values}
use Rattle.edges.specs.Determined.{read_edges_determined, write_edges_determined}
use Rattle.orders.specs.declared.Numbered.{Numbered}
use Rattle.orders.specs.Answers.{values, RowAnswers}
use Rattle.orders.proofs.Determined.{row_of_determined, number_of_determined}
use Rattle.coded.specs.Takes.{numbers_by}
use Rattle.laws.specs.Owners.{owned_both}
use Rattle.coded.specs.Determined.{overlap_step_by_determined, overlap_update_by_determined}
use Rattle.coded.specs.Determined.{packed_step_by_determined}
use Rattle.packing.specs.Answer.{PackAnswers, UnpackAnswers}
use Rattle.packing.specs.Determined as Packed
use Rattle.packing.specs.Determined.{pack_determined, unpack_determined}
use Rattle.packed.specs.Packed.{lent_of}
use Rattle.tsorvenk.specs.Packed.{PackedStepAnswers}
use Rattle.tsorvenk.specs.Number.{Coded, coding_of, keeps_of, number_of, coded, Returned, values_to}
use Rattle.tsorvenk.specs.Step.{WithTotals, with_totals, StepAnswers}
use Rattle.tsorvenk.specs.Energy.{energy_rules, Metered, EnergyAs, EnergyAnswers}
use Rattle.tsorvenk.specs.Label.{LabelAnswers}
use Rattle.tsorvenk.specs.Sweep.{WithOutcomes, with_outcomes, outcome_rules, Counted, OutcomeAnswers, SweepNumbers}
use Rattle.tsorvenk.specs.Drawing.{source_of, words_of, Draws}
use Rattle.tsorvenk.specs.Edges.{Lists, lists, list_rules, Listed, ListAs, ListNumbers}
use Rattle.tsorvenk.specs.Numbering.{Ranked, RowNumbers}
use Rattle.tsorvenk.specs.Frames.{Framed, framed, Ran, FramesNumbers}

-- one answer, and one content of what was lent
pub record Same {A B : Type 0} (a a' : A) (y z : B) : Type 0 where
  pub answer : a ≡ a'
  pub buffers : y ≡ z

-- one answer has one number
module _ {A B : Type 0} {numberBy : A → ℕ} {P Q : A → Type 0} {r r' : ℕ} {y z : B} where
  same_returned : (f : Returned numberBy P r) (g : Returned numberBy Q r') → Same f.answer g.answer y z → Same r r' y z
  same_returned f g s = record { answer = f.number ∙ (ap numberBy s.answer ∙ sym g.number); buffers = s.buffers }

step_determined :
    (mode form coding keeps : ℕ) (c : Call) (p : Choices) (l y z : WithTotals) (r r' : ℕ)
    → StepAnswers mode form coding keeps c p l r y
    → StepAnswers mode form coding keeps c p l r' z
    → Same r r' y z
step_determined mode form coding keeps c p l y z r r' f g = go (coded mode form coding keeps)
  where
    go : Dec (Coded mode form coding keeps) → Same r r' y z
    go (yes k) =
        let u = f.known k in
        let v = g.known k in
        let s = overlap_step_by_determined (numbers_by (coding_of coding) c.mode c.form) (keeps_by (keeps_of keeps) c.form) c p l.buffers
        l.totals y.buffers z.buffers y.totals z.totals u.answer v.answer u.allowed v.allowed in
        same_returned u v (record { answer = s.answer; buffers = λ i. with_totals (s.buffers i) (s.totals i) })
    go (no k) = record {
      answer = (f.unknown k).number ∙ sym (g.unknown k).number;
      buffers = (f.unknown k).kept ∙ sym (g.unknown k).kept;
    }

-- on bytes
pub tsorvenk_pack_determined :
    (n m : ℕ) (rows : List ℤ) (columns : List ℕ) (r r' : ℕ) (y z : List ℕ)
    → PackAnswers n m rows columns r y → PackAnswers n m rows columns r' z → Packed.Same r r' y z
tsorvenk_pack_determined = pack_determined

pub tsorvenk_unpack_determined :
    (n m : ℕ) (columns : List ℕ) (rows : List ℤ) (r r' : ℕ) (y z : List ℤ)
    → UnpackAnswers n m columns rows r y → UnpackAnswers n m columns rows r' z → Packed.Same r r' y z
tsorvenk_unpack_determined = unpack_determined

pub record SamePackedNumber (r : ℕ) (ys : List ℕ) (b : Buffers) (us : List ℤ) (r' : ℕ) (zs : List ℕ) (b' : Buffers) (vs : List ℤ) : Type 0 where
  pub number : r ≡ r'
  pub bytes : ys ≡ zs
  pub buffers : b ≡ b'
  pub totals : us ≡ vs

module _
    (mode form coding keeps : ℕ) (c : Call) (p : Choices) (xs ys zs l g q s e f h l₁ g₁ q₁ s₁ e₁ f₁ h₁ l₂ g₂ q₂ s₂ e₂ f₂ h₂ : List ℕ)
    (ts us vs : List ℤ) (r r' : ℕ)
    (w : PackedStepAnswers mode form coding keeps c p xs (lent_of l g q s e f h) ts r ys (lent_of l₁ g₁ q₁ s₁ e₁ f₁ h₁) us)
    (v : PackedStepAnswers mode form coding keeps c p xs (lent_of l g q s e f h) ts r' zs (lent_of l₂ g₂ q₂ s₂ e₂ f₂ h₂) vs) (xs' : List ℤ)
  where
    abbrev AsOne : Type 0
    AsOne = SamePackedNumber r ys (lent_of l₁ g₁ q₁ s₁ e₁ f₁ h₁ xs') us r' zs (lent_of l₂ g₂ q₂ s₂ e₂ f₂ h₂ xs') vs

    pub tsorvenk_packed_step_determined : AsOne
    tsorvenk_packed_step_determined = go (coded mode form coding keeps)
      where
        go : Dec (Coded mode form coding keeps) → AsOne
        go (yes k) =
            let o = w.known k in
            let i = v.known k in
            let d = packed_step_by_determined (numbers_by (coding_of coding) c.mode c.form) (keeps_by (keeps_of keeps) c.form) c p xs ys zs
            l g q s e f h l₁ g₁ q₁ s₁ e₁ f₁ h₁ l₂ g₂ q₂ s₂ e₂ f₂ h₂ ts us vs o.answer i.answer o.allowed i.allowed xs' in
            record {
              number = o.number ∙ (ap number_of d.answer ∙ sym i.number);
              bytes = d.bytes;
              buffers = d.buffers;
              totals = d.totals;
            }
        go (no k) =
            let o = w.unknown k in
            let i = v.unknown k in
            record {
              number = o.number ∙ sym i.number;
              bytes = o.bytes_kept ∙ sym i.bytes_kept;
              buffers = ap (λ (b : List ℤ → Buffers). b xs') (o.kept ∙ sym i.kept);
              totals = o.totals_kept ∙ sym i.totals_kept;
            }

pub tsorvenk_hand_over_determined :
    (o : Team) (g : Lattice) (xs ts : List ℤ) (r r' : ℕ) → Verdict (hand_over_rules o g xs ts) r → Verdict (hand_over_rules o g xs ts) r' → r ≡ r'
tsorvenk_hand_over_determined o g xs ts = verdict_unique (hand_over_rules o g xs ts)

module _ (t : Lattice) (xs : List ℤ) (k : ℕ) (es y z : List ℤ) where
  -- what a written energy shows
  kept : (e : ℤ) (w : List ℤ) → Metered t xs k es e w → Kept (energy_rules t xs k es)
  kept e w m = let v = m.answers.valid in (v.0, (m.room, v))

  energy_same : (a a' : MeterAnswer) → EnergyAs t xs k es a y → EnergyAs t xs k es a' z → Same a a' y z
  energy_same (Unmetered r) (Unmetered s) f g = record {
    answer = ap Unmetered (broken_unique (energy_rules t xs k es) r s f.why g.why);
    buffers = f.kept ∙ sym g.kept;
  }
  energy_same (Unmetered r) (Energy e) f g = absurd (broken_not_kept (energy_rules t xs k es) r f.why (kept e z g))
  energy_same (Energy e) (Unmetered s) f g = absurd (broken_not_kept (energy_rules t xs k es) s g.why (kept e y f))
  energy_same (Energy e) (Energy e') f g = record {
    answer = same;
    buffers = f.written ∙ (ap (λ (a : MeterAnswer). values_to (meter_values a) es) same ∙ sym g.written);
  }
    where
      same : Energy e ≡ Energy e'
      same = meter_determined t xs k (Energy e) (Energy e') f.answers g.answers

  energy_determined : (r r' : ℕ) → EnergyAnswers t xs k es r y → EnergyAnswers t xs k es r' z → Same r r' y z
  energy_determined r r' f g = same_returned f g (energy_same f.answer g.answer f.allowed g.allowed)

pub tsorvenk_label_determined : (q : Request) (b y z : Lent) (r r' : ℕ) → LabelAnswers q b r y → LabelAnswers q b r' z → Same r r' y z
tsorvenk_label_determined q b y z r r' f g =
    let s = components_determined q b y z f.answer g.answer f.allowed g.allowed in
    same_returned f g (record { answer = s.answer; buffers = s.buffers })

-- ---- a sweep
module _ (coded keeping : Bool) (w : Sweep) (l y z : WithOutcomes) where
  counted_same : (a a' : SweepAnswer) → Counted coded keeping w l a y → Counted coded keeping w l a' z → Same a a' y z
  counted_same a a' f g = record { answer = same.answer; buffers = λ j. with_outcomes (same.buffers j) (same.totals j) (counts j) }
    where
      same : SameSweepKept a y.buffers y.totals a' z.buffers z.totals
      same = overlap_update_by_determined coded keeping w l.buffers l.totals y.buffers z.buffers y.totals z.totals a a'
          f.answers g.answers

      counts : y.outcomes ≡ z.outcomes
      counts = f.counts ∙ (ap (λ (x : SweepAnswer). values_to (sweep_values x) l.outcomes) same.answer ∙ sym g.counts)

  outcomes_same : (r r' : ℕ) → OutcomeAnswers coded keeping w l r y → OutcomeAnswers coded keeping w l r' z → Same r r' y z
  outcomes_same r r' f g = go (ℕ_discrete (length l.outcomes) 3)
    where
      go : Dec (length l.outcomes ≡ 3) → Same r r' y z
      go (yes e) =
          let u = f.roomed e in
          let v = g.roomed e in
          same_returned u v (counted_same u.answer v.answer u.allowed v.allowed)
      go (no e) = record {
        answer = broken_unique (outcome_rules coded w l) r r' (f.roomless e).why (g.roomless e).why;
        buffers = (f.roomless e).kept ∙ sym (g.roomless e).kept;
      }

sweep_determined :
    (mode form coding keeps : ℕ) (w : Sweep) (l y z : WithOutcomes) (r r' : ℕ)
    → SweepNumbers mode form coding keeps w l r y
    → SweepNumbers mode form coding keeps w l r' z
    → Same r r' y z
sweep_determined mode form coding keeps w l y z r r' f g = go (coded mode form coding keeps)
  where
    go : Dec (Coded mode form coding keeps) → Same r r' y z
    go (yes k) =
        outcomes_same (numbers_by (coding_of coding) w.mode w.form) (keeps_by (keeps_of keeps) w.form) w l y z r r' (f.known k) (g.known k)
    go (no k) = record {
      answer = (f.unknown k).number ∙ sym (g.unknown k).number;
      buffers = (f.unknown k).kept ∙ sym (g.unknown k).kept;
    }

-- ---- a team's calls: an owner test refuses, and everything is as it was lent, or the call is one of the others
module _ (o : Team) (s : ℕ) {A : Type 0} (l y z : A) (r r' : ℕ) {P Q : Type 0} (both : P → Q → Same r r' y z) where
  owned_same : Owned o s r (y ≡ l) P → Owned o s r' (z ≡ l) Q → Same r r' y z
  owned_same = owned_both (λ _. both) (λ k some e e' q q'. record { answer = e ∙ sym e'; buffers = q ∙ sym q' })

pub tsorvenk_step_determined :
    (o : Team) (mode form coding keeps : ℕ) (c : Call) (p : Choices) (l y z : WithTotals) (r r' : ℕ)
    → Owned o c.lattice.s r (y ≡ l) (StepAnswers mode form coding keeps (read_call o c) p l r y)
    → Owned o c.lattice.s r' (z ≡ l) (StepAnswers mode form coding keeps (read_call o c) p l r' z)
    → Same r r' y z
tsorvenk_step_determined o mode form coding keeps c p l y z r r' =
    owned_same o c.lattice.s l y z r r' (step_determined mode form coding keeps (read_call o c) p l y z r r')

pub tsorvenk_sweep_determined :
    (o : Team) (mode form coding keeps : ℕ) (w : Sweep) (l y z : WithOutcomes) (r r' : ℕ)
    → Owned o w.lattice.s r (y ≡ l) (SweepNumbers mode form coding keeps (read_sweep o w) l r y)
    → Owned o w.lattice.s r' (z ≡ l) (SweepNumbers mode form coding keeps (read_sweep o w) l r' z)
    → Same r r' y z
tsorvenk_sweep_determined o mode form coding keeps w l y z r r' =
    owned_same o w.lattice.s l y z r r' (sweep_determined mode form coding keeps (read_sweep o w) l y z r r')

pub tsorvenk_energy_determined :
    (o : Team) (g : Lattice) (xs : List ℤ) (t : ℕ) (es y z : List ℤ) (r r' : ℕ)
    → Owned o g.s r (y ≡ es) (EnergyAnswers g xs (read o g.s t) es r y)
    → Owned o g.s r' (z ≡ es) (EnergyAnswers g xs (read o g.s t) es r' z)
    → Same r r' y z
tsorvenk_energy_determined o g xs t es y z r r' = owned_same o g.s es y z r r' (energy_determined g xs (read o g.s t) es y z r r')

-- ---- frames
pub tsorvenk_frames_determined : (text : List ℕ) (l y z : Framed) (r r' : ℕ) → FramesNumbers text l r y → FramesNumbers text l r' z → Same r r' y z
tsorvenk_frames_determined text l y z r r' f g = go (ℕ_discrete (length l.written) 1)
  where
    ran : (w w' : Written) → Ran text l w y → Ran text l w' z → Same w w' y z
    ran w w' p q = record { answer = same.answer; buffers = λ i. framed (same.held i) (told i) }
      where
        same : SameWritten w w' y.out z.out
        same = run_determined text l.out w w' y.out z.out p.runs q.runs

        told : y.written ≡ z.written
        told = p.length_told ∙ (ap (λ (v : Written). values_to (written_values v) l.written) same.answer ∙ sym q.length_told)

    go : Dec (length l.written ≡ 1) → Same r r' y z
    go (yes e) =
        let u = f.roomed e in
        let v = g.roomed e in
        same_returned u v (ran u.answer v.answer u.allowed v.allowed)
    go (no e) = record {
      answer = (f.roomless e).number ∙ sym (g.roomless e).number;
      buffers = (f.roomless e).kept ∙ sym (g.roomless e).kept;
    }

-- one number, one source and one content of what was lent
pub record SameDrawn (r r' : ℕ) (ws ws' ys zs : List ℕ) : Type 0 where
  pub number : r ≡ r'
  pub words : ws ≡ ws'
  pub buffer : ys ≡ zs

module _ (ws xs : List ℕ) (r r' : ℕ) (us vs ys zs : List ℕ) where
  draws_determined :
      (Allowed : Source → List ℕ → Left → List ℕ → Type 0)
      → ((x y : Left) → Allowed (source_of ws) xs x ys → Allowed (source_of ws) xs y zs → Draw.Same x y ys zs)
      → Draws Allowed ws xs r us ys
      → Draws Allowed ws xs r' vs zs
      → SameDrawn r r' us vs ys zs
  draws_determined Allowed one p q = go (ℕ_discrete (length ws) 4)
    where
      go : Dec (length ws ≡ 4) → SameDrawn r r' us vs ys zs
      go (yes e) =
          let f = p.four e in
          let g = q.four e in
          let s = one f.answer g.answer f.allowed g.allowed in
          record {
            number = f.handed.number ∙ (ap (λ (l : Left). l.refusal) s.answer ∙ sym g.handed.number);
            words = f.handed.words ∙ (ap (λ (l : Left). words_of l.source) s.answer ∙ sym g.handed.words);
            buffer = s.buffer;
          }
      go (no n) =
          let f = p.other n in
          let g = q.other n in
          record { number = f.number ∙ sym g.number; words = f.words ∙ sym g.words; buffer = f.kept ∙ sym g.kept }

  pub tsorvenk_word_determined : Draws WordDrawn ws xs r us ys → Draws WordDrawn ws xs r' vs zs → SameDrawn r r' us vs ys zs
  tsorvenk_word_determined = draws_determined WordDrawn (λ x y. Draw.one_word_determined (source_of ws) xs x y ys zs)

  pub tsorvenk_coin_determined : Draws CoinDrawn ws xs r us ys → Draws CoinDrawn ws xs r' vs zs → SameDrawn r r' us vs ys zs
  tsorvenk_coin_determined = draws_determined CoinDrawn (λ x y. Draw.one_coin_determined (source_of ws) xs x y ys zs)

  pub tsorvenk_below_determined : (m : ℕ) → Draws (BelowDrawn m) ws xs r us ys → Draws (BelowDrawn m) ws xs r' vs zs → SameDrawn r r' us vs ys zs
  tsorvenk_below_determined m = draws_determined (BelowDrawn m) (λ x y. Draw.one_below_determined (source_of ws) xs x y ys zs m)

  pub tsorvenk_permutation_determined : (m : ℕ) → Draws (PermutationDrawn m) ws xs r us ys → Draws (PermutationDrawn m) ws xs r' vs zs
      → SameDrawn r r' us vs ys zs
  tsorvenk_permutation_determined m = draws_determined (PermutationDrawn m) (λ x y. Draw.one_permutation_determined (source_of ws) xs x y ys zs m)

  pub tsorvenk_fill_flips_determined : Draws FlipsFilled ws xs r us ys → Draws FlipsFilled ws xs r' vs zs → SameDrawn r r' us vs ys zs
  tsorvenk_fill_flips_determined = draws_determined FlipsFilled (λ x y. Draw.fill_flips_determined (source_of ws) xs x y ys zs)

  pub tsorvenk_fill_below_determined : (m : ℕ) → Draws (BelowFilled m) ws xs r us ys → Draws (BelowFilled m) ws xs r' vs zs → SameDrawn r r' us vs ys zs
  tsorvenk_fill_below_determined m = draws_determined (BelowFilled m) (λ x y. Draw.fill_below_determined (source_of ws) xs x y ys zs m)

  pub tsorvenk_fill_bytes_below_determined : (m : ℕ) → Draws (BytesFilled m) ws xs r us ys → Draws (BytesFilled m) ws xs r' vs zs
      → SameDrawn r r' us vs ys zs
  tsorvenk_fill_bytes_below_determined m = draws_determined (BytesFilled m) (λ x y. Draw.fill_bytes_below_determined (source_of ws) xs x y ys zs m)

  pub tsorvenk_fill_permutations_determined : (m : ℕ) → Draws (PermutationsFilled m) ws xs r us ys → Draws (PermutationsFilled m) ws xs r' vs zs
      → SameDrawn r r' us vs ys zs
  tsorvenk_fill_permutations_determined m = draws_determined (PermutationsFilled m) (λ x y. Draw.fill_permutations_determined (source_of ws) xs x y ys zs m)

  pub tsorvenk_wolff_permutation_determined : (m : ℕ) → Draws (WolffFilled m) ws xs r us ys → Draws (WolffFilled m) ws xs r' vs zs
      → SameDrawn r r' us vs ys zs
  tsorvenk_wolff_permutation_determined m = draws_determined (WolffFilled m) (λ x y. Draw.wolff_permutations_determined (source_of ws) xs x y ys zs m)

  pub tsorvenk_wolff_grey_determined : Draws GreysFilled ws xs r us ys → Draws GreysFilled ws xs r' vs zs → SameDrawn r r' us vs ys zs
  tsorvenk_wolff_grey_determined = draws_determined GreysFilled (λ x y. Draw.wolff_greys_determined (source_of ws) xs x y ys zs)

  pub tsorvenk_fill_numbers_determined : Draws NumbersFilled ws xs r us ys → Draws NumbersFilled ws xs r' vs zs → SameDrawn r r' us vs ys zs
  tsorvenk_fill_numbers_determined = draws_determined NumbersFilled (λ x y. Draw.fill_numbers_determined (source_of ws) xs x y ys zs)

  pub tsorvenk_wolff_numbers_determined : Draws WolffNumbersFilled ws xs r us ys → Draws WolffNumbersFilled ws xs r' vs zs
      → SameDrawn r r' us vs ys zs
  tsorvenk_wolff_numbers_determined = draws_determined WolffNumbersFilled (λ x y. Draw.wolff_numbers_determined (source_of ws) xs x y ys zs)

-- ---- edge lists
pub tsorvenk_read_edges_determined : (n d : ℕ) (fwd bwd text : List ℕ) (js y z : List ℤ) (r r' : ℕ) → ReadAnswers (net_of n d fwd bwd) text js r y
    → ReadAnswers (net_of n d fwd bwd) text js r' z → Same r r' y z
tsorvenk_read_edges_determined n d fwd bwd text js y z r r' f g =
    let s = read_edges_determined n d fwd bwd text js y z r r' f g in
    record { answer = s.answer; buffers = s.buffers }

module _ (n d : ℕ) (fwd bwd : List ℕ) (js : List ℤ) (l y z : Lists) where
  abbrev net : Net
  net = net_of n d fwd bwd

  list_kept : (m : ℕ) (x : Lists) → Listed net js l m x → Kept (list_rules net js l)
  list_kept m x w = let v = w.writes.valid in (v.0, (w.room, v))

  lists_same : (a a' : Listing) → ListAs net js l a y → ListAs net js l a' z → Same a a' y z
  lists_same (Unlisted c) (Unlisted e) f g = record {
    answer = ap Unlisted (broken_unique (list_rules net js l) c e f.why g.why);
    buffers = f.kept ∙ sym g.kept;
  }
  lists_same (Unlisted c) (Wrote m) f g = absurd (broken_not_kept (list_rules net js l) c f.why (list_kept m z g))
  lists_same (Wrote m) (Unlisted e) f g = absurd (broken_not_kept (list_rules net js l) e g.why (list_kept m y f))
  lists_same (Wrote m) (Wrote k) f g =
      let s = write_edges_determined n d fwd bwd js l.text y.text z.text (Wrote m) (Wrote k) f.writes g.writes in
      let told : y.written ≡ z.written =
      f.length_told ∙ (ap (λ (a : Listing). values_to (listing_values a) l.written) s.answer ∙ sym g.length_told) in
      record { answer = s.answer; buffers = λ i. lists (s.buffers i) (told i) }

  pub tsorvenk_write_edges_determined : (r r' : ℕ) → ListNumbers net js l r y → ListNumbers net js l r' z → Same r r' y z
  tsorvenk_write_edges_determined r r' f g = same_returned f g (lists_same f.answer g.answer f.allowed g.allowed)

-- ---- permutations of five and their numbers
pub tsorvenk_row_of_determined : (v : ℕ) (xs y z : List ℕ) (r r' : ℕ) → RowAnswers v xs r y → RowAnswers v xs r' z → Same r r' y z
tsorvenk_row_of_determined v xs y z r r' f g = let s = row_of_determined v xs r r' y z f g in record { answer = s.0; buffers = s.1 }

pub tsorvenk_number_of_determined : (row vs y z : List ℕ) (r r' : ℕ) → RowNumbers row vs r y → RowNumbers row vs r' z → Same r r' y z
tsorvenk_number_of_determined row vs y z r r' f g = go (ℕ_discrete (length vs) 1)
  where
    ranked : (a a' : Numbered) → Ranked row vs a y → Ranked row vs a' z → Same a a' y z
    ranked a a' p q = record { answer = same; buffers = p.written ∙ (ap (λ (x : Numbered). values_to (values x) vs) same ∙ sym q.written) }
      where
        same : a ≡ a'
        same = number_of_determined row a a' p.answers q.answers

    go : Dec (length vs ≡ 1) → Same r r' y z
    go (yes e) =
        let u = f.roomed e in
        let v = g.roomed e in
        same_returned u v (ranked u.answer v.answer u.allowed v.allowed)
    go (no e) = record {
      answer = (f.roomless e).number ∙ sym (g.roomless e).number;
      buffers = (f.roomless e).kept ∙ sym (g.roomless e).kept;
    }

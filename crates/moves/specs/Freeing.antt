-- The second half of the label step: the sizes without the held components tell whether the seed's is held, and so the answer.
use Rattle.std.specs.Prelude.{ℕ, ◌<◌, ◌≡◌, refl, Bool, true, false, not, cond, ◌&&◌, List, eqb, get_or}
use Rattle.std.proofs.Common.{sym, ◌∙◌, ap, arith, ne_eqb}
use Rattle.std.proofs.lemmas.Bool.{not-true, not-false}
use Rattle.lemmas.specs.Bools.{never}
use Rattle.paper.specs.declared.Form.{Form}
use Rattle.paper.specs.declared.Form.TheVariants.{Sw, Wolff, Observe, Grow}
use Rattle.paper.specs.declared.Task.{Task}
use Rattle.paper.specs.Answer.Cases.{Answer, Answer.Idle, Answer.Held, Answer.Moved}
use Rattle.paper.specs.Panel.Takes.{is_cmr, one_cluster, moves}
use Rattle.paper.specs.Component.Sizes.{label_of, size_of}
use Rattle.paper.specs.Move.Moving.{has_one}
use Rattle.choose.specs.Chosen.{Becomes, is_one, has_itself, Holdable, held_back, Freed, freed}
use Rattle.moves.specs.Steps.{SeedAsks}
use Rattle.moves.specs.Labelling.{GreysAsk, GreysLeave, FreeAsks, held_seed, FreeLeaves}

-- ---- whether the seed's component is held: by its size, which is then 0
none_left : (held : Bool) (size : ℕ) → 0 < size → eqb (cond held 0 size) 0 ≡ held
none_left true size h = refl
none_left false size h = ne_eqb size 0 (λ q. omega arith)

held_by_size :
    (form : Form) (seed : ℕ) {pins labels tally : List ℕ} → Freed pins labels tally → (one_cluster form ≡ true → SeedAsks seed labels tally)
    → (one_cluster form && eqb (get_or tally (label_of labels seed) 0) 0) ≡ (one_cluster form && has_one (is_one pins) labels (label_of labels seed))
held_by_size form seed {pins} {labels} {tally} f asks = go (one_cluster form) refl
  where
    go :
        (one : Bool) → one_cluster form ≡ one
        → (one && eqb (get_or tally (label_of labels seed) 0) 0) ≡ (one && has_one (is_one pins) labels (label_of labels seed))
    go true q =
        let a = asks q in
        rw (f.each (label_of labels seed) (omega (arith, a.below, f.long)))
        (none_left (has_one (is_one pins) labels (label_of labels seed)) (size_of labels (label_of labels seed)) (has_itself labels seed a.site))
    go false q = refl

-- a form that moves nothing moves no one component
rests_none : (f : Form) → moves f ≡ false → one_cluster f ≡ false
rests_none Sw e = never (sym e)
rests_none Wolff e = never (sym e)
rests_none Observe e = refl
rests_none Grow e = never (sym e)

module _
    {t : Task} {fwd pins grey labels tally grey_labels greyTally grey_found : List ℕ}
    (p : FreeAsks t fwd pins grey labels tally grey_labels greyTally grey_found)
  where
    pub holdable : Holdable pins labels tally
    holdable = record {
      labelled = p.labels_long ∙ sym p.pins_long;
      tallied = p.tallied.long ∙ (p.labels_long ∙ sym p.pins_long);
      below = λ i h. rw p.pins_long (p.below i (rw p.pins_long at h));
    }

    pub greys_ask : moves t.form ≡ true → GreysAsk t fwd pins grey grey_labels greyTally grey_found
    greys_ask moving = record { n_high = p.n_high; pins_long = p.pins_long; greys = λ e. p.greys (rw (moving, e) refl) }

    module _ {new : List ℕ} (b : Becomes (held_back pins labels tally) tally new) where
      free_sizes : Freed pins labels new
      free_sizes = freed {pins = pins} p.tallied b

      pub seed_asks : one_cluster t.form ≡ true → SeedAsks t.seed labels new
      seed_asks e =
          let h = p.seeded e in
          record {
            site = omega (arith, h, p.labels_long);
            below = omega (arith, p.below t.seed h, p.labels_long, p.tallied.long, b.long);
          }

      held_told : (one_cluster t.form && eqb (get_or new (label_of labels t.seed) 0) 0) ≡ held_seed t pins labels
      held_told = held_by_size t.form t.seed free_sizes seed_asks

      -- ---- where the form moves
      pub free_moves :
          {some held : Bool} {r : Answer} {newLabels newTally newFound : List ℕ} → not some ≡ false → moves t.form ≡ true
          → GreysLeave (is_cmr t.mode) t fwd pins grey grey_labels grey_found newLabels newTally newFound
          → held ≡ (one_cluster t.form && eqb (get_or new (label_of labels t.seed) 0) 0)
          → r ≡ cond held Held Moved
          → FreeLeaves t some fwd pins grey labels grey_labels grey_found new newLabels newTally newFound r
      free_moves {some} {held} {r} e moving g h a = rw (not-false some e) (record {
        answer = a ∙ ap (λ (x : Bool). cond x Held Moved) (h ∙ held_told);
        freed = λ _ _. free_sizes;
        greys = rw moving g;
      })

    -- ---- where no site acts, and where the form moves nothing
    pub free_idle : {some : Bool} → not some ≡ true → FreeLeaves t some fwd pins grey labels grey_labels grey_found tally grey_labels greyTally grey_found Idle
    free_idle {some} e = rw (not-true some e) (record {
      answer = refl;
      freed = λ q _. never q;
      greys = record { labels = λ q. never q; freed = λ q. never q; kept = λ _. refl; found_kept = λ _. refl };
    })

    pub free_rests :
        {some : Bool} → not some ≡ false → moves t.form ≡ false
        → FreeLeaves t some fwd pins grey labels grey_labels grey_found tally grey_labels greyTally grey_found Moved
    free_rests {some} e resting = rw (not-false some e) (record {
      answer = rw (rests_none t.form resting) refl;
      freed = λ _ q. never (sym resting ∙ q);
      greys = rw resting (record { labels = λ q. never q; freed = λ q. never q; kept = λ _. refl; found_kept = λ _. refl });
    })

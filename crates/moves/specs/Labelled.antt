-- From what the two halves of the label step leave to what it leaves.
use Rattle.std.specs.Prelude.{ℕ, ◌≡◌, refl, ◌↔◌, Bool, true, false, cond, ◌&&◌, List, ℤ, Float}
use Rattle.std.proofs.Common.{sym, ◌∙◌}
use Rattle.lemmas.specs.Bools.{never, and_left, and_right, and_no}
use Rattle.lemmas.specs.Tells.{Tells}
use Rattle.paper.specs.declared.Task.{Task}
use Rattle.paper.specs.declared.Mode.{Mode}
use Rattle.paper.specs.declared.Mode.TheVariants.{Houd, Pair, Perm, Gperm, Jorg, Cmr}
use Rattle.paper.specs.Answer.Cases.{Answer, Answer.Idle, Answer.Held, Answer.Moved}
use Rattle.paper.specs.Panel.Input.{Call, pinned, graph}
use Rattle.paper.specs.Panel.Made.{call_of, buffers_of}
use Rattle.paper.specs.Panel.Takes.{is_cmr, one_cluster, moves, takes_greys}
use Rattle.paper.specs.Site.Acting.{acts, SomeActs}
use Rattle.paper.specs.Site.Bonds.{holds}
use Rattle.paper.specs.Component.Sizes.{label_of}
use Rattle.paper.specs.Move.Moving.{has_one}
use Rattle.paper.specs.Answer.Move.{SeenAll, SeedHeld}
use Rattle.laws.specs.Unique.{label_lt}
use Rattle.laws.specs.Holding.{held_labels}
use Rattle.column_rules.specs.Sight.{none_acts}
use Rattle.moves.specs.Tested.{Tested}
use Rattle.moves.specs.Steps.{LabelLeaves}
use Rattle.moves.specs.Leaves.{beside_of}
use Rattle.moves.specs.Labelling.{FreeAsks, held_seed, FreeLeaves, TaskAsks, Foretells, TaskLeaves}
use Rattle.moves.specs.Held.{grey_labels_lem}

-- in CMR every site acts
acts_cmr : (m : Mode) (c : Call) (xs : List ℤ) → c.mode ≡ m → is_cmr m ≡ true → acts c xs 0 ≡ true
unfolding acts
acts_cmr Houd c xs q e = never e
acts_cmr Pair c xs q e = never e
acts_cmr Perm c xs q e = never e
acts_cmr Gperm c xs q e = never e
acts_cmr Jorg c xs q e = never e
acts_cmr Cmr c xs q e = rw q refl

-- a flag that tells of what holds is true
flagged : {P : Type 0} (r : Bool) → Tells r P → P → r ≡ true
flagged true h p = refl
flagged false h p = absurd (h p)

module _
    {t : Task} {fwd pins : List ℕ} {couplings : List ℤ} {cuts : List Float}
    {cols₀ flags₀ holding₀ grey₀ tally₀ greyTally₀ labels₀ greyLabels₀ counts₀ sizes₀ found₀ greyFound₀ : List ℕ}
    (p : TaskAsks t fwd pins couplings cuts cols₀ flags₀ holding₀ grey₀ tally₀ greyTally₀ labels₀ greyLabels₀ counts₀ sizes₀ found₀ greyFound₀)
    (bwd : List ℕ) {xs : List ℤ} (tested : Tested t.mode t.n t.d fwd t.group xs)
    {cols flags grey tally labels counts sizes found : List ℕ} {some : Bool}
    (d : LabelLeaves (call_of t fwd bwd pins couplings cuts) xs cols flags grey tally labels counts sizes found some)
  where
    abbrev c : Call
    c = call_of t fwd bwd pins couplings cuts

    pub free_asks : FreeAsks t fwd pins grey labels tally greyLabels₀ greyTally₀ greyFound₀
    free_asks = record {
      n_high = tested.n_high;
      pins_long = p.pins_long;
      labels_long = d.labelled.labels.long;
      below = label_lt (graph c) (holds c xs) labels d.labelled.labels;
      tallied = d.tallied;
      seeded = p.seeded;
      greys = λ e. record {
        d_high = tested.d_high;
        fwd_long = tested.fwd_long;
        ahead_lt = tested.ahead_lt;
        grey_long = d.grey_long;
        lent = p.greys e;
      };
    }

    module _
        {tally' grey_labels greyTally grey_found : List ℕ} {a : Answer}
        (f : FreeLeaves t some fwd pins grey labels greyLabels₀ greyFound₀ tally' grey_labels greyTally grey_found a)
      where
        -- whether the seed's component is held, by its label and by the bonds
        seed_held : one_cluster t.form ≡ true → (has_one (pinned c) labels (label_of labels t.seed) ≡ true) ↔ SeedHeld c xs
        seed_held q = held_labels c xs (p.seeded q) labels d.labelled.labels

        says : Foretells c xs a
        says = rw f.answer (go some d.some)
          where
            at : SomeActs c xs → (h : Bool) → held_seed t pins labels ≡ h → Foretells c xs (cond h Held Moved)
            at s true e =
                let one = and_left (one_cluster t.form) _ e in
                record { some = s; one = one; held = (seed_held one).0 (and_right (one_cluster t.form) _ e) }
            at s false e = record { some = s; free = λ one z. never (sym e ∙ rw (one, (seed_held one).1 z) refl) }

            go : (r : Bool) → Tells r (SomeActs c xs) → Foretells c xs (cond r (cond (held_seed t pins labels) Held Moved) Idle)
            go true s = at s (held_seed t pins labels) refl
            go false n = none_acts c xs n

        -- grey components are taken in CMR alone, where it is never idle
        taken : takes_greys c ≡ true → (some && takes_greys c) ≡ true
        taken e = rw (flagged some d.some one, e) refl
          where
            one : SomeActs c xs
            one = record { site = 0; below = tested.n_low; does = acts_cmr t.mode c xs refl (and_right (moves t.form) (is_cmr t.mode) e) }

        left : takes_greys c ≡ false → (some && takes_greys c) ≡ false
        left e = rw e (and_no some)

        seen :
            (members : List ℕ)
            → SeenAll c (buffers_of xs labels₀ greyLabels₀ counts₀ sizes₀ members found₀ greyFound₀)
            (buffers_of xs labels grey_labels counts sizes members found grey_found)
        seen members = record {
          labels = d.labelled;
          grey_labels = λ e.
              grey_labels_lem c xs grey grey_labels (d.grey_held (and_right (moves t.form) (is_cmr t.mode) e) (and_left (moves t.form) _ e))
              (f.greys.labels (taken e));
          grey_kept = λ e. f.greys.kept (left e);
          grey_found_kept = λ e. f.greys.found_kept (left e);
          counts = d.counted;
          sizes = d.largest;
          members_kept = refl;
        }

        pub task_leaves :
            TaskLeaves c xs cols (beside_of labels₀ greyLabels₀ counts₀ sizes₀ found₀ greyFound₀) flags tally' greyTally
            (beside_of labels grey_labels counts sizes found grey_found) a
        task_leaves = record {
          columns = d.columns;
          acting = d.acting;
          says = says;
          seen = seen;
          freed = λ s moving. f.freed (flagged some d.some s) moving;
          grey_freed = λ e. f.greys.freed (taken e);
        }

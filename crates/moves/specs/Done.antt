-- What a task on columns leaves, from what its two steps leave.
use Rattle.std.specs.Prelude.{ℕ, ◌≡◌, refl, true, false, List, [], ℤ, Float}
use Rattle.std.proofs.Common.{sym, ◌∙◌}
use Rattle.lemmas.specs.Bools.{never}
use Rattle.paper.specs.declared.Task.{Task}
use Rattle.paper.specs.Answer.Cases.{Answer}
use Rattle.paper.specs.Panel.Input.{Call, Choices}
use Rattle.paper.specs.Panel.Made.{call_of}
use Rattle.moves.specs.Tested.{ready}
use Rattle.moves.specs.Rewritten.{written_same}
use Rattle.moves.specs.Choices.{columns_narrow}
use Rattle.moves.specs.Steps.{ChooseLeaves}
use Rattle.moves.specs.Leaves.{RunAsks, Beside, beside_of, changes, RunLeaves}
use Rattle.moves.specs.Labelling.{TaskFor}
use Rattle.moves.specs.Answered as answered

module _
    (t : Task) (fwd bwd pins : List ℕ) (couplings : List ℤ) (cuts : List Float) (p : Choices)
    {cols news labels grey_labels counts sizes found grey_found : List ℕ}
    (k : RunAsks (call_of t fwd bwd pins couplings cuts) p cols news labels grey_labels counts sizes found grey_found)
    {flags tally greyTally labels' greyLabels' counts' sizes' found' greyFound' : List ℕ} {a : Answer}
    (d : TaskFor t fwd pins couplings cuts cols (beside_of labels grey_labels counts sizes found grey_found) flags tally greyTally
    (beside_of labels' greyLabels' counts' sizes' found' greyFound') a)
  where
    abbrev c : Call
    c = call_of t fwd bwd pins couplings cuts

    abbrev b : Beside
    b = beside_of labels grey_labels counts sizes found grey_found

    abbrev b' : Beside
    b' = beside_of labels' greyLabels' counts' sizes' found' greyFound'

    -- nothing is chosen
    pub stays_leaves : changes t.form a ≡ false → RunLeaves c p cols b a cols b'
    stays_leaves e = record {
      long = k.columns.long;
      narrow = columns_narrow k.columns;
      still = λ _. refl;
      answers = λ xs ys members v w o.
          let s = ready c p (b xs members) v.sound in
          rw (written_same w s.spins o)
          (answered.stays_answers t fwd bwd pins couplings cuts p k.labelled v (d bwd xs s w) e);
    }

    pub goes_leaves :
        {new : List ℕ} → changes t.form a ≡ true
        → ChooseLeaves t p.choices p.greys flags labels' tally greyLabels' greyTally cols new
        → RunLeaves c p cols b a new b'
    goes_leaves {new} e w =
        let own = d bwd k.rows (ready c p (b k.rows []) k.valid.sound) k.columns in
        record {
          long = answered.new_long t fwd bwd pins couplings cuts p k.labelled k.valid own e w;
          narrow = answered.new_narrow t fwd bwd pins couplings cuts p k.labelled k.valid own e w;
          still = λ q. never (sym q ∙ e);
          answers = λ xs ys members v x o.
              answered.goes_answers t fwd bwd pins couplings cuts p k.labelled v (d bwd xs (ready c p (b xs members) v.sound) x) e w o;
        }

-- How tight the promise is: it allows one answer, one content of every buffer and one of the totals.
use Rattle.std.specs.Prelude.{ℕ, ◌≡◌, Bool, List, [], ℤ}
use Rattle.std.proofs.Common.{sym}
use Rattle.paper.specs.declared.Outcome.{Outcome}
use Rattle.paper.specs.Answer.Cases.{Answer, answer_by, answer_by_injective}
use Rattle.paper.specs.Panel.Input.{Call, Choices, Buffers}
use Rattle.paper.specs.Panel.Made.{buffers_of}
use Rattle.paper.specs.Answer.Move.{Answers}
use Rattle.paper.specs.Answer.Totals.{TotalsReady, TotalsAfter}
use Rattle.laws.specs.Determined.{Same, determined}
use Rattle.laws.specs.KeepDetermined.{SameKept}
use Rattle.totals.specs.Contract.{Between}
use Rattle.moves.specs.Tested.{ready}
use Rattle.moves.specs.Rewritten.{rewritten, is_written}
use Rattle.moves.specs.Leaves.{RunAsks, beside_of, RunLeaves}
use Rattle.moves.specs.Determined.{run_columns_result_determined}
use Rattle.perform.specs.Kept.{KeepsFor, between}
use Rattle.grow.specs.Determined.{run_grow_totals_determined}

pub run_form_determined :
    (keeping : Bool) (c : Call) (p : Choices) (b y z : Buffers) (ts us vs : List ℤ) (a a' : Answer)
    → TotalsReady keeping c.lattice c.group ts
    → Answers c p b a y
    → TotalsAfter keeping c.lattice b.spins ts y.spins us
    → Answers c p b a' z
    → TotalsAfter keeping c.lattice b.spins ts z.spins vs
    → SameKept a y us a' z vs
run_form_determined keeping c p b y z ts us vs a a' r f h g k =
    let s : Same a y a' z = determined c p b y z a a' f g in
    record {
      answer = s.answer;
      buffers = s.buffers;
      totals = run_grow_totals_determined keeping c.lattice c.group b.spins ts y.spins us vs r h (rw (sym s.buffers) at k);
    }

-- and one result
pub run_form_result_determined :
    (keeping : Bool) (c : Call) (p : Choices) (b y z : Buffers) (ts us vs : List ℤ) (a a' : Outcome)
    → TotalsReady keeping c.lattice c.group ts
    → Answers c p b (answer_by a) y
    → TotalsAfter keeping c.lattice b.spins ts y.spins us
    → Answers c p b (answer_by a') z
    → TotalsAfter keeping c.lattice b.spins ts z.spins vs
    → a ≡ a'
run_form_result_determined keeping c p b y z ts us vs a a' r f h g k =
    answer_by_injective a a' (run_form_determined keeping c p b y z ts us vs (answer_by a) (answer_by a') r f h g k).answer

-- on columns: beside what `moves` says of the task, one content of the totals
module _
    (keeping : Bool) (c : Call) (p : Choices) (cols lent new labels grey_labels counts sizes found grey_found : List ℕ) (ts us vs : List ℤ)
    (k : RunAsks c p cols lent labels grey_labels counts sizes found grey_found)
  where
    abbrev ys : List ℤ
    ys = rewritten c.lattice.n c.group new k.rows

    apart : Between c.lattice.n c.group cols new k.rows ys
    apart =
        let s = ready c p _ k.valid.sound in
        between c p (buffers_of k.rows labels grey_labels counts sizes [] found grey_found) k.valid k.columns
        (is_written c.lattice.n c.group new k.rows s.n_low s.inside s.distinct)

    pub run_labelled_determined :
        TotalsReady keeping c.lattice c.group ts
        → KeepsFor keeping c.lattice c.group cols new ts us
        → KeepsFor keeping c.lattice c.group cols new ts vs
        → us ≡ vs
    run_labelled_determined r f h =
        run_grow_totals_determined keeping c.lattice c.group k.rows ts ys us vs r (f.each k.rows ys apart) (h.each k.rows ys apart)

-- and one result, as `moves` says
pub run_labelled_result_determined :
    (c : Call) (p : Choices) (cols news labels grey_labels counts sizes found grey_found : List ℕ)
    → RunAsks c p cols news labels grey_labels counts sizes found grey_found
    → (a a' : Outcome) (new l g q s f h new' l' g' q' s' f' h' : List ℕ)
    → RunLeaves c p cols (beside_of labels grey_labels counts sizes found grey_found) (answer_by a) new (beside_of l g q s f h)
    → RunLeaves c p cols (beside_of labels grey_labels counts sizes found grey_found) (answer_by a') new' (beside_of l' g' q' s' f' h')
    → a ≡ a'
run_labelled_result_determined = run_columns_result_determined

-- What the public functions promise, they promise of one result.
use Rattle.std.specs.Prelude.{ℕ, ◌<◌, ◌≡◌, refl, Bool, true, false, List, [], get_or, ℤ, Float}
use Rattle.std.proofs.Common.{sym, ◌∙◌, ap, arith, ext_get_or}
use Rattle.lemmas.specs.Determined.{one_value}
use Rattle.paper.specs.declared.Form.{Form}
use Rattle.paper.specs.declared.Outcome.{Outcome}
use Rattle.paper.specs.declared.Task.{Task}
use Rattle.paper.specs.Answer.Cases.{Answer, Answer.Refused, Answer.Idle, Answer.Held, Answer.Moved, answer_by, answer_by_injective}
use Rattle.paper.specs.Panel.Input.{graph, Call, Choices, Buffers, pattern, size}
use Rattle.paper.specs.Panel.Made.{call_of}
use Rattle.paper.specs.Panel.Takes.{moves, takes_greys}
use Rattle.paper.specs.Site.Acting.{SomeActs}
use Rattle.paper.specs.Site.Bonds.{holds, holds_grey}
use Rattle.paper.specs.Component.Marks.{Flags}
use Rattle.paper.specs.Answer.Move.{SeenAll}
use Rattle.laws.specs.Unique.{numbered_unique, counts_unique, sizes_unique}
use Rattle.laws.specs.Determined.{Same, buffers_equal, not_both, determined}
use Rattle.columns.specs.Column.{shown, column_ext}
use Rattle.columns.specs.Bits.{column_same}
use Rattle.columns.specs.Rows.{Written}
use Rattle.choose.specs.Determined.{becomes_determined, tally_free_determined}
use Rattle.moves.specs.Tested.{ready}
use Rattle.moves.specs.Rewritten.{rewritten, is_written}
use Rattle.moves.specs.Steps.{ChooseAsks, ChooseLeaves}
use Rattle.moves.specs.Leaves.{RunAsks, Beside, beside_of, changes, RunLeaves}
use Rattle.moves.specs.Labelling.{TaskAsks, Foretells, TaskLeaves, TaskFor}

-- ---- the label step

-- rows have one answer
foretells_unique : (c : Call) (xs : List ℤ) (a a' : Answer) → Foretells c xs a → Foretells c xs a' → a ≡ a'
foretells_unique c xs (Refused r) a' s s' = absurd s
foretells_unique c xs Idle (Refused r) s s' = absurd s'
foretells_unique c xs Idle Idle s s' = refl
foretells_unique c xs Idle Held s s' = absurd (not_both c xs s'.some s)
foretells_unique c xs Idle Moved s s' = absurd (not_both c xs s'.some s)
foretells_unique c xs Held (Refused r) s s' = absurd s'
foretells_unique c xs Held Idle s s' = absurd (not_both c xs s.some s')
foretells_unique c xs Held Held s s' = refl
foretells_unique c xs Held Moved s s' = absurd (s'.free s.one s.held)
foretells_unique c xs Moved (Refused r) s s' = absurd s'
foretells_unique c xs Moved Idle s s' = absurd (not_both c xs s.some s')
foretells_unique c xs Moved Held s s' = absurd (s.free s'.one s'.held)
foretells_unique c xs Moved Moved s s' = refl

flags_unique : {n : ℕ} {f : ℕ → Bool} {xs ys : List ℕ} → Flags n f xs → Flags n f ys → xs ≡ ys
flags_unique {n} {f} {xs} {ys} a b =
    ext_get_or 0 xs ys (a.long ∙ sym b.long) (λ i h. let l : i < n = omega (arith, a.long) in a.at i l ∙ sym (b.at i l))

-- the answer, the sites that act, and the buffers beside the spins, with any members; the sizes where they are of use, which is where the form moves
pub record SameTask
    (c : Call) (xs : List ℤ) (a : Answer) (flags tally greyTally : List ℕ) (b : Beside) (a' : Answer) (flags' tally' greyTally' : List ℕ) (b' : Beside)
    : Type 0 where
  pub answer : a ≡ a'
  pub acting : flags ≡ flags'
  pub buffers : (members : List ℕ) → b xs members ≡ b' xs members
  pub sizes : SomeActs c xs → moves c.form ≡ true → tally ≡ tally'
  pub grey_sizes : takes_greys c ≡ true → greyTally ≡ greyTally'

module _
    {c : Call} {xs : List ℤ} {cols : List ℕ} {lent : Beside} {flags tally greyTally l g q s f h : List ℕ} {a : Answer}
    {flags' tally' greyTally' l' g' q' s' f' h' : List ℕ} {a' : Answer}
    (u : TaskLeaves c xs cols lent flags tally greyTally (beside_of l g q s f h) a)
    (u' : TaskLeaves c xs cols lent flags' tally' greyTally' (beside_of l' g' q' s' f' h') a')
  where
    all : SeenAll c (lent xs []) (beside_of l g q s f h xs [])
    all = u.seen []

    all' : SeenAll c (lent xs []) (beside_of l' g' q' s' f' h' xs [])
    all' = u'.seen []

    blue : (l ≡ l') × (f ≡ f')
    blue = numbered_unique (graph c) (holds c (lent xs []).spins) l l' f f' all.labels all'.labels

    grey : (t : Bool) → takes_greys c ≡ t → (g ≡ g') × (h ≡ h')
    grey true e = numbered_unique (graph c) (holds_grey c (lent xs []).spins) g g' h h' (all.grey_labels e) (all'.grey_labels e)
    grey false e = (all.grey_kept e ∙ sym (all'.grey_kept e), all.grey_found_kept e ∙ sym (all'.grey_found_kept e))

    task_same : SameTask c xs a flags tally greyTally (beside_of l g q s f h) a' flags' tally' greyTally' (beside_of l' g' q' s' f' h')
    task_same = record {
      answer = foretells_unique c xs a a' u.says u'.says;
      acting = flags_unique u.acting u'.acting;
      buffers = λ members.
          buffers_equal (beside_of l g q s f h xs members) (beside_of l' g' q' s' f' h' xs members) refl blue.0 (grey (takes_greys c) refl).0
          (counts_unique l q q' all.counts (rw blue.0 all'.counts)) (sizes_unique l s s' all.sizes (rw blue.0 all'.sizes))
          refl blue.1 (grey (takes_greys c) refl).1;
      sizes = λ some moving. tally_free_determined c.pins l tally tally' (u.freed some moving) (rw blue.0 (u'.freed some moving));
      grey_sizes = λ e.
          tally_free_determined c.pins g greyTally greyTally' (u.grey_freed e) (rw (grey (takes_greys c) refl).0 (u'.grey_freed e));
    }

-- by the rows by which the columns were tested
pub label_task_determined :
    (t : Task) (fwd bwd pins : List ℕ) (couplings : List ℤ) (cuts : List Float)
    (cols flags₀ holding grey tally₀ greyTally₀ labels grey_labels counts sizes found grey_found : List ℕ)
    (k : TaskAsks t fwd pins couplings cuts cols flags₀ holding grey tally₀ greyTally₀ labels grey_labels counts sizes found grey_found)
    (a a' : Answer) (flags tally greyTally l g q s f h flags' tally' greyTally' l' g' q' s' f' h' : List ℕ)
    → TaskFor t fwd pins couplings cuts cols (beside_of labels grey_labels counts sizes found grey_found) flags tally greyTally (beside_of l g q s f h) a
    → TaskFor t fwd pins couplings cuts cols (beside_of labels grey_labels counts sizes found grey_found) flags' tally' greyTally'
    (beside_of l' g' q' s' f' h') a'
    → SameTask (call_of t fwd bwd pins couplings cuts) k.label.rows a flags tally greyTally (beside_of l g q s f h) a' flags' tally' greyTally'
    (beside_of l' g' q' s' f' h')
label_task_determined t fwd bwd pins couplings cuts cols _ _ _ _ _ _ _ _ _ _ _ k a a' flags tally greyTally l g q s f h flags' tally' greyTally'
    l' g' q' s' f' h' u u' =
    let w = k.label in
    task_same (u bwd w.rows w.tested w.columns) (u' bwd w.rows w.tested w.columns)

-- and one result
pub label_task_result_determined :
    (t : Task) (fwd pins : List ℕ) (couplings : List ℤ) (cuts : List Float)
    (cols flags₀ holding grey tally₀ greyTally₀ labels grey_labels counts sizes found grey_found : List ℕ)
    → TaskAsks t fwd pins couplings cuts cols flags₀ holding grey tally₀ greyTally₀ labels grey_labels counts sizes found grey_found
    → (a a' : Outcome) (flags tally greyTally l g q s f h flags' tally' greyTally' l' g' q' s' f' h' : List ℕ)
    → TaskFor t fwd pins couplings cuts cols (beside_of labels grey_labels counts sizes found grey_found) flags tally greyTally (beside_of l g q s f h)
    (answer_by a)
    → TaskFor t fwd pins couplings cuts cols (beside_of labels grey_labels counts sizes found grey_found) flags' tally' greyTally'
    (beside_of l' g' q' s' f' h') (answer_by a')
    → a ≡ a'
label_task_result_determined t fwd pins couplings cuts cols flags₀ holding grey tally₀ greyTally₀ labels grey_labels counts sizes found grey_found k a a'
    flags tally greyTally l g q s f h flags' tally' greyTally' l' g' q' s' f' h' u u' =
    let same =
    label_task_determined t fwd [] pins couplings cuts cols flags₀ holding grey tally₀ greyTally₀ labels grey_labels counts sizes found grey_found k
    (answer_by a) (answer_by a') flags tally greyTally l g q s f h flags' tally' greyTally' l' g' q' s' f' h' u u' in
    answer_by_injective a a' same.answer

-- ---- the choose step
pub choose_task_determined :
    (t : Task) (choices greys flags labels tally grey_labels greyTally reached cols new new' : List ℕ)
    → ChooseAsks t choices greys flags labels tally grey_labels greyTally reached cols
    → ChooseLeaves t choices greys flags labels tally grey_labels greyTally cols new
    → ChooseLeaves t choices greys flags labels tally grey_labels greyTally cols new'
    → new ≡ new'
choose_task_determined t choices greys flags labels tally grey_labels greyTally reached cols new new' k u u' =
    becomes_determined _ cols new new' (u k.pins k.tallied (λ e. (k.greyable e).tallied)) (u' k.pins k.tallied (λ e. (k.greyable e).tallied))

-- ---- whether columns may have changed
pub changed_determined : (f : Form) (o : Outcome) (a b : Bool) → a ≡ changes f (answer_by o) → b ≡ changes f (answer_by o) → a ≡ b
changed_determined f o a b = one_value

-- ---- the two as one

-- the answer, the columns after, and the buffers beside them, with any spins and members
pub record SameRun (a : Answer) (new : List ℕ) (b : Buffers) (a' : Answer) (new' : List ℕ) (b' : Buffers) : Type 0 where
  pub answer : a ≡ a'
  pub columns : new ≡ new'
  pub buffers : b ≡ b'

module _
    (c : Call) (p : Choices) (cols news labels grey_labels counts sizes found grey_found : List ℕ)
    (k : RunAsks c p cols news labels grey_labels counts sizes found grey_found)
    (a a' : Answer) (new l g q s f h new' l' g' q' s' f' h' : List ℕ)
    (u : RunLeaves c p cols (beside_of labels grey_labels counts sizes found grey_found) a new (beside_of l g q s f h))
    (u' : RunLeaves c p cols (beside_of labels grey_labels counts sizes found grey_found) a' new' (beside_of l' g' q' s' f' h'))
  where
    -- the rows by which the columns were tested, written from given ones
    abbrev after : List ℕ → List ℤ
    after zs = rewritten c.lattice.n c.group zs k.rows

    wrote : (zs : List ℕ) → Written c.lattice.n (size c) c.group zs k.rows (after zs)
    wrote zs =
        let w = ready c p _ k.valid.sound in
        is_written c.lattice.n c.group zs k.rows w.n_low w.inside w.distinct

    same : Same a (beside_of l g q s f h (after new) []) a' (beside_of l' g' q' s' f' h' (after new') [])
    same =
        determined c p (beside_of labels grey_labels counts sizes found grey_found k.rows []) _ _ a a'
        (u.answers k.rows (after new) [] k.valid k.columns (wrote new))
        (u'.answers k.rows (after new') [] k.valid k.columns (wrote new'))

    shows : (i j : ℕ) → i < c.lattice.n → j < size c → shown (get_or new i 0) j ≡ shown (get_or new' i 0) j
    shows i j hi hj =
        sym ((wrote new).group i j hi hj)
        ∙ (ap (λ (z : Buffers). pattern c z.spins i j) same.buffers ∙ (wrote new').group i j hi hj)

    at : (i : ℕ) → i < c.lattice.n → get_or new i 0 ≡ get_or new' i 0
    at i hi =
        sym (column_same (size c) (get_or new i 0) (u.narrow i hi))
        ∙ (column_ext (size c) _ _ (λ j hj. shows i j hi hj) ∙ column_same (size c) (get_or new' i 0) (u'.narrow i hi))

    pub run_columns_determined : (xs : List ℤ) (members : List ℕ)
        → SameRun a new (beside_of l g q s f h xs members) a' new' (beside_of l' g' q' s' f' h' xs members)
    run_columns_determined xs members = record {
      answer = same.answer;
      columns = ext_get_or 0 new new' (u.long ∙ sym u'.long) (λ i hi. at i (omega (arith, u.long)));
      buffers = ap (λ (z : Buffers). record {
        spins = xs;
        labels = z.labels;
        grey_labels = z.grey_labels;
        counts = z.counts;
        sizes = z.sizes;
        members = members;
        found = z.found;
        grey_found = z.grey_found;
      }) same.buffers;
    }

-- and one result
pub run_columns_result_determined :
    (c : Call) (p : Choices) (cols news labels grey_labels counts sizes found grey_found : List ℕ)
    → RunAsks c p cols news labels grey_labels counts sizes found grey_found
    → (a a' : Outcome) (new l g q s f h new' l' g' q' s' f' h' : List ℕ)
    → RunLeaves c p cols (beside_of labels grey_labels counts sizes found grey_found) (answer_by a) new (beside_of l g q s f h)
    → RunLeaves c p cols (beside_of labels grey_labels counts sizes found grey_found) (answer_by a') new' (beside_of l' g' q' s' f' h')
    → a ≡ a'
run_columns_result_determined c p cols news labels grey_labels counts sizes found grey_found k a a' new l g q s f h new' l' g' q' s' f' h' u u' =
    let same =
    run_columns_determined c p cols news labels grey_labels counts sizes found grey_found k (answer_by a) (answer_by a') new l g q s f h new' l' g' q' s' f'
    h' u u' [] [] in
    answer_by_injective a a' same.answer

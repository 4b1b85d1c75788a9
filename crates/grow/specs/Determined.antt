-- How tight the promises are: they allow one answer, one content of the spins, of the members and of the totals; of a list of the members one number and
-- the same sites.
use Rattle.std.specs.Prelude.{ℕ, ◌≡◌, refl, Bool, true, false, List, length, get_or, ℤ}
use Rattle.std.proofs.Common.{sym, ◌∙◌, ap, subst, arith}
use Rattle.lemmas.specs.Bools.{never}
use Rattle.lemmas.specs.Counts.{count_where}
use Rattle.lemmas.specs.Determined.{clear_determined}
use Rattle.lemmas.specs.Places.{Placed}
use Rattle.paper.specs.Answer.Cases.{Answer, Answer.Refused, Answer.Idle, Answer.Held, Answer.Moved, answer_by, answer_by_injective}
use Rattle.paper.specs.declared.Group.{Group}
use Rattle.paper.specs.declared.Outcome.{Outcome}
use Rattle.paper.specs.declared.Task.{Task}
use Rattle.paper.specs.Panel.Input.{Lattice, Call, Choices, graph}
use Rattle.paper.specs.Site.Bonds.{holds}
use Rattle.paper.specs.Refusal.Rules.{When}
use Rattle.paper.specs.Answer.Move.{member_bonds, Answers}
use Rattle.paper.specs.Answer.Totals.{TotalsReady, TotalsAfter}
use Rattle.laws.specs.Determined.{Same, determined}
use Rattle.laws.specs.Unique.{members_unique}
use Rattle.totals.specs.Contract.{Bringable}
use Rattle.totals.specs.Determined.{brought_determined}
use Rattle.turn.specs.Turned.{ListWritten}
use Rattle.turn.specs.Determined.{write_listed_determined}
use Rattle.grow.specs.declared.Found.{Found}
use Rattle.grow.specs.Listed.{is_in, site_at, Listed}
use Rattle.grow.specs.Kept.{Kept, Keeping}
use Rattle.grow.specs.Contract.{Grew}
use Rattle.grow.specs.Finding.{Finds}
use Rattle.grow.specs.Task.{Outputs, no_outputs, with_outputs}

-- with any outputs of the other forms, which are no buffers of the task's: so with none
pub run_grow_determined :
    (c : Call) (p : Choices) (xs ys zs : List ℤ) (members m m' : List ℕ) (a a' : Answer)
    → ((o : Outputs) → Answers c p (with_outputs o xs members) a (with_outputs o ys m))
    → ((o : Outputs) → Answers c p (with_outputs o xs members) a' (with_outputs o zs m'))
    → Same a (with_outputs no_outputs ys m) a' (with_outputs no_outputs zs m')
run_grow_determined c p xs ys zs members m m' a a' f g =
    determined c p (with_outputs no_outputs xs members) (with_outputs no_outputs ys m) (with_outputs no_outputs zs m') a a' (f no_outputs) (g no_outputs)

-- and one result
pub run_grow_result_determined :
    (c : Call) (p : Choices) (xs ys zs : List ℤ) (members m m' : List ℕ) (a a' : Outcome)
    → ((o : Outputs) → Answers c p (with_outputs o xs members) (answer_by a) (with_outputs o ys m))
    → ((o : Outputs) → Answers c p (with_outputs o xs members) (answer_by a') (with_outputs o zs m'))
    → a ≡ a'
run_grow_result_determined c p xs ys zs members m m' a a' f g =
    answer_by_injective a a' (run_grow_determined c p xs ys zs members m m' (answer_by a) (answer_by a') f g).answer

pub run_grow_totals_determined :
    (keeping : Bool) (g : Lattice) (o : Group) (xs ts ys us vs : List ℤ)
    → TotalsReady keeping g o ts
    → TotalsAfter keeping g xs ts ys us
    → TotalsAfter keeping g xs ts ys vs
    → us ≡ vs
run_grow_totals_determined true g o xs ts ys us vs r p q =
    brought_determined g xs ts ys us vs (r.lengths refl).totals (p.brought refl) (q.brought refl)
run_grow_totals_determined false g o xs ts ys us vs r p q = p.left refl ∙ sym (q.left refl)

-- ---- what is written
pub write_cluster_determined :
    (keeping : Bool) (g : Lattice) (o : Group) (list : List ℕ) (len : ℕ) (news : List ℕ) (xs ts ys us zs vs : List ℤ)
    → When keeping (Bringable g o ts)
    → ListWritten g.n o list len news xs ys
    → ListWritten g.n o list len news xs zs
    → TotalsAfter keeping g xs ts ys us
    → TotalsAfter keeping g xs ts zs vs
    → (ys ≡ zs) × (us ≡ vs)
write_cluster_determined keeping g o list len news xs ts ys us zs vs r w v p q = (rows, totals keeping r p (rw rows q))
  where
    rows : ys ≡ zs
    rows = write_listed_determined g.n o list len news xs ys zs w v

    totals : (b : Bool) → When b (Bringable g o ts) → TotalsAfter b g xs ts ys us → TotalsAfter b g xs ts ys vs → us ≡ vs
    totals true r p q = brought_determined g xs ts ys us vs (r refl).totals_long (p.brought refl) (q.brought refl)
    totals false r p q = p.left refl ∙ sym (q.left refl)

-- ---- what is found

-- lists of the same sites
abbrev pub SameSites : List ℕ → ℕ → List ℕ → ℕ → Type 0
SameSites l len l' len' = (i : ℕ) → Placed len (site_at l) i → Placed len' (site_at l') i

pub record SameFound (m l cols : List ℕ) (a : Answer) (blue len : ℕ) (m' l' cols' : List ℕ) (a' : Answer) (blue' len' : ℕ) : Type 0 where
  pub answer : a ≡ a'
  pub members : m ≡ m'
  pub blues : blue ≡ blue'
  pub number : len ≡ len'
  pub first : SameSites l blue l' blue'
  pub sites : SameSites l len l' len'
  pub columns : (i : ℕ) → get_or m i 0 ≡ 1 → get_or cols i 0 ≡ get_or cols' i 0

module _ {m l l' : List ℕ} {len len' : ℕ} where
  same_number : {m' : List ℕ} → m ≡ m' → Listed m l len → Listed m' l' len' → len ≡ len'
  same_number e w v = sym w.number ∙ (ap (λ (z : List ℕ). count_where (is_in z) (length z)) e ∙ v.number)

  same_sites : {m' : List ℕ} → m ≡ m' → Listed m l len → Listed m' l' len' → SameSites l len l' len'
  same_sites e w v i p = v.all i (subst (λ (z : List ℕ). get_or z i 0 ≡ 1) e (rw p.2 (w.each p.0 p.1)))

module _ (t : Task) (c : Call) (xs : List ℤ) (m l cols : List ℕ) (blue len : ℕ) (m' l' cols' : List ℕ) (blue' len' : ℕ) where
  same_columns : m ≡ m' → Kept t xs m cols → Kept t xs m' cols' → (i : ℕ) → get_or m i 0 ≡ 1 → get_or cols i 0 ≡ get_or cols' i 0
  same_columns e k h i on = k.at i on ∙ sym (h.at i (subst (λ (z : List ℕ). get_or z i 0 ≡ 1) e on))

  same_grown :
      {a a' : Answer} → a ≡ a' → Grew c xs m l blue len → Grew c xs m' l' blue' len' → Kept t xs m cols → Kept t xs m' cols'
      → SameFound m l cols a blue len m' l' cols' a' blue' len'
  same_grown e g h k k' =
      let all = members_unique (graph c) (member_bonds c xs) c.seed m m' g.cluster.members h.cluster.members in
      let first = members_unique (graph c) (holds c xs) c.seed g.blues h.blues g.first.members h.first.members in
      record {
        answer = e;
        members = all;
        blues = same_number first g.first.listed h.first.listed;
        number = same_number all g.cluster.listed h.cluster.listed;
        first = same_sites first g.first.listed h.first.listed;
        sites = same_sites all g.cluster.listed h.cluster.listed;
        columns = same_columns all k k';
      }

  pub find_determined :
      (a a' : Answer) → Keeping (Finds c xs m l a blue len) t xs m cols → Keeping (Finds c xs m' l' a' blue' len') t xs m' cols'
      → SameFound m l cols a blue len m' l' cols' a' blue' len'
  find_determined (Refused r) a' f g = absurd f.grown
  find_determined Idle (Refused r) f g = absurd g.grown
  find_determined Held (Refused r) f g = absurd g.grown
  find_determined Moved (Refused r) f g = absurd g.grown
  find_determined Idle Idle f g =
      let e = clear_determined c.lattice.n m m' f.grown.cleared g.grown.cleared in
      let none = f.grown.no_member in
      let blue-none = f.grown.no_blue in
      record {
        answer = refl;
        members = e;
        blues = blue-none ∙ sym g.grown.no_blue;
        number = none ∙ sym g.grown.no_member;
        first = λ i p. absurd (omega (arith, p.1, blue-none));
        sites = λ i p. absurd (omega (arith, p.1, none));
        columns = same_columns e f.kept g.kept;
      }
  find_determined Idle Held f g = never (sym f.grown.off ∙ g.grown.on)
  find_determined Idle Moved f g = never (sym f.grown.off ∙ g.grown.on)
  find_determined Held Idle f g = never (sym g.grown.off ∙ f.grown.on)
  find_determined Moved Idle f g = never (sym g.grown.off ∙ f.grown.on)
  find_determined Held Moved f g = absurd (g.grown.free f.grown.held)
  find_determined Moved Held f g = absurd (f.grown.free g.grown.held)
  find_determined Held Held f g = same_grown refl f.grown.grew g.grown.grew f.kept g.kept
  find_determined Moved Moved f g = same_grown refl f.grown.grew g.grown.grew f.kept g.kept

-- and one result
pub find_result_determined :
    (t : Task) (c : Call) (xs : List ℤ) (m l cols m' l' cols' : List ℕ) (a a' : Found)
    → Keeping (Finds c xs m l (answer_by a.answer) a.blue a.len) t xs m cols
    → Keeping (Finds c xs m' l' (answer_by a'.answer) a'.blue a'.len) t xs m' cols'
    → a ≡ a'
find_result_determined t c xs m l cols m' l' cols' a a' f g = λ i. record { answer = answer i; blue = same.blues i; len = same.number i }
  where
    same : SameFound m l cols (answer_by a.answer) a.blue a.len m' l' cols' (answer_by a'.answer) a'.blue a'.len
    same = find_determined t c xs m l cols a.blue a.len m' l' cols' a'.blue a'.len (answer_by a.answer) (answer_by a'.answer) f g

    answer : a.answer ≡ a'.answer
    answer = answer_by_injective a.answer a'.answer same.answer

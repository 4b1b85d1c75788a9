-- A task of the form that grows, on bytes: what it asks and what it leaves.
use Rattle.std.specs.Prelude.{ℕ, suc, ◌+◌, ◌*◌, ◌≤◌, ◌<◌, ◌≡◌, Bool, List, length, ℤ}
use Rattle.std.proofs.Common.{sym, ◌∙◌, ap, subst, arith, mul-le-mul_right, suc-mul}
use Rattle.paper.specs.declared.Group.{Group}
use Rattle.paper.specs.Answer.Cases.{Answer, Answer.Refused, Answer.Idle, Answer.Held, Answer.Moved}
use Rattle.paper.specs.Panel.Input.{Call, Choices, Buffers, member, pattern_of, size}
use Rattle.paper.specs.Refusal.Rule.{broken_not_kept}
use Rattle.paper.specs.Refusal.Rules.{Spins, AllSystems, rules}
use Rattle.paper.specs.Refusal.Kept.{valid_kept}
use Rattle.paper.specs.Answer.Move.{Answers, Accepted, Accepted.idle, Accepted.held, Accepted.moved}
use Rattle.paper.specs.Answer.Totals.{TotalsAfter}
use Rattle.columns.specs.Column.{Columns}
use Rattle.columns.specs.Rows.{Written}
use Rattle.grow.specs.Task.{Outputs, no_outputs, with_outputs, GrowAsks}
use Rattle.perform.specs.Spinning.{spins_after, length_after}
use Rattle.packing.specs.Bytes.{rows_of, bytes_of, Narrow, own_group}
use Rattle.packing.proofs.Laws.{member_own, rows_long, columns_bytes, bytes_narrow, pack_unpack, written_rows}

-- the rows that the bytes stand for are tested, and the task is one on rows of its own
pub record GrownAsks (c : Call) (p : Choices) (xs members : List ℕ) : Type 0 where
  pub own : c.group ≡ own_group (size c)
  pub systems : c.lattice.s ≡ size c
  pub long : length xs ≡ c.lattice.n
  pub narrow : Narrow (size c) xs
  pub rows : GrowAsks c p (rows_of (size c) xs) members

-- what the rows are answered
pub record GrownLeaves (keeping : Bool) (c : Call) (p : Choices) (xs members : List ℕ) (ts : List ℤ) (a : Answer) (ys members' : List ℕ) (ts' : List ℤ)
    : Type 0 where
  pub long : length ys ≡ c.lattice.n
  pub narrow : Narrow (size c) ys
  pub answers : (o : Outputs) → Answers c p (with_outputs o (rows_of (size c) xs) members) a (with_outputs o (rows_of (size c) ys) members')
  pub totals : TotalsAfter keeping c.lattice (rows_of (size c) xs) ts (rows_of (size c) ys) ts'

module _ (c : Call) (p : Choices) (xs members : List ℕ) (k : GrownAsks c p xs members) where
  abbrev m : ℕ
  m = size c

  abbrev n : ℕ
  n = c.lattice.n

  few : m ≤ 8
  few = k.rows.valid.sound.ranged.size_high

  -- so many spins have room for each member's row
  pub room : (j : ℕ) → j < c.group.len → {x : ℕ} → x ≡ m * n → member c.group j * n + n ≤ x
  room j h {x} full =
      let l : suc (member c.group j) ≤ m = rw k.systems at (k.rows.valid.sound.grouped.below j h) in
      omega (arith, full, mul-le-mul_right n l, suc-mul (member c.group j) n)

  -- rows written from the bytes, over any, are those that they stand for
  pub written_is : (zs rows : List ℤ) → length zs ≡ m * n → Written n m c.group xs zs rows → rows ≡ rows_of m xs
  written_is zs rows full w =
      written_rows m few n xs k.long k.narrow zs full rows (subst (λ (g : Group). Written n m g xs zs rows) k.own w)

  module _ (rows : List ℤ) (e : rows ≡ rows_of m xs) where
    pub grow_asks : GrowAsks c p rows members
    grow_asks = subst (λ (us : List ℤ). GrowAsks c p us members) (sym e) k.rows

    module _
        (a : Answer) (ys : List ℤ) (members' : List ℕ)
        (told : (o : Outputs) → Answers c p (with_outputs o rows members) a (with_outputs o ys members'))
      where
        abbrev before : Outputs → Buffers
        before o = with_outputs o (rows_of m xs) members

        abbrev after : Outputs → Buffers
        after o = with_outputs o ys members'

        answers : (o : Outputs) → Answers c p (before o) a (after o)
        answers o = subst (λ (us : List ℤ). Answers c p (with_outputs o us members) a (after o)) e (told o)

        accepted : (a : Answer) → Answers c p (before no_outputs) a (after no_outputs) → Accepted a
        accepted (Refused r) u = absurd (broken_not_kept (rules c p (before no_outputs)) _ u.why (valid_kept c p (before no_outputs) k.rows.valid))
        accepted Idle u = idle
        accepted Held u = held
        accepted Moved u = moved

        pub after_long : length ys ≡ m * n
        after_long = length_after c p (before no_outputs) (after no_outputs) a (answers no_outputs) ∙ rows_long m n xs k.long

        after_spins : Spins n (AllSystems m) ys
        after_spins =
            λ t i l hi. spins_after c p (before no_outputs) (after no_outputs) a (accepted a (answers no_outputs)) (answers no_outputs) t i
            (record {
              place = t;
              below = l;
              is = subst (λ (g : Group). member g t ≡ t) (sym k.own) (member_own m t (omega (arith, l, few)));
              inside = rw k.systems l;
            }) hi

        -- the bytes of the rows after stand for them
        module _ (bytes : List ℕ) (packed : Columns n m (pattern_of n c.group ys) bytes) where
          is_bytes : bytes ≡ bytes_of m n ys
          is_bytes = columns_bytes m few n ys bytes (subst (λ (g : Group). Columns n m (pattern_of n g ys) bytes) k.own packed)

          stand : rows_of m bytes ≡ ys
          stand = ap (rows_of m) is_bytes ∙ pack_unpack m n ys after_long after_spins

          pub grown_leaves : (keeping : Bool) (ts ts' : List ℤ) → TotalsAfter keeping c.lattice rows ts ys ts'
              → GrownLeaves keeping c p xs members ts a bytes members' ts'
          grown_leaves keeping ts ts' u = record {
            long = packed.long;
            narrow = subst (Narrow m) (sym is_bytes) (bytes_narrow m n ys);
            answers = λ o. subst (λ (us : List ℤ). Answers c p (before o) a (with_outputs o us members')) (sym stand) (answers o);
            totals =
                subst (λ (us : List ℤ). TotalsAfter keeping c.lattice (rows_of m xs) ts us ts') (sym stand)
                (subst (λ (us : List ℤ). TotalsAfter keeping c.lattice us ts ys ts') e u);
          }

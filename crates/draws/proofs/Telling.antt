-- What a refused draw tells: its number is 12, the value is 0 and the source as lent.
use Rattle.std.specs.Prelude.{Result, Ok, Err}
use Rattle.std.specs.Result.{result_unwrap_or}
use Rattle.std.proofs.Common.{◌≡◌, ℕ, zero, suc, ◌+◌, ◌-◌, ◌%◌, Bool, true, false, cond, List, [], ◌∷◌, eqb, nat_lt, sym, refl, ap, ◌∙◌, subst, eqb-true}
use Rattle.paper.specs.declared.Refusal.{Refusal}
use Rattle.paper.specs.Refusal.Numbers.{number_of, refused as broken_of}
use Rattle.paper.specs.Refusal.Verdict.{Verdict}
use Rattle.draws.specs.declared.Source.{Source}
use Rattle.draws.specs.declared.Drawn as Drawing
use Rattle.draws.specs.declared.Row as Rowing
use Rattle.draws.specs.Answer.{Drawn, Row, drawn_of, row_of, taken, taken_row}
use Rattle.draws.specs.Words.{word, next, drawn}
use Rattle.draws.specs.Draw.{number, high, limit, tried, refused}
use Rattle.draws.specs.Rows.{refused_row, first_row, swapped, shuffled, permuted, is_identity, retried, row_by}

-- a refusal has a number
pub not_zero : (e : Refusal) → number_of e ≡ 0 → ⊥
not_zero e h = broken_of [] e (subst (Verdict []) (sym h) tt)

-- ---- a number

pub tried_refused : (lent : Source) (k m : ℕ) (s : Source) → ((tried lent k m s).refusal ≡ 0 → ⊥) → tried lent k m s ≡ refused lent
unfolding tried
tried_refused lent zero m s n = refl
tried_refused lent (suc k) m s n = side (nat_lt (high (word s)) (limit m)) (tried_refused lent k m (next s)) n
  where
    side : {again : Drawn} (b : Bool) → ((again.refusal ≡ 0 → ⊥) → again ≡ refused lent)
        → ((cond b (drawn 0 (high (word s) % m) (next s)) again).refusal ≡ 0 → ⊥) → cond b (drawn 0 (high (word s) % m) (next s)) again ≡ refused lent
    side true f h = absurd (h refl)
    side false f h = f h

module _ (m : ℕ) (s : Source) (e : Refusal) (p : drawn_of s (Err e) ≡ number m s) where
  pub number_not : (number m s).refusal ≡ 0 → ⊥
  number_not z = not_zero e (ap (λ (x : Drawn). x.refusal) p ∙ z)

  pub number_twelve : 12 ≡ number_of e
  number_twelve = sym (ap (λ (x : Drawn). x.refusal) (p ∙ tried_refused s 64 m s number_not))

-- ---- a row

shuffled_refused : (lent : Source) (i : ℕ) (xs : List ℕ) (s : Source) → ((shuffled lent i xs s).refusal ≡ 0 → ⊥) → shuffled lent i xs s ≡ refused_row lent
unfolding shuffled
shuffled_refused lent zero xs s n = absurd (n refl)
shuffled_refused lent (suc i) xs s n =
    let d = number (suc i + 1) s in
    side (eqb d.refusal 0) (shuffled_refused lent i (swapped xs (suc i) d.value) d.source) n
  where
    side : {again : Row} (b : Bool) → ((again.refusal ≡ 0 → ⊥) → again ≡ refused_row lent) → ((cond b again (refused_row lent)).refusal ≡ 0 → ⊥)
        → cond b again (refused_row lent) ≡ refused_row lent
    side true f h = f h
    side false f h = refl

retried_refused : (lent : Source) (k n : ℕ) (s : Source) → ((retried lent k n s).refusal ≡ 0 → ⊥) → retried lent k n s ≡ refused_row lent
unfolding retried
retried_refused lent zero n s h = refl
retried_refused lent (suc k) n s h =
    let r = permuted n s in
    side r (eqb r.refusal 0) refl (is_identity n r.row) (retried_refused lent k n r.source) h
  where
    side : {again : Row} (r : Row) (b : Bool) → eqb r.refusal 0 ≡ b → (c : Bool) → ((again.refusal ≡ 0 → ⊥) → again ≡ refused_row lent)
        → ((cond b (cond c again r) (refused_row lent)).refusal ≡ 0 → ⊥) → cond b (cond c again r) (refused_row lent) ≡ refused_row lent
    side r false q c f z = refl
    side r true q true f z = f z
    side r true q false f z = absurd (z (eqb-true r.refusal 0 q))

module _ (n : ℕ) (s : Source) (e : Refusal) where
  pub permuted_twelve : row_of s (Err e) ≡ permuted n s → 12 ≡ number_of e
  permuted_twelve p =
      sym (ap (λ (x : Row). x.refusal)
      (p ∙ shuffled_refused s (n - 1) (first_row n) s (λ z. not_zero e (ap (λ (x : Row). x.refusal) p ∙ z))))

  pub row_not : (moving : Bool) → row_of s (Err e) ≡ row_by moving n s → (row_by moving n s).refusal ≡ 0 → ⊥
  row_not moving p z = not_zero e (ap (λ (x : Row). x.refusal) p ∙ z)

  pub row_twelve : (moving : Bool) → row_of s (Err e) ≡ row_by moving n s → 12 ≡ number_of e
  row_twelve false p = permuted_twelve p
  row_twelve true p = sym (ap (λ (x : Row). x.refusal) (p ∙ retried_refused s 64 n s (row_not true p)))

-- ---- what is written of a draw

pub taken_or : (s : Source) (r : Result Drawing.Drawn Refusal) → result_unwrap_or r (record { value = 0; source = s }) ≡ taken (drawn_of s r)
taken_or s (Ok d) = refl
taken_or s (Err e) = refl

pub taken_row_or :
    (s : Source) (r : Result Rowing.Row Refusal)
    → result_unwrap_or r (record { row = 0 ∷ 0 ∷ 0 ∷ 0 ∷ 0 ∷ 0 ∷ 0 ∷ 0 ∷ []; source = s }) ≡ taken_row (row_of s r)
taken_row_or s (Ok d) = refl
taken_row_or s (Err e) = refl

-- What is answered by the rows in an area is the answer by the numbers.
use Prim.Native.Nat.{ℕ, ◌*◌, ◌≤◌, ◌<◌}
use mathlib.Core.Path.{◌≡◌, sym, ◌∙◌, subst}
use mathlib.Core.Bool.{Bool, true, false}
use mathlib.Core.List.{List}
use native.Mathlib.Decide.{dec_lt}
use native.Mathlib.Omega.{arith}
use lib.ListN.{length, take, drop}
use lib.Seq.{length-take-le}
use lib.IntN.{ℤ}
use Rattle.lemmas.specs.Bools.{never}
use Rattle.paper.specs.declared.Mode.{Mode}
use Rattle.paper.specs.declared.Form.{Form}
use Rattle.paper.specs.Answer.Cases.{Answer}
use Rattle.paper.specs.Answer.Cases.{SweepAnswer}
use Rattle.paper.specs.Panel.Input.{Call, Choices, Buffers, size}
use Rattle.paper.specs.Panel.Made.{choices_of}
use Rattle.paper.specs.Panel.Takes.{perms_by, takes_perms}
use Rattle.paper.specs.Answer.Task.{Sweep}
use Rattle.paper.specs.Answer.Totals.{KeepAnswers, SweepKeepAnswers}
use Rattle.spelling.specs.Rows.{rows_of, rows_front}
use Rattle.spelling.specs.Spell.{SpeltInto}
use Rattle.coded.specs.declared.Coding.{Coding}
use Rattle.coded.specs.declared.Coding.TheVariants.{Rows, Numbers}
use Rattle.coded.specs.Takes.{numbers_by}
use Rattle.coded.specs.Answer.{CodedAnswers}
use Rattle.coded.specs.Sweep.{with_choices, SweepCodedAnswers}
use Rattle.coded.specs.Long.{too_many, sweep_too_many}
use Rattle.coded.specs.Laws.{plain, sweep_plain}

-- what is lent of the area: r bytes
pub lent_inside : {vs area area' : List ℕ} {r : ℕ} → SpeltInto vs area area' r → r ≤ length area'
lent_inside {vs} {area} {area'} {r} s = omega (arith, s.inside, s.long)

pub lent_long : {vs area area' : List ℕ} {r : ℕ} → SpeltInto vs area area' r → length (take r area') ≡ r
lent_long {vs} {area} {area'} {r} s = length-take-le r area' (lent_inside s)

-- by the rows that fit in, or by one byte where none do
by_room : (vs area area' : List ℕ) (r : ℕ) (Told : List ℕ → Type 0)
    → SpeltInto vs area area' r
    → (length area < length vs * 5 → length (take r area') ≡ 1 → Told (take r area') → Told (rows_of vs))
    → Told (take r area')
    → Told (rows_of vs)
by_room vs area area' r Told s many told = go (dec_lt (length area) (length vs * 5))
  where
    go : Dec (length area < length vs * 5) → Told (rows_of vs)
    go (yes h) = many h (lent_long s ∙ s.less h) told
    go (no h) =
        let f : length vs * 5 ≤ length area = omega arith in
        subst Told (rw (s.count f, s.written f) (rows_front vs (drop (length vs * 5) area))) told

pub spelled_step : (keeping : Bool) (c : Call) (vs area area' greys : List ℕ) (r : ℕ) (b : Buffers) (ts : List ℤ) (a : Answer) (b' : Buffers) (ts' : List ℤ)
    → takes_perms c ≡ true → size c ≡ 5
    → length area ≡ 20480 → SpeltInto vs area area' r
    → KeepAnswers keeping c (choices_of (take r area') greys) b ts a b' ts'
    → CodedAnswers true keeping c (choices_of vs greys) b ts a b' ts'
spelled_step keeping c vs area area' greys r b ts a b' ts' perms five so s told = record {
  five = λ _.
      by_room vs area area' r (λ (xs : List ℕ). KeepAnswers keeping c (choices_of xs greys) b ts a b' ts') s
      (λ h one. too_many keeping c vs (take r area') greys b ts perms five (rw so at h) one a b' ts') told;
  other = λ n. absurd (n (λ _. five));
}

pub spelled_sweep : (keeping : Bool) (w : Sweep) (vs area area' : List ℕ) (r : ℕ) (b : Buffers) (ts : List ℤ) (a : SweepAnswer) (b' : Buffers) (ts' : List ℤ)
    → perms_by w.mode w.form ≡ true → w.members ≡ 5
    → length area ≡ 245760 → SpeltInto vs area area' r
    → SweepKeepAnswers keeping (with_choices (take r area') w) b ts a b' ts'
    → SweepCodedAnswers true keeping (with_choices vs w) b ts a b' ts'
spelled_sweep keeping w vs area area' r b ts a b' ts' perms five so s told = record {
  five = λ _.
      by_room vs area area' r (λ (xs : List ℕ). SweepKeepAnswers keeping (with_choices xs w) b ts a b' ts') s
      (λ h one. sweep_too_many keeping w vs (take r area') b ts perms five (rw so at h) one a b' ts') told;
  other = λ n. absurd (n (λ _. five));
}

-- ---- by the coding

-- choices are numbers only where permutations are taken
pub numbers_perms : (k : Coding) (mode : Mode) (form : Form) (q : Bool) → q ≡ numbers_by k mode form → q ≡ true → perms_by mode form ≡ true
numbers_perms Rows mode form q e t = never (sym e ∙ t)
numbers_perms Numbers mode form q e t = sym e ∙ t

pub step_numbers : (q : Bool) (keeping : Bool) (c : Call) (p : Choices) (b : Buffers) (ts : List ℤ) (a : Answer) (b' : Buffers) (ts' : List ℤ)
    → q ≡ true → CodedAnswers true keeping c p b ts a b' ts' → CodedAnswers q keeping c p b ts a b' ts'
step_numbers q keeping c p b ts a b' ts' e k = rw e k

pub step_rows : (q : Bool) (keeping : Bool) (c : Call) (p : Choices) (b : Buffers) (ts : List ℤ) (a : Answer) (b' : Buffers) (ts' : List ℤ)
    → q ≡ false → KeepAnswers keeping c p b ts a b' ts' → CodedAnswers q keeping c p b ts a b' ts'
step_rows q keeping c p b ts a b' ts' e k = rw e ((plain keeping c p b ts a b' ts').1 k)

pub sweep_numbers : (q : Bool) (keeping : Bool) (w : Sweep) (b : Buffers) (ts : List ℤ) (a : SweepAnswer) (b' : Buffers) (ts' : List ℤ)
    → q ≡ true → SweepCodedAnswers true keeping w b ts a b' ts' → SweepCodedAnswers q keeping w b ts a b' ts'
sweep_numbers q keeping w b ts a b' ts' e k = rw e k

pub sweep_rows : (q : Bool) (keeping : Bool) (w : Sweep) (b : Buffers) (ts : List ℤ) (a : SweepAnswer) (b' : Buffers) (ts' : List ℤ)
    → q ≡ false → SweepKeepAnswers keeping w b ts a b' ts' → SweepCodedAnswers q keeping w b ts a b' ts'
sweep_rows q keeping w b ts a b' ts' e k = rw e ((sweep_plain keeping w b ts a b' ts').1 k)

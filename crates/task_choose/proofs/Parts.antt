-- Tests 2 and 9 from the tests of their parts.
use Prim.Native.Nat.{ℕ, ◌*◌, ◌≤◌, ◌<◌}
use mathlib.Core.Path.{◌≡◌}
use mathlib.Core.Bool.{Bool, true, false, cond, ◌&&◌}
use mathlib.Core.List.{List, []}
use native.Mathlib.Omega.{arith}
use lib.ListN.{length, get_or}
use lib.IntN.{ℤ}
use Rattle.lemmas.specs.Tells.{Tells, Each, Test, said, same, both}
use Rattle.paper.specs.declared.Form.{Form}
use Rattle.paper.specs.declared.Form.TheVariants.{Sw, Wolff, Observe, Grow}
use Rattle.paper.specs.declared.Mode.{Mode}
use Rattle.paper.specs.declared.Task.{Task}
use Rattle.paper.specs.Panel.Input.{Call, Choices, size}
use Rattle.paper.specs.Panel.Made.{call_of}
use Rattle.paper.specs.Panel.Takes.{is_perm, grows_by, takes_choices, takes_greys, takes_grey_labels, entries, choice_width, choice_bytes}
use Rattle.paper.specs.Refusal.Rules.{When}
use Rattle.task_steps.specs.Label.{takes_blue}
use Rattle.task_steps.specs.Choose.{Found, takes_labels, ChooseExact, Told}
use Rattle.task_choose.specs.Tested.{FoundLong, EveryPins}

pub entries_few : (f : Form) (n : ℕ) → n ≤ 4096 → entries f n ≤ 4096
entries_few Sw n h = h
entries_few Wolff n h = omega arith
entries_few Observe n h = omega arith
entries_few Grow n h = omega arith

pub width_few : (mode : Mode) (m : ℕ) → m ≤ 8 → choice_width mode m ≤ 8
width_few mode m h = go (is_perm mode)
  where
    go : (p : Bool) → cond p m 1 ≤ 8
    go true = h
    go false = omega arith

-- the nine lengths
pub exact_told : (c : Call) (p : Choices) (xs : List ℤ) (f : Found) (area : List ℕ) {r1 r2 r3 r4 r5 r6 r7 r8 r9 : Bool}
    → Test r1 (length xs ≡ c.lattice.s * c.lattice.n)
    → Test r2 (length c.pins ≡ c.lattice.n)
    → Test r3 (When (takes_choices c) (length p.choices ≡ choice_bytes c.mode c.form c.lattice.n (size c)))
    → Test r4 (When (takes_greys c) (length p.greys ≡ entries c.form c.lattice.n))
    → Test r5 (When (takes_labels c) (length f.labels ≡ c.lattice.n))
    → Test r6 (When (takes_grey_labels c) (length f.grey_labels ≡ c.lattice.n))
    → Test r7 (When (grows_by c.form) (length f.members ≡ c.lattice.n))
    → Test r8 (When (takes_blue c) (length f.blue ≡ c.lattice.n))
    → Test r9 (length area ≡ c.lattice.n)
    → Tells ((((((((r1 && r2) && r3) && r4) && r5) && r6) && r7) && r8) && r9) (ChooseExact c p xs f area)
exact_told c p xs f area t1 t2 t3 t4 t5 t6 t7 t8 t9 =
    (same (ChooseExact c p xs f area)
    (λ h. record {
      spins = h.0.0.0.0.0.0.0.0;
      pins = h.0.0.0.0.0.0.0.1;
      choices = h.0.0.0.0.0.0.1;
      greys = h.0.0.0.0.0.1;
      labels = h.0.0.0.0.1;
      grey_labels = h.0.0.0.1;
      members = h.0.0.1;
      blue = h.0.1;
      area_long = h.1;
    })
    (λ z. ((((((((z.spins, z.pins), z.choices), z.greys), z.labels), z.grey_labels), z.members), z.blue), z.area_long))
    (both (both (both (both (both (both (both (both t1 t2) t3) t4) t5) t6) t7) t8) t9)
    ).says

-- a test that is made only if its input is taken, as the code put it
pub taken_as : {t t' : Bool} (r : Bool) (P : Type 0) → t ≡ t' → Tells r (When t P) → Test r (When t' P)
taken_as {t} {t'} r P e h = said r (When t' P) (rw e at h)

-- each entry of a buffer, by its length
entries_test : {b : Bool} (xs : List ℕ) (n : ℕ) (taken : Bool) (P : ℕ → Type 0) → When taken (length xs ≡ n) → Test b (When taken (Each (length xs) P))
    → Test b (When taken ((i : ℕ) → i < n → P i))
entries_test xs n taken P long =
    same (When taken ((i : ℕ) → i < n → P i)) (λ w e i l. w e i (rw (long e) l)) (λ w e i l. w e i (rw (long e) at l))

module _ (t : Task) (f : Found) (h : FoundLong (call_of t [] [] [] [] []) f) where
  abbrev c : Call
  c = call_of t [] [] [] [] []

  pub found_told : {r1 r2 r3 r4 : Bool}
      → Test r1 (When (takes_labels c) (Each (length f.labels) (λ i. get_or f.labels i 0 < t.n)))
      → Test r2 (When (takes_grey_labels c) (Each (length f.grey_labels) (λ i. get_or f.grey_labels i 0 < t.n)))
      → Test r3 (When (grows_by t.form) (Each (length f.members) (λ i. get_or f.members i 0 ≤ 1)))
      → Test r4 (When (takes_blue c) (Each (length f.blue) (λ i. get_or f.blue i 0 ≤ 1)))
      → EveryPins t (λ c. Tells (((r1 && r2) && r3) && r4) (Told c f))
  found_told t1 t2 t3 t4 pins =
      (same (Told _ f)
      (λ w. record { labels = w.0.0.0; grey_labels = w.0.0.1; members = w.0.1; blue = w.1 })
      (λ z. (((z.labels, z.grey_labels), z.members), z.blue))
      (both (both (both
      (entries_test f.labels t.n (takes_labels c) (λ i. get_or f.labels i 0 < t.n) h.labels t1)
      (entries_test f.grey_labels t.n (takes_grey_labels c) (λ i. get_or f.grey_labels i 0 < t.n) h.grey_labels t2))
      (entries_test f.members t.n (grows_by t.form) (λ i. get_or f.members i 0 ≤ 1) h.members t3))
      (entries_test f.blue t.n (takes_blue c) (λ i. get_or f.blue i 0 ≤ 1) h.blue t4))
      ).says

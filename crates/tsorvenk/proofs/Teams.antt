-- From the verdict of the owner tests to what a team's call promises; and a sweep whose order is not looked at.
use Prim.Native.Nat.{ℕ, zero, suc, ◌≤◌}
use mathlib.Core.Path.{◌≡◌, refl, ◌∙◌, ap, subst}
use mathlib.Core.Logic.{inl, inr}
use mathlib.Core.Bool.{Bool, true, false, cond, ◌&&◌}
use mathlib.Core.List.{List, [], ◌∷◌, map}
use native.Mathlib.Nat.{mul-le-mul}
use native.Mathlib.Omega.{arith}
use lib.Dec.{leb}
use lib.ListN.{length, take, length-take, length-map}
use lib.IntN.{ℤ}
use Rattle.std.specs.Prelude.{Result, Ok, Err}
use Rattle.lemmas.specs.Tells.{denied, both, test_le}
use Rattle.paper.specs.declared.Refusal.{Refusal}
use Rattle.paper.specs.Refusal.Numbers.{number_of, verdict_of, refused}
use Rattle.paper.specs.Answer.Cases.{SweepAnswer, SweepAnswer.Fault, SweepAnswer.Swept}
use Rattle.paper.specs.Panel.Input.{Buffers}
use Rattle.paper.specs.Refusal.Rule.{Kept, Broken, broken_unique, broken_not_kept}
use Rattle.paper.specs.Refusal.Verdict.{Verdict, verdict_kept}
use Rattle.paper.specs.Answer.Task.{Sweep}
use Rattle.paper.specs.Answer.Sweep.{SweepRanged}
use Rattle.paper.specs.Answer.Totals.{SweepKeepAnswers}
use Rattle.paper.specs.Answer.Team.{Team, owner_rules, Owned, own_count, read, read_sweep}
use Rattle.systems.specs.Owners.{read_length, length_fits, OrderRead, order_entries}
use Rattle.coded.specs.Long.{second}
use Rattle.coded.specs.Sweep.{SweepCodedAnswers, spelled_sweep}
use Rattle.tsorvenk.specs.Sweep.{WithOutcomes, Fits, outcome_rules, Uncounted, OutcomeAnswers, SweepNumbers}

pub not_refused : (r : Result (Unit {0}) Refusal) → ((e : Refusal) → r ≡ Err e → ⊥) → verdict_of r ≡ 0
not_refused (Ok u) n = refl
not_refused (Err e) n = absurd (n e refl)

module _ (o : Team) (s : ℕ) {Same Told : Type 0} where
  pub owner_refused : (r : ℕ) → (r ≡ 0 → ⊥) → Verdict (owner_rules o s) r → Same → Owned o s r Same Told
  owner_refused zero e v h = absurd (e refl)
  owner_refused (suc r) e v h = record {
    told = λ k. absurd (broken_not_kept (owner_rules o s) (suc r) v k);
    refused = λ k w. (broken_unique (owner_rules o s) (suc r) k v w, h);
  }

  pub owner_refused_by : (e : Refusal) → Verdict (owner_rules o s) (number_of e) → Same → Owned o s (number_of e) Same Told
  owner_refused_by e v h = record {
    told = λ k. absurd (broken_not_kept (owner_rules o s) (number_of e) (refused (owner_rules o s) e v) k);
    refused = λ k w. (broken_unique (owner_rules o s) (number_of e) k (refused (owner_rules o s) e v) w, h);
  }

  pub owner_told : (f r : ℕ) → f ≡ 0 → Verdict (owner_rules o s) f → Told → Owned o s r Same Told
  owner_told f r e v h = record { told = λ _. h; refused = λ k w. absurd (broken_not_kept (owner_rules o s) k w (verdict_kept (owner_rules o s) f e v)) }

-- ---- a sweep with another order
abbrev pub with_order : List ℕ → Sweep → Sweep
with_order xs w = record {
  mode = w.mode;
  form = w.form;
  lattice = w.lattice;
  pins = w.pins;
  systems = w.systems;
  t = w.t;
  r = w.r;
  members = w.members;
  order = xs;
  masks = w.masks;
  temperatures = w.temperatures;
  cuts = w.cuts;
  references = w.references;
  seeds = w.seeds;
  choices = w.choices;
  greys = w.greys;
}

-- where two orders are both of a wrong length, nothing depends on which it is
module _ (w : Sweep) (xs ys : List ℕ) where
  -- rule 1 does not look at the order, nor at the choices
  ranged_of : (x : Bool) (zs : List ℕ) → SweepRanged (spelled_sweep x (with_order zs w)) → SweepRanged w
  ranged_of x zs k = record { ranged = k.ranged; few = k.few; some = k.some; all = k.all; enough = k.enough }

  ranged_to : (x : Bool) (zs : List ℕ) → SweepRanged w → SweepRanged (spelled_sweep x (with_order zs w))
  ranged_to x zs k = record { ranged = k.ranged; few = k.few; some = k.some; all = k.all; enough = k.enough }

  fits_with : (x : Bool) (us vs : List ℕ) → Fits x (with_order us w) → Fits x (with_order vs w)
  fits_with x us vs h = let r = h.ranged in record {
    ranged = record { ranged = r.ranged; few = r.few; some = r.some; all = r.all; enough = r.enough };
    five = h.five;
  }

  abbrev Unfit : List ℕ → Type 0
  Unfit zs = SweepRanged w → length zs ≡ w.systems → ⊥

  module _ (ux : Unfit xs) (uy : Unfit ys) where
    kept_alike :
        (x keeping : Bool) (b : Buffers) (ts : List ℤ) (a : SweepAnswer) (b' : Buffers) (ts' : List ℤ)
        → SweepKeepAnswers keeping (spelled_sweep x (with_order xs w)) b ts a b' ts'
        → SweepKeepAnswers keeping (spelled_sweep x (with_order ys w)) b ts a b' ts'
    kept_alike x keeping b ts (Fault r) b' ts' k = record {
      why = second (λ q. ranged_to x ys (ranged_of x xs q)) (λ q. ranged_to x xs (ranged_of x ys q)) (λ q e. ux (ranged_of x xs q) e.order)
          (λ q e. uy (ranged_of x ys q) e.order) k.why;
      kept = k.kept;
      totals_kept = k.totals_kept;
    }
    kept_alike x keeping b ts (Swept idle moved held) b' ts' k = absurd (ux (ranged_of x xs k.valid.0) k.valid.1.1.0.order)

    coded_alike :
        (x keeping : Bool) (b : Buffers) (ts : List ℤ) (a : SweepAnswer) (b' : Buffers) (ts' : List ℤ)
        → SweepCodedAnswers x keeping (with_order xs w) b ts a b' ts'
        → SweepCodedAnswers x keeping (with_order ys w) b ts a b' ts'
    coded_alike x keeping b ts a b' ts' h = record { five = λ f. kept_alike x keeping b ts a b' ts' (h.five f); other = h.other }

    uncounted_alike : (x : Bool) (l l' : WithOutcomes) (r : ℕ) → Uncounted x (with_order xs w) l r l' → Uncounted x (with_order ys w) l r l'
    uncounted_alike x l l' r u = record { why = go u.why; kept = u.kept }
      where
        go : Broken (outcome_rules x (with_order xs w) l) r → Broken (outcome_rules x (with_order ys w) l) r
        go (inl v) = inl ((λ h. v.0 (fits_with x ys xs h)), v.1)
        go (inr v) = inr (fits_with x xs ys v.0, v.1)

    outcome_alike :
        (x keeping : Bool) (l l' : WithOutcomes) (r : ℕ) → OutcomeAnswers x keeping (with_order xs w) l r l' → OutcomeAnswers x keeping (with_order ys w) l r l'
    outcome_alike x keeping l l' r h = record {
      roomed = λ e. let q = h.roomed e in record {
        answer = q.answer;
        allowed = record {
          answers = coded_alike x keeping l.buffers l.totals q.answer l'.buffers l'.totals q.allowed.answers;
          counts = q.allowed.counts;
        };
        number = q.number;
      };
      roomless = λ e. uncounted_alike x l l' r (h.roomless e);
    }

    order_alike :
        {mode form coding keeps : ℕ} (l l' : WithOutcomes) (r : ℕ)
        → SweepNumbers mode form coding keeps (with_order xs w) l r l'
        → SweepNumbers mode form coding keeps (with_order ys w) l r l'
    order_alike l l' r h = record { known = λ k. outcome_alike _ _ l l' r (h.known k); unknown = h.unknown }

-- ---- an order that is too long is not read
module _ (w : Sweep) (f : ℕ → ℕ) (order : List ℕ) where
  pub take_all : (xs : List ℕ) → take (length xs) xs ≡ xs
  take_all [] = refl
  take_all (x ∷ xs) = ap (λ (ys : List ℕ). x ∷ ys) (take_all xs)

  -- such a sweep has at least two systems, and at most 64
  pub none_fit : SweepRanged w → length (map f (take 0 order)) ≡ w.systems → ⊥
  none_fit k e = omega (
    arith,
    e,
    length-map (take 0 order) f,
    length-take 0 order,
    k.all,
    mul-le-mul k.some k.enough,
    k.ranged.size_low,
  )

  pub long_unfit : (leb w.lattice.s 64 && leb (length order) 64) ≡ false → SweepRanged w → length (map f order) ≡ w.systems → ⊥
  long_unfit off k e =
      denied off (both (test_le w.lattice.s 64) (test_le (length order) 64)).says
      (k.ranged.lattice.s_high, omega (arith, e, length-map order f, k.few, k.ranged.lattice.s_high))

  pub read_alike :
      {mode form coding keeps : ℕ} (l l' : WithOutcomes) (r : ℕ)
      → SweepNumbers mode form coding keeps (with_order (map f (take (read_length w.lattice.s (length order)) order)) w) l r l'
      → SweepNumbers mode form coding keeps (with_order (map f order) w) l r l'
  read_alike {mode} {form} {coding} {keeps} l l' r = go (leb w.lattice.s 64 && leb (length order) 64) refl
    where
      With : List ℕ → Type 0
      With xs = SweepNumbers mode form coding keeps (with_order (map f xs) w) l r l'

      go : (q : Bool) → (leb w.lattice.s 64 && leb (length order) 64) ≡ q → With (take (cond q (length order) 0) order) → With order
      go true e h = subst With (take_all order) h
      go false e h = order_alike w (map f (take 0 order)) (map f order) none_fit (long_unfit e) l l' r h

-- ---- from the order and the count that were read to the sweep that the team's is taken to be
abbrev pub with_systems : ℕ → Sweep → Sweep
with_systems m w = record {
  mode = w.mode;
  form = w.form;
  lattice = w.lattice;
  pins = w.pins;
  systems = m;
  t = w.t;
  r = w.r;
  members = w.members;
  order = w.order;
  masks = w.masks;
  temperatures = w.temperatures;
  cuts = w.cuts;
  references = w.references;
  seeds = w.seeds;
  choices = w.choices;
  greys = w.greys;
}

pub order_inside :
    {o : Team} {s : ℕ} {order named : List ℕ} {r : ℕ} {named' : List ℕ} → length named ≡ 64 → OrderRead o s order named r named' → r ≤ length named'
order_inside {s = s} {order} room h = rw (h.written.long, room, h.count) (length_fits s (length order))

module _ (o : Team) (w : Sweep) (mode form coding keeps : ℕ) (l l' : WithOutcomes) (r : ℕ) where
  abbrev Numbers : Sweep → Type 0
  Numbers v = SweepNumbers mode form coding keeps v l r l'

  pub sweep_read :
      (systems len : ℕ) (named named' : List ℕ)
      → Kept (owner_rules o w.lattice.s)
      → systems ≡ own_count o (length o.owners)
      → length named ≡ 64
      → OrderRead o w.lattice.s w.order named len named'
      → Numbers (with_order (take len named') (with_systems systems w))
      → Numbers (read_sweep o w)
  sweep_read systems len named named' k count room h n =
      read_alike (with_systems (own_count o w.lattice.s) w) (read o w.lattice.s) w.order l l' r
      (subst (λ (m : ℕ). Numbers (with_order (map (read o w.lattice.s) (take m w.order)) (with_systems (own_count o w.lattice.s) w))) h.count
      (subst (λ (xs : List ℕ). Numbers (with_order xs (with_systems (own_count o w.lattice.s) w))) (order_entries room h)
      (subst (λ (m : ℕ). Numbers (with_order (take len named') (with_systems m w))) (count ∙ ap (own_count o) k.0) n)))

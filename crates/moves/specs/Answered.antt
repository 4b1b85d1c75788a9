-- From an accepted call to what the steps ask, and from what they leave to the call's answer.
use Rattle.std.specs.Prelude.{ℕ, ◌*◌, ◌^◌, ◌≤◌, ◌<◌, ◌≡◌, refl, true, false, List, length, get_or, take, replicate, ℤ, Float}
use Rattle.std.proofs.Common.{sym, ◌∙◌, arith, mul-le-mul, length-take-le}
use Rattle.lemmas.specs.Bools.{never}
use Rattle.paper.specs.declared.Task.{Task}
use Rattle.paper.specs.Answer.Cases.{Answer, Answer.Refused, Answer.Idle, Answer.Held, Answer.Moved}
use Rattle.paper.specs.Panel.Input.{Call, Choices, Buffers, graph}
use Rattle.paper.specs.Panel.Made.{call_of, buffers_of}
use Rattle.paper.specs.Panel.Takes.{is_cmr, labels_by, moves}
use Rattle.paper.specs.Site.Bonds.{holds, holds_grey}
use Rattle.paper.specs.Move.Moving.{final, Moves}
use Rattle.paper.specs.Refusal.Kept.{Valid, valid_kept}
use Rattle.paper.specs.Answer.Move.{SeenAll, Seen, Answers}
use Rattle.laws.specs.Forms.{forms_apart}
use Rattle.laws.specs.Unique.{label_lt}
use Rattle.columns.specs.Column.{Columns}
use Rattle.columns.specs.Rows.{Written}
use Rattle.choose.specs.Chosen.{Freed}
use Rattle.moves.specs.Tested.{TestedFor, ready}
use Rattle.moves.specs.Steps.{ColumnsOf, ChooseAsks, ChooseLeaves}
use Rattle.moves.specs.Leaves.{beside_of, changes}
use Rattle.moves.specs.Labelling.{TaskAsks, SomeFree, Foretells, TaskLeaves}
use Rattle.moves.specs.Choices.{rows_of, columns_narrow}
use Rattle.moves.specs.Finish.{no_move, observed, spins_back}
use Rattle.moves.specs.Given.{Given, Keys, given_asks, chosen_columns}

pub valid_with :
    {c : Call} {p : Choices} {xs : List ℤ} {labels grey_labels counts sizes members found grey_found : List ℕ} → labels_by c.form ≡ true
    → Valid c p (buffers_of xs labels grey_labels counts sizes members found grey_found) → (others : List ℕ)
    → Valid c p (buffers_of xs labels grey_labels counts sizes others found grey_found)
valid_with {c} f v others = let s = v.sound in let e = s.exact in record {
  sound = record {
    ranged = s.ranged;
    houd = s.houd;
    exact = record {
      spins = e.spins;
      fwd = e.fwd;
      bwd = e.bwd;
      pins = e.pins;
      couplings = e.couplings;
      cuts = e.cuts;
      choices = e.choices;
      greys = e.greys;
      labels = e.labels;
      grey_labels = e.grey_labels;
      counts = e.counts;
      sizes = e.sizes;
      members = forms_apart c.form f;
      found = e.found;
      grey_found = e.grey_found;
    };
    spins = s.spins;
    inverse = s.inverse;
    pins = s.pins;
    grouped = s.grouped;
    couplings = s.couplings;
    warm = s.warm;
  };
  fit = v.fit;
}

-- the front of a work array of m zeros
abbrev pub area : ℕ → ℕ → List ℕ
area m k = take k (replicate m 0)

-- the answer with which columns may have changed
record Changing (c : Call) (xs : List ℤ) (a : Answer) : Type 0 where
  is : a ≡ Moved
  moving : moves c.form ≡ true
  free : SomeFree c xs

changing : {c : Call} {xs : List ℤ} (a : Answer) → Foretells c xs a → changes c.form a ≡ true → Changing c xs a
changing (Refused r) s e = absurd s
changing Idle s e = never e
changing Held s e = never e
changing Moved s e = record { is = refl; moving = e; free = s }

module _
    (t : Task) (fwd bwd pins : List ℕ) (couplings : List ℤ) (cuts : List Float) (p : Choices) {xs : List ℤ}
    {labels₀ greyLabels₀ counts₀ sizes₀ members found₀ greyFound₀ : List ℕ} (f : labels_by t.form ≡ true)
    (v : Valid (call_of t fwd bwd pins couplings cuts) p (buffers_of xs labels₀ greyLabels₀ counts₀ sizes₀ members found₀ greyFound₀))
  where
    abbrev c : Call
    c = call_of t fwd bwd pins couplings cuts

    abbrev b : Buffers
    b = buffers_of xs labels₀ greyLabels₀ counts₀ sizes₀ members found₀ greyFound₀

    tested : TestedFor c xs
    tested = ready c p b v.sound

    pub n_high : t.n ≤ 4096
    n_high = tested.n_high

    pub bonds_high : t.n * t.d ≤ 16384
    bonds_high = mul-le-mul tested.n_high tested.d_high

    -- ---- the label step
    pub task_asks :
        {cols : List ℕ} → ColumnsOf t xs cols
        → TaskAsks t fwd pins couplings cuts cols (area 4096 t.n) (area 16384 (t.n * t.d)) (area 16384 (t.n * t.d)) (area 4096 t.n)
        (area 4096 t.n) labels₀ greyLabels₀ counts₀ sizes₀ found₀ greyFound₀
    task_asks w = record {
      label = record {
        rows = xs;
        tested = tested;
        columns = w;
        reference = v.fit.chosen.reference;
        coupled = λ q. record { couplings_long = v.sound.exact.couplings q; cuts_long = v.sound.exact.cuts q; small = v.sound.couplings q };
        lent = record {
          flags_long = length-take-le t.n _ n_high;
          holding_long = length-take-le (t.n * t.d) _ bonds_high;
          grey_long = length-take-le (t.n * t.d) _ bonds_high;
          tally_long = length-take-le t.n _ n_high;
          labels_long = v.sound.exact.labels f;
          counts_long = v.sound.exact.counts f;
          sizes_long = v.sound.exact.sizes f;
          found_long = v.sound.exact.found f;
        };
      };
      pins_long = v.sound.exact.pins;
      seeded = v.fit.seeded.below;
      greys = λ e. record {
        labels_long = v.sound.exact.grey_labels (rw f e);
        tally_long = length-take-le t.n _ n_high;
        found_long = v.sound.exact.grey_found (rw f e);
      };
    }

    given : moves t.form ≡ true → Given c p xs
    given moving = record {
      ranged = v.sound.ranged;
      spins = tested.spins;
      choices = v.sound.exact.choices;
      greys = v.sound.exact.greys;
      chosen = v.fit.chosen;
      seeded = v.fit.seeded.below;
      moving = moving;
    }

    module _
        {cols flags tally greyTally labels grey_labels counts sizes found grey_found : List ℕ} {a : Answer}
        (d : TaskLeaves c xs cols (beside_of labels₀ greyLabels₀ counts₀ sizes₀ found₀ greyFound₀) flags tally greyTally
        (beside_of labels grey_labels counts sizes found grey_found) a)
      where
        abbrev b' : List ℤ → Buffers
        b' ys = buffers_of ys labels grey_labels counts sizes members found grey_found

        all : SeenAll c b (b' xs)
        all = d.seen members

        seen : {ys : List ℤ} → Seen c b (b' ys)
        seen = record {
          all = λ _. record {
            labels = all.labels;
            grey_labels = all.grey_labels;
            grey_kept = all.grey_kept;
            grey_found_kept = all.grey_found_kept;
            counts = all.counts;
            sizes = all.sizes;
            members_kept = refl;
          };
          one = forms_apart t.form f;
        }

        pub labels_kept : length labels ≡ length labels₀
        labels_kept = all.labels.labels.long ∙ sym (v.sound.exact.labels f)

        pub counts_kept : length counts ≡ length counts₀
        counts_kept = omega (arith, all.counts.long, all.labels.labels.long, v.sound.exact.counts f)

        pub sizes_kept : length sizes ≡ length sizes₀
        sizes_kept = all.sizes.long ∙ sym (v.sound.exact.sizes f)

        pub found_kept : length found ≡ length found₀
        found_kept = all.labels.one ∙ sym (v.sound.exact.found f)

        keys : Keys t.n labels
        keys = record { long = all.labels.labels.long; below = label_lt (graph c) (holds c xs) labels all.labels.labels }

        -- ---- the columns stay
        pub stays_answers : changes t.form a ≡ false → Answers c p b a (b' xs)
        stays_answers e = go a d.says e
          where
            go : (a : Answer) → Foretells c xs a → changes t.form a ≡ false → Answers c p b a (b' xs)
            go (Refused r) s e = absurd s
            go Idle s e = record { valid = valid_kept c p b v; none = s; still = refl; seen = seen }
            go Held s e = record { valid = valid_kept c p b v; some = s.some; one = s.one; held = s.held; still = refl; seen = seen }
            go Moved s e = record {
              valid = valid_kept c p b v;
              some = s.some;
              free = s.free;
              moved = λ _. observed c p xs labels grey_labels (no_move t.form e);
              turned = forms_apart t.form f;
              seen = seen;
            }

        -- ---- the choose step
        module _ (e : changes t.form a ≡ true) where
          says : Changing c xs a
          says = changing a d.says e

          moving : moves t.form ≡ true
          moving = says.moving

          others : is_cmr t.mode ≡ true → Keys t.n grey_labels
          others q =
              let w = (all.grey_labels (rw (moving, q) refl)).labels in
              record { long = w.long; below = label_lt (graph c) (holds_grey c xs) grey_labels w }

          pub free : Freed pins labels tally
          free = d.freed says.free.some moving

          pub others_free : is_cmr t.mode ≡ true → Freed pins grey_labels greyTally
          others_free q = d.grey_freed (rw (moving, q) refl)

          pub choose_asks : ChooseAsks t p.choices p.greys flags labels tally grey_labels greyTally (area 4096 t.n) cols
          choose_asks =
              given_asks t fwd bwd pins couplings cuts p xs (given moving) keys d.acting d.columns free others others_free
              (length-take-le t.n _ n_high)

          module _ {new : List ℕ} (w : ChooseLeaves t p.choices p.greys flags labels tally grey_labels greyTally cols new) where
            chosen : Columns t.n t.group.len (final c p xs labels grey_labels) new
            chosen =
                chosen_columns t fwd bwd pins couplings cuts p xs (given moving) keys d.acting d.columns grey_labels
                (w pins free others_free)

            pub new_long : length new ≡ t.n
            new_long = chosen.long

            -- the chosen columns are of the group's size
            pub new_narrow : (i : ℕ) → i < t.n → get_or new i 0 < 2 ^ t.group.len
            new_narrow = columns_narrow chosen

            moved_by : {ys : List ℤ} → Written t.n t.group.len t.group new xs ys → Moves c p xs labels grey_labels ys
            moved_by {ys} o = record {
              long = o.long;
              group =
                  spins_back c p xs labels grey_labels tested v.fit.chosen.reference
                  (λ _. rows_of c p labels moving keys.below v.fit.chosen.perms) new ys chosen o.group;
              others = o.others;
            }

            pub goes_answers : {ys : List ℤ} → Written t.n t.group.len t.group new xs ys → Answers c p b a (b' ys)
            goes_answers {ys} o = rw says.is (record {
              valid = valid_kept c p b v;
              some = says.free.some;
              free = says.free.free;
              moved = λ _. moved_by o;
              turned = forms_apart t.form f;
              seen = seen;
            })

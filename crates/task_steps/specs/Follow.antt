-- A step that follows is never refused: where the move's rules are kept the first step's are, and from what a step leaves those of the next.
use Rattle.std.specs.Prelude.{ℕ, ◌<◌, ◌≡◌, Bool, true, List, length, get_or, ℤ}
use Rattle.std.proofs.Common.{◌∙◌}
use Rattle.lemmas.specs.Bools.{and_left, and_right}
use Rattle.paper.specs.Answer.Cases.{Answer}
use Rattle.paper.specs.Panel.Input.{graph, Call, Choices, Buffers, size}
use Rattle.paper.specs.Panel.Takes.{labels_by, takes_greys}
use Rattle.paper.specs.Site.Bonds.{holds, holds_grey}
use Rattle.paper.specs.Move.Moving.{final}
use Rattle.paper.specs.Refusal.Rule.{Kept}
use Rattle.paper.specs.Refusal.Rules.{Chosen, rules}
use Rattle.paper.specs.Answer.Totals.{kept_rules, kept_asked}
use Rattle.laws.specs.Unique.{label_lt}
use Rattle.columns.specs.Column.{column_lt}
use Rattle.task_steps.specs.Label.{takes_blue, label_rules, LabelAccepts}
use Rattle.task_steps.specs.Choose.{bare_call, Found, first_of, second_of, ChooseExact, Told, choose_rules, ChooseAnswers}
use Rattle.task_steps.specs.Write.{shape_of, Writing, writing_of, WriteExact, Columned, write_rules}
use Rattle.task_steps.specs.Found.{left_by, valid_by, labels_by_lem, grey_labels_by, members_long, members_byte}

-- the first: nothing is asked beside the move's rules but an area for the blue sites
pub label_accepted : (c : Call) (p : Choices) (b : Buffers) (blue : List ℕ) → (takes_blue c ≡ true → length blue ≡ c.lattice.n) → Kept (rules c p b)
    → Kept (label_rules c p b blue)
label_accepted c p b blue long k = (k.0, (k.1.0, (k.1.1.0, (long, k.1.1.1))))

-- choices are looked at in the bare call as they are in the call
bare_chosen : (c : Call) (p : Choices) → Chosen c p → Chosen (bare_call c) p
bare_chosen c p h = record {
  perms = h.perms;
  not_identity_lem = h.not_identity_lem;
  flips = h.flips;
  greys = h.greys;
  grey_some = h.grey_some;
  reference = h.reference;
}

module _ {c : Call} {p : Choices} {b b₁ : Buffers} {blue blue₁ : List ℕ} {a : Answer} (w : LabelAccepts c p b blue a b₁ blue₁) where
  abbrev f : Found
  f = left_by b₁ blue₁

  grey_labelled : labels_by c.form ≡ true → takes_greys c ≡ true → (i : ℕ) → i < c.lattice.n → get_or b₁.grey_labels i 0 < c.lattice.n
  grey_labelled l g = label_lt (graph c) (holds_grey c b.spins) b₁.grey_labels (grey_labels_by w l g)

  exact_by : (area : List ℕ) → length area ≡ c.lattice.n → ChooseExact (bare_call c) p b.spins f area
  exact_by area long = let e = (valid_by w).sound.exact in record {
    spins = e.spins;
    pins = e.pins;
    choices = e.choices;
    greys = e.greys;
    labels = λ q. (labels_by_lem w (and_left (labels_by c.form) _ q)).long;
    grey_labels = λ q. (grey_labels_by w (and_left (labels_by c.form) _ q) (and_right (labels_by c.form) _ q)).long;
    members = λ g. members_long w g;
    blue = λ q. (w.blue_sites q).long;
    area_long = long;
  }

  told_by : Told (bare_call c) f
  told_by = record {
    labels = λ q. label_lt (graph c) (holds c b.spins) b₁.labels (labels_by_lem w (and_left (labels_by c.form) _ q));
    grey_labels = λ q. grey_labelled (and_left (labels_by c.form) _ q) (and_right (labels_by c.form) _ q);
    members = λ g. members_byte w g;
    blue = λ q. (w.blue_sites q).byte;
  }

  -- the second
  pub choose_accepted : (area : List ℕ) → length area ≡ c.lattice.n → Kept (choose_rules (bare_call c) p b.spins f area)
  choose_accepted area long =
      let s = (valid_by w).sound in
      let h = (valid_by w).fit in
      (s.ranged, (s.houd, (exact_by area long, (s.spins, (s.pins, (bare_chosen c p h.chosen, (told_by, (h.seeded.below, tt))))))))

  -- the third
  module _
      (keeping : Bool) (ts : List ℤ) (k : Kept (kept_rules keeping c p b ts)) (area area₁ : List ℕ)
      (q : ChooseAnswers (bare_call c) p b.spins f area 0 area₁)
    where
      abbrev l : Writing
      l = writing_of b.spins b₁.members area₁ ts

      write_exact : WriteExact keeping (shape_of c) l
      write_exact = let e = (valid_by w).sound.exact in record {
        rows = e.spins;
        members = λ g. members_long w g;
        area = q.long ∙ q.valid.1.1.0.area_long;
        fwd = λ _. e.fwd;
        bwd = λ _. e.bwd;
        totals = (kept_asked keeping c p b ts k).lengths;
      }

      columned : Columned (shape_of c) l
      columned i h e = rw (q.chosen i h e) (column_lt (size c) (final (bare_call c) p b.spins (first_of (bare_call c) f) (second_of (bare_call c) f) i))

      pub write_accepted : Kept (write_rules keeping (shape_of c) l)
      write_accepted =
          let s = (valid_by w).sound in
          let t = kept_asked keeping c p b ts k in
          (s.ranged, (s.houd, (write_exact, (s.spins, (columned, ((λ _. s.inverse), (t.couplings, ((λ g. members_byte w g), (t.small, tt)))))))))

-- Every rule of a move asks only of what is taken.
use Rattle.std.specs.Prelude.{ℕ, ◌+◌, ◌*◌, ◌<◌, ◌≤◌, ◌≡◌, refl, ◌↔◌, true, ◌&&◌, List, length, get_or, ℤ}
use Rattle.std.proofs.Common.{sym, ◌∙◌, ap}
use Rattle.lemmas.specs.Bools.{and_left}
use Rattle.paper.specs.Panel.Input.{Call, Choices, Buffers, size}
use Rattle.paper.specs.Panel.Takes.{one_cluster, entries, choice_bytes, takes_cuts, takes_flips, takes_perms, takes_choices, takes_greys, takes_reference, takes_seed}
use Rattle.paper.specs.Site.Acting.{acts, SomeActs}
use Rattle.paper.specs.Refusal.Rules.{Exact, group_names, Named, Spins, Grouped, Permutes, SmallCouplings, Warm, Cuts, NotIdentity, Chosen}
use Rattle.paper.specs.Refusal.Rules.{Seeded, choice_rules, rules}
use Rattle.paper.specs.Answer.Same.{SameTaken, SameLent}
use Rattle.laws.specs.Choices.{flips_taken, perms_taken}
use Rattle.laws.specs.Matched.{Matched, taken_same, itself}
use Rattle.laws.specs.Untaken.{over, onto, acts_same}

module _ {c a : Call} {p o : Choices} (same : SameTaken c p a o) where
  grouped_same : Grouped c.lattice.s c.group ↔ Grouped c.lattice.s (over c a).group
  grouped_same = (
    (λ h. record {
      below = λ k l. rw (same.call.systems k l) (h.below k l);
      distinct = λ x y hx hy e. h.distinct x y hx hy (sym (same.call.systems x hx) ∙ (e ∙ same.call.systems y hy));
    }),
    (λ h. record {
      below = λ k l. rw (same.call.systems k l) at (h.below k l);
      distinct = λ x y hx hy e. h.distinct x y hx hy (same.call.systems x hx ∙ (e ∙ sym (same.call.systems y hy)));
    }),
  )

  -- the same systems are named
  named_same : (t : ℕ) → Named c.lattice.s (group_names c.group) t ↔ Named c.lattice.s (group_names (over c a).group) t
  named_same t = (
    (λ h. record { place = h.place; below = h.below; is = same.call.systems h.place h.below ∙ h.is; inside = h.inside }),
    (λ h. record { place = h.place; below = h.below; is = sym (same.call.systems h.place h.below) ∙ h.is; inside = h.inside }),
  )

  spins_same :
      (xs : List ℤ)
      → Spins c.lattice.n (Named c.lattice.s (group_names c.group)) xs
      ↔ Spins c.lattice.n (Named c.lattice.s (group_names (over c a).group)) xs
  spins_same xs = ((λ h t i l. h t i ((named_same t).1 l)), (λ h t i l. h t i ((named_same t).0 l)))

  -- ---- the choices: what is asked of each kind
  abbrev AllPermute : List ℕ → Type 0
  AllPermute z = (r : ℕ) → r < entries c.form c.lattice.n → Permutes (size c) (λ k. get_or z (r * size c + k) 0)

  abbrev FirstMoves : List ℕ → Type 0
  FirstMoves z = NotIdentity (size c) (λ k. get_or z (0 * size c + k) 0)

  abbrev AllFlips : List ℕ → Type 0
  AllFlips z = (r : ℕ) → r < c.lattice.n → get_or z r 0 ≤ 1

  abbrev AllGreys : List ℕ → Type 0
  AllGreys z = (r : ℕ) → r < entries c.form c.lattice.n → get_or z r 0 ≤ 3

  abbrev FirstGreys : List ℕ → Type 0
  FirstGreys z = 1 ≤ get_or z 0 0

  abbrev InPanel : ℕ → Type 0
  InPanel x = x < c.lattice.n

  perms_same : takes_perms c ≡ true → o.choices ≡ p.choices
  perms_same t = same.choices.choices (perms_taken c.mode c.form t)

  chosen_same : Chosen c p ↔ Chosen (over c a) o
  chosen_same =
      let perms = taken_same (takes_perms c) AllPermute perms_same in
      let moving = taken_same (takes_perms c && one_cluster c.form) FirstMoves (λ t. perms_same (and_left (takes_perms c) _ t)) in
      let flips = taken_same (takes_flips c) AllFlips (λ t. same.choices.choices (flips_taken c.mode c.form t)) in
      let greys = taken_same (takes_greys c) AllGreys same.choices.greys in
      let some = taken_same (takes_greys c && one_cluster c.form) FirstGreys (λ t. same.choices.greys (and_left (takes_greys c) _ t)) in
      let site = taken_same (takes_reference c) InPanel same.call.reference in (
        (λ h. record {
          perms = perms.0 h.perms;
          not_identity_lem = moving.0 h.not_identity_lem;
          flips = flips.0 h.flips;
          greys = greys.0 h.greys;
          grey_some = some.0 h.grey_some;
          reference = site.0 h.reference;
        }),
        (λ h. record {
          perms = perms.1 h.perms;
          not_identity_lem = moving.1 h.not_identity_lem;
          flips = flips.1 h.flips;
          greys = greys.1 h.greys;
          grey_some = some.1 h.grey_some;
          reference = site.1 h.reference;
        }),
      )

  -- ---- the seed
  module _ (xs : List ℤ) where
    pub some_there : SomeActs c xs → SomeActs (over c a) xs
    some_there q = record { site = q.site; below = q.below; does = acts_same same.call xs q.site ∙ q.does }

    some_back : SomeActs (over c a) xs → SomeActs c xs
    some_back q = record { site = q.site; below = q.below; does = sym (acts_same same.call xs q.site) ∙ q.does }

    pub seed_acts : takes_seed c ≡ true → acts (over c a) xs a.seed ≡ acts c xs c.seed
    seed_acts t = acts_same same.call xs a.seed ∙ ap (acts c xs) (same.call.seed t)

    seeded_same : Seeded c xs ↔ Seeded (over c a) xs
    seeded_same =
        let below = taken_same (takes_seed c) InPanel same.call.seed in (
          (λ h. record { below = below.0 h.below; acting = λ t q. seed_acts t ∙ h.acting t (some_back q) }),
          (λ h. record { below = below.1 h.below; acting = λ t q. sym (seed_acts t) ∙ h.acting t (some_there q) }),
        )

    pub choice_rules_same : Matched (choice_rules c p xs) (choice_rules (over c a) o xs)
    choice_rules_same =
        (refl, taken_same (takes_cuts c) Cuts same.call.cuts, (refl, chosen_same, (refl, seeded_same, tt)))

  module _ {b d : Buffers} (lent : SameLent c b d) where
    abbrev Long : {A : Type 0} → ℕ → List A → Type 0
    Long m z = length z ≡ m

    exact_same : Exact c p b ↔ Exact (over c a) o (onto b d)
    exact_same =
        let nd = c.lattice.n * c.lattice.d in
        let couplings = taken_same (takes_cuts c) (Long nd) same.call.panel.couplings in
        let cuts = taken_same (takes_cuts c) (Long nd) same.call.cuts in
        let choices = taken_same (takes_choices c) (Long (choice_bytes c.mode c.form c.lattice.n (size c))) same.choices.choices in
        let greys = taken_same (takes_greys c) (Long (entries c.form c.lattice.n)) same.choices.greys in (
          (λ h. record {
            spins = h.spins;
            fwd = h.fwd;
            bwd = h.bwd;
            pins = h.pins;
            couplings = couplings.0 h.couplings;
            cuts = cuts.0 h.cuts;
            choices = choices.0 h.choices;
            greys = greys.0 h.greys;
            labels = λ t. lent.labels t ∙ h.labels t;
            grey_labels = λ t. lent.grey_labels t ∙ h.grey_labels t;
            counts = λ t. lent.counts t ∙ h.counts t;
            sizes = λ t. lent.sizes t ∙ h.sizes t;
            members = λ t. lent.members t ∙ h.members t;
            found = λ t. lent.found t ∙ h.found t;
            grey_found = λ t. lent.grey_found t ∙ h.grey_found t;
          }),
          (λ h. record {
            spins = h.spins;
            fwd = h.fwd;
            bwd = h.bwd;
            pins = h.pins;
            couplings = couplings.1 h.couplings;
            cuts = cuts.1 h.cuts;
            choices = choices.1 h.choices;
            greys = greys.1 h.greys;
            labels = λ t. sym (lent.labels t) ∙ h.labels t;
            grey_labels = λ t. sym (lent.grey_labels t) ∙ h.grey_labels t;
            counts = λ t. sym (lent.counts t) ∙ h.counts t;
            sizes = λ t. sym (lent.sizes t) ∙ h.sizes t;
            members = λ t. sym (lent.members t) ∙ h.members t;
            found = λ t. sym (lent.found t) ∙ h.found t;
            grey_found = λ t. sym (lent.grey_found t) ∙ h.grey_found t;
          }),
        )

    pub rules_same : Matched (rules c p b) (rules (over c a) o (onto b d))
    rules_same =
        let js = taken_same (takes_cuts c) SmallCouplings same.call.panel.couplings in
        let warm = taken_same (takes_cuts c) Warm same.call.temperature in
        let own = choice_rules_same b.spins in
        let spins = spins_same b.spins in
        (refl, itself, (refl, itself, (refl, exact_same, (refl, spins, (refl, itself, (refl, itself, (refl, grouped_same, (refl, js, (refl, warm, own)))))))))

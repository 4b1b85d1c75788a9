-- Each test of the table of refusals is decided, so every move, sweep and metering has a verdict, and it is computed.
use Rattle.std.specs.Prelude.{ℕ, suc, ◌+◌, ◌*◌, ◌<◌, ◌≡◌, refl, ◌&&◌, List, length, get_or, ℤ, pos, negsuc, nat_abs, Float}
use Rattle.std.proofs.Common.{sym, subst}
use Rattle.std.specs.Float.{nan}
use Rattle.paper.specs.declared.Mode.{Mode}
use Rattle.paper.specs.declared.Form.{Form}
use Rattle.paper.specs.declared.Lengths.{Lengths}
use Rattle.paper.specs.Panel.Input.{Lattice, Call, Choices, Buffers, size, spin}
use Rattle.paper.specs.Panel.Takes.{is_houd, is_cmr, moves, one_cluster, grows_by, labels_by, draws_bonds, choices_by, greys_by, grey_labels_by, entries, choice_bytes, takes_cuts}
use Rattle.paper.specs.Panel.Takes.{takes_flips, takes_perms, takes_greys, takes_reference, takes_seed}
use Rattle.paper.specs.Site.Acting.{acts, SomeActs}
use Rattle.paper.specs.Refusal.Rule.{Kept, Broken}
use Rattle.paper.specs.Refusal.Rules.{Sizes, Ranged, HoudOfTwo, Fits, lengths_of, Spin, Names, group_names, one_name, Named, Spins}
use Rattle.paper.specs.Refusal.Rules.{Back, Inverse, Pins, Distinct, Listed, SmallCouplings, Warm, is_cut}
use Rattle.paper.specs.Refusal.Rules.{Cuts, Permutes, NotIdentity, perm_row, Chosen, Seeded, choice_rules, rules}
use Rattle.paper.specs.Refusal.Verdict.{Verdict}
use Rattle.paper.specs.Answer.Meter.{meter_rules}
use Rattle.laws.specs.Decided.{Decided, le, lt, eq, same, is, iff, both, either, implies, when, absurdity, all, some, DecidedAll, refusal}
use Rattle.laws.specs.Decided.{verdict_by}

-- ---- 1
abbrev pub sizes : (n d s : ℕ) → Decided (Sizes n d s)
sizes n d s =
    iff (λ (n1, (n2, (d1, (d2, (s1, s2))))). record { n_low = n1; n_high = n2; d_low = d1; d_high = d2; s_low = s1; s_high = s2 })
    (λ r. (r.n_low, (r.n_high, (r.d_low, (r.d_high, (r.s_low, r.s_high))))))
    (both (le 1 n) (both (le n 4096) (both (le 1 d) (both (le d 4) (both (le 1 s) (le s 64))))))

abbrev pub ranged : (n d s : ℕ) (mode : Mode) (m : ℕ) → Decided (Ranged n d s mode m)
ranged n d s mode m =
    iff (λ (l, (low, (high, two))). record { lattice = l; size_low = low; size_high = high; cmr_two = two })
    (λ r. (r.lattice, (r.size_low, (r.size_high, r.cmr_two))))
    (both (sizes n d s) (both (le 2 m) (both (le m 8) (when (is_cmr mode) (eq m 2)))))

-- ---- 15
abbrev pub houd_of_two : (mode : Mode) (form : Form) (m : ℕ) → Decided (HoudOfTwo mode form m)
houd_of_two mode form m = when (is_houd mode && moves form) (le m 2)

-- ---- 2
abbrev pub fits : (mode : Mode) (form : Form) (n d s m : ℕ) (l : Lengths) → Decided (Fits mode form n d s m l)
fits mode form n d s m l =
    iff
    (λ (a, (b, (c, (x, (e, (f, (g, (i, (j, (k, (o, (p, (q, (t, u)))))))))))))). record {
      spins = a;
      fwd = b;
      bwd = c;
      pins = x;
      couplings = e;
      cuts = f;
      choices = g;
      greys = i;
      labels = j;
      grey_labels = k;
      counts = o;
      sizes = p;
      members = q;
      found = t;
      grey_found = u;
    })
    (λ r. (
      r.spins,
      (
        r.fwd,
        (
          r.bwd,
          (
            r.pins,
            (
              r.couplings,
              (r.cuts, (r.choices, (r.greys, (r.labels, (r.grey_labels, (r.counts, (r.sizes, (r.members, (r.found, r.grey_found))))))))),
            ),
          ),
        ),
      ),
    ))
    (both (eq l.spins (s * n))
    (both (eq l.fwd (n * d))
    (both (eq l.bwd (n * d))
    (both (eq l.pins n)
    (both (when (draws_bonds mode) (eq l.couplings (n * d)))
    (both (when (draws_bonds mode) (eq l.cuts (n * d)))
    (both (when (choices_by mode form) (eq l.choices (choice_bytes mode form n m)))
    (both (when (greys_by mode form) (eq l.greys (entries form n)))
    (both (when (labels_by form) (eq l.labels n))
    (both (when (grey_labels_by mode form) (eq l.grey_labels n))
    (both (when (labels_by form) (eq l.counts (n + 1)))
    (both (when (labels_by form) (eq l.sizes 4))
    (both (when (grows_by form) (eq l.members n))
    (both (when (labels_by form) (eq l.found 1))
    (when (grey_labels_by mode form) (eq l.grey_found 1))))))))))))))))

-- ---- 3 to 7
abbrev pub spins : (n s : ℕ) (names : Names) (xs : List ℤ) → Decided (Spins n (Named s names) xs)
spins n s names xs =
    iff
    (λ h t i ht hi. subst (λ (u : ℕ). Spin (spin n xs u i)) ht.is (h ht.place ht.below (subst (λ (u : ℕ). u < s) (sym ht.is) ht.inside) i hi))
    (λ h k hk hs i hi. h (names.at k) i (record { place = k; below = hk; is = refl; inside = hs }) hi)
    (all names.count
    (λ k. implies (lt (names.at k) s)
    (all n (λ i. either (same (spin n xs (names.at k) i) (pos 1)) (same (spin n xs (names.at k) i) (negsuc 0))))))

abbrev pub goes_back : (n d : ℕ) (a b : List ℕ) → Decided ((i e : ℕ) → i < n → e < d → Back n d a b i e)
goes_back n d a b =
    iff (λ h i e hi he. record { inside = (h i hi e he).0; home = (h i hi e he).1 })
    (λ h i hi e he. ((h i e hi he).inside, (h i e hi he).home))
    (all n (λ i. all d (λ e. both (lt (get_or a (i * d + e) 0) n) (eq (get_or b (get_or a (i * d + e) 0 * d + e) 0) i))))

abbrev pub inverse : (n d : ℕ) (fwd bwd : List ℕ) → Decided (Inverse n d fwd bwd)
inverse n d fwd bwd =
    iff (λ (t, h). record { there = t; here = h }) (λ r. (r.there, r.here)) (both (goes_back n d fwd bwd) (goes_back n d bwd fwd))

abbrev pub pins : (ps : List ℕ) → Decided (Pins ps)
pins ps = all (length ps) (λ i. le (get_or ps i 0) 1)

abbrev pub distinct : (m : ℕ) (f : ℕ → ℕ) → Decided (Distinct m f)
distinct m f =
    iff (λ h a b ha hb. h a ha b hb) (λ h a ha b hb. h a b ha hb)
    (all m (λ a. all m (λ b. implies (eq (f a) (f b)) (eq a b))))

abbrev pub listed : (s : ℕ) (names : Names) → Decided (Listed s names)
listed s names =
    iff (λ (b, d). record { below = b; distinct = d }) (λ r. (r.below, r.distinct))
    (both (all names.count (λ k. lt (names.at k) s)) (distinct names.count names.at))

abbrev pub small_couplings : (js : List ℤ) → Decided (SmallCouplings js)
small_couplings js = all (length js) (λ k. le (nat_abs (get_or js k (pos 0))) 1000000)

abbrev pub warm : (t : Float) → Decided (Warm t)
warm t = is _

-- ---- 8 to 10
abbrev pub cuts : (xs : List Float) → Decided (Cuts xs)
cuts xs = all (length xs) (λ k. is (is_cut (get_or xs k nan)))

abbrev pub permutes : (m : ℕ) (p : ℕ → ℕ) → Decided (Permutes m p)
permutes m p =
    iff (λ (w, d). record { within = w; distinct = d }) (λ r. (r.within, r.distinct))
    (both (all m (λ k. lt (p k) m)) (distinct m p))

abbrev pub not_identity : (m : ℕ) (p : ℕ → ℕ) → Decided (NotIdentity m p)
not_identity m p =
    iff (λ r. record { place = r.0; below = r.1; moved = r.2 }) (λ r. (r.place, r.below, r.moved))
    (some m (λ k. implies (eq (p k) k) absurdity))

abbrev pub chosen : (c : Call) (p : Choices) → Decided (Chosen c p)
chosen c p =
    iff
    (λ (a, (b, (d, (e, (f, g))))). record { perms = a; not_identity_lem = b; flips = d; greys = e; grey_some = f; reference = g })
    (λ r. (r.perms, (r.not_identity_lem, (r.flips, (r.greys, (r.grey_some, r.reference))))))
    (both (when (takes_perms c) (all (entries c.form c.lattice.n) (λ r. permutes (size c) (perm_row c p r))))
    (both (when (takes_perms c && one_cluster c.form) (not_identity (size c) (perm_row c p 0)))
    (both (when (takes_flips c) (all c.lattice.n (λ r. le (get_or p.choices r 0) 1)))
    (both (when (takes_greys c) (all (entries c.form c.lattice.n) (λ r. le (get_or p.greys r 0) 3)))
    (both (when (takes_greys c && one_cluster c.form) (le 1 (get_or p.greys 0 0)))
    (when (takes_reference c) (lt c.reference c.lattice.n)))))))

abbrev pub some_acts : (c : Call) (xs : List ℤ) → Decided (SomeActs c xs)
some_acts c xs =
    iff (λ r. record { site = r.0; below = r.1; does = r.2 }) (λ r. (r.site, r.below, r.does))
    (some c.lattice.n (λ i. is (acts c xs i)))

abbrev pub seeded : (c : Call) (xs : List ℤ) → Decided (Seeded c xs)
seeded c xs =
    iff (λ (b, a). record { below = b; acting = a }) (λ r. (r.below, r.acting))
    (both (when (takes_seed c) (lt c.seed c.lattice.n))
    (when (takes_seed c) (implies (some_acts c xs) (is (acts c xs c.seed)))))

abbrev pub choices : (c : Call) (p : Choices) (xs : List ℤ) → DecidedAll (choice_rules c p xs)
choices c p xs = (when (takes_cuts c) (cuts c.cuts), (chosen c p, (seeded c xs, tt)))

-- ---- a move: 0 where it is accepted, else the number that it is refused with
abbrev pub decided : (c : Call) (p : Choices) (b : Buffers) → DecidedAll (rules c p b)
decided c p b = (
  ranged c.lattice.n c.lattice.d c.lattice.s c.mode (size c),
  (
    houd_of_two c.mode c.form (size c),
    (
      fits c.mode c.form c.lattice.n c.lattice.d c.lattice.s (size c) (lengths_of c p b),
      (
        spins c.lattice.n c.lattice.s (group_names c.group) b.spins,
        (
          inverse c.lattice.n c.lattice.d c.lattice.fwd c.lattice.bwd,
          (
            pins c.pins,
            (
              listed c.lattice.s (group_names c.group),
              (
                when (takes_cuts c) (small_couplings c.lattice.couplings),
                (when (takes_cuts c) (warm c.temperature), choices c p b.spins),
              ),
            ),
          ),
        ),
      ),
    ),
  ),
)

abbrev pub refusal_of : Call → Choices → Buffers → ℕ
refusal_of c p b = refusal (rules c p b) (decided c p b)

pub verdict : (c : Call) (p : Choices) (b : Buffers) → Verdict (rules c p b) (refusal_of c p b)
verdict c p b = verdict_by (rules c p b) (decided c p b) refl

pub accepted_by : (c : Call) (p : Choices) (b : Buffers) → refusal_of c p b ≡ 0 → Kept (rules c p b)
accepted_by c p b e = subst (Verdict (rules c p b)) e (verdict c p b)

pub refused_by : (c : Call) (p : Choices) (b : Buffers) (k : ℕ) → refusal_of c p b ≡ suc k → Broken (rules c p b) (suc k)
refused_by c p b k e = subst (Verdict (rules c p b)) e (verdict c p b)

-- ---- metering
abbrev pub meter_decided : (t : Lattice) (xs : List ℤ) (k : ℕ) → DecidedAll (meter_rules t xs k)
meter_decided t xs k = (
  sizes t.n t.d t.s,
  (
    iff (λ (a, (b, (c, d))). record { spins = a; fwd = b; bwd = c; couplings = d }) (λ r. (r.spins, (r.fwd, (r.bwd, r.couplings))))
        (both (eq (length xs) (t.s * t.n))
        (both (eq (length t.fwd) (t.n * t.d))
        (both (eq (length t.bwd) (t.n * t.d))
        (eq (length t.couplings) (t.n * t.d))))),
    (spins t.n t.s (one_name k) xs, (inverse t.n t.d t.fwd t.bwd, (lt k t.s, (small_couplings t.couplings, tt)))),
  ),
)

pub meter_verdict : (t : Lattice) (xs : List ℤ) (k : ℕ) → Verdict (meter_rules t xs k) (refusal (meter_rules t xs k) (meter_decided t xs k))
meter_verdict t xs k = verdict_by (meter_rules t xs k) (meter_decided t xs k) refl

-- The library's rules on the move that a text asks for: of a text that is spelt well, and has a spin at every site of every
-- system, they are broken just where the program's other rules are.
use Rattle.std.specs.Prelude.{ℕ, ◌+◌, ◌*◌, ◌<◌, ◌≡◌, List, [], length, drop}
use Rattle.std.proofs.Common.{◌∙◌, inl, inr, arith}
use Rattle.std.proofs.lemmas.List.{length-map}
use Rattle.lemmas.specs.Bools.{never}
use Rattle.lemmas.specs.Cells.{table_at, length_table}
use Rattle.paper.specs.declared.Mode.TheVariants.{Perm}
use Rattle.paper.specs.Refusal.Rule.{Rule, Kept, Broken}
use Rattle.paper.specs.Refusal.Rules.{AllSystems, Spins, Named, group_names, Ranged, Exact, Inverse, Pins, Chosen, rules}
use Rattle.paper.specs.Answer.Frame.{bytes, signed, frame_lattice, frame_call, frame_choices, frame_buffers, group_bytes, HasBack}
use Rattle.frame_lines.specs.Spelling.{line2, line3, Spelling, value_rules}
use Rattle.frame_lines.specs.Words.{words_length}

-- what a move's rules are asked of
abbrev pub frame_move_rules : List ℕ → List ℕ → List Rule
frame_move_rules text bwd = rules (frame_call text bwd) (frame_choices text) (frame_buffers text)

module _ (text bwd : List ℕ) (s : Spelling text) (long : length bwd ≡ (frame_lattice text []).n * (frame_lattice text []).d)
    (spun : Spins (frame_lattice text []).n (AllSystems (frame_lattice text []).s) (frame_buffers text).spins) where
  ranged : Ranged (frame_lattice text []).n (frame_lattice text []).d (frame_lattice text []).s Perm (length (group_bytes text))
  ranged = record {
    lattice = record {
      n_low = s.sizes.n_low;
      n_high = omega (arith, s.sizes.n_high);
      d_low = s.sizes.d_low;
      d_high = s.sizes.d_high;
      s_low = s.sizes.s_low;
      s_high = omega (arith, s.sizes.s_high);
    };
    size_low = s.group_size.low;
    size_high = s.group_size.high;
    cmr_two = λ e. never e;
  }

  exact : Exact (frame_call text bwd) (frame_choices text) (frame_buffers text)
  exact = record {
    spins = length-map (bytes (line2 text)) signed ∙ s.spins_line.long;
    fwd = words_length (bytes (line3 text)) ((frame_lattice text []).n * (frame_lattice text []).d) s.fwd_line.long;
    bwd = long;
    pins = length_table (frame_lattice text []).n (λ k. 0);
    couplings = λ e. never e;
    cuts = λ e. never e;
    choices = λ e. s.perms_line.long;
    greys = λ e. never e;
    labels = λ e. length_table (frame_lattice text []).n (λ k. 0);
    grey_labels = λ e. never e;
    counts = λ e. length_table ((frame_lattice text []).n + 1) (λ k. 0);
    sizes = λ e. length_table 4 (λ k. 0);
    members = λ e. never e;
    found = λ e. length_table 1 (λ k. 0);
    grey_found = λ e. never e;
  }

  -- the group's rows are among those of all systems
  group_spun : Spins (frame_lattice text []).n (Named (frame_lattice text []).s (group_names (frame_call text []).group)) (frame_buffers text).spins
  group_spun t i h l = spun t i h.inside l

  free : Pins (frame_call text bwd).pins
  free i h =
      let low : i < (frame_lattice text []).n = rw (length_table (frame_lattice text []).n (λ k. 0)) at h in
      omega (arith, table_at (frame_lattice text []).n (λ k. 0) i low)

  chosen_of : Chosen (frame_call text bwd) (frame_choices text) → Chosen (frame_call text []) (frame_choices text)
  chosen_of h = record {
    perms = h.perms;
    not_identity_lem = h.not_identity_lem;
    flips = h.flips;
    greys = h.greys;
    grey_some = h.grey_some;
    reference = h.reference;
  }

  of_chosen : Chosen (frame_call text []) (frame_choices text) → Chosen (frame_call text bwd) (frame_choices text)
  of_chosen h = record {
    perms = h.perms;
    not_identity_lem = h.not_identity_lem;
    flips = h.flips;
    greys = h.greys;
    grey_some = h.grey_some;
    reference = h.reference;
  }

  back_of : Inverse (frame_lattice text []).n (frame_lattice text []).d (frame_lattice text []).fwd bwd → HasBack text
  back_of h = record { bwd = bwd; long = long; inverse = h }

  -- a move that is accepted keeps the program's rules
  pub values_kept : Kept (frame_move_rules text bwd) → Kept (value_rules text)
  values_kept k = (spun, (back_of k.1.1.1.1.0, (k.1.1.1.1.1.1.0, (chosen_of k.1.1.1.1.1.1.1.1.1.1.0, tt))))

  -- one that is refused breaks them with the same number, if the backward table is right wherever there is one
  module _ (complete : HasBack text → Inverse (frame_lattice text []).n (frame_lattice text []).d (frame_lattice text []).fwd bwd) (c : ℕ) where
    from9 : Broken (drop 10 (frame_move_rules text bwd)) c → Broken (drop 3 (value_rules text)) c
    from9 (inl p) = inl (λ h. p.0 (of_chosen h), p.1)
    from9 (inr p) = absurd (from10 p.1)
      where
        from10 : Broken (drop 11 (frame_move_rules text bwd)) c → ⊥
        from10 (inl q) = q.0 (record { below = λ e. never e; acting = λ e. never e })
        from10 (inr q) = q.1

    -- couplings, a temperature and cuts are not taken
    from6 : Broken (drop 7 (frame_move_rules text bwd)) c → Broken (drop 3 (value_rules text)) c
    from6 (inl p) = absurd (p.0 (λ e. never e))
    from6 (inr p) = from7 p.1
      where
        from8 : Broken (drop 9 (frame_move_rules text bwd)) c → Broken (drop 3 (value_rules text)) c
        from8 (inl q) = absurd (q.0 (λ e. never e))
        from8 (inr q) = from9 q.1

        from7 : Broken (drop 8 (frame_move_rules text bwd)) c → Broken (drop 3 (value_rules text)) c
        from7 (inl q) = absurd (q.0 (λ e. never e))
        from7 (inr q) = from8 q.1

    from5 : Broken (drop 6 (frame_move_rules text bwd)) c → Broken (drop 2 (value_rules text)) c
    from5 (inl p) = inl p
    from5 (inr p) = inr (p.0, from6 p.1)

    -- no site is pinned
    from_pins : Broken (drop 5 (frame_move_rules text bwd)) c → Broken (drop 2 (value_rules text)) c
    from_pins (inl p) = absurd (p.0 free)
    from_pins (inr p) = from5 p.1

    from4 : Broken (drop 4 (frame_move_rules text bwd)) c → Broken (drop 1 (value_rules text)) c
    from4 (inl p) = inl (λ h. p.0 (complete h), p.1)
    from4 (inr p) = inr (back_of p.0, from_pins p.1)

    from3 : Broken (drop 3 (frame_move_rules text bwd)) c → Broken (value_rules text) c
    from3 (inl p) = absurd (p.0 group_spun)
    from3 (inr p) = inr (spun, from4 p.1)

    from2 : Broken (drop 2 (frame_move_rules text bwd)) c → Broken (value_rules text) c
    from2 (inl p) = absurd (p.0 exact)
    from2 (inr p) = from3 p.1

    -- a frame's move is no houd
    from15 : Broken (drop 1 (frame_move_rules text bwd)) c → Broken (value_rules text) c
    from15 (inl p) = absurd (p.0 (λ e. never e))
    from15 (inr p) = from2 p.1

    pub values_broken : Broken (frame_move_rules text bwd) c → Broken (value_rules text) c
    values_broken (inl p) = absurd (p.0 ranged)
    values_broken (inr p) = from15 p.1

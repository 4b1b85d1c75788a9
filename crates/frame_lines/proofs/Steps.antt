-- The text's lines one after another: what each test adds to what is known, and what its failure breaks.
use Prim.Native.Nat.{ℕ, ◌*◌, ◌≤◌}
use mathlib.Core.Path.{◌≡◌, refl, sym, ◌∙◌, ap}
use mathlib.Core.Logic.{inl, inr}
use mathlib.Core.List.{List, [], ◌∷◌}
use native.Mathlib.Omega.{arith}
use native.Mathlib.Nat.{mul-le-mul}
use lib.ListN.{length, drop, length-drop, drop_of_length-le}
use Rattle.paper.specs.Refusal.Rule.{Rule, rule, Broken}
use Rattle.paper.specs.Answer.Frame.{next, bytes, Spelt, Frame, FrameSizes, GroupSize, frame_lattice, group_bytes}
use Rattle.frame_text.specs.Walk.{sizes_alike}
use Rattle.frame_lines.specs.declared.Sizes.{Sizes}
use Rattle.frame_lines.specs.Spelling.{line2, line3, line4, line5, spelling_rules}
use Rattle.frame_lines.specs.Scan.{Passed, sizes_in, lattice_of, Headed, Tabled, Placed}

-- the last three
abbrev group_rules : List ℕ → List Rule
group_rules t =
    rule 1 (GroupSize (length (group_bytes t)))
    ∷ rule 11 (Frame 0x14 ((frame_lattice t []).n * length (group_bytes t)) (line5 t))
    ∷ rule 11 (next (line5 t) ≡ [])
    ∷ []

-- ---- the first line
pub bare : (t : List ℕ) → FrameSizes (frame_lattice t []) → FrameSizes (lattice_of (sizes_in t))
bare t s = sizes_alike (frame_lattice t []) (lattice_of (sizes_in t)) refl refl refl s

whole : (t : List ℕ) → FrameSizes (lattice_of (sizes_in t)) → FrameSizes (frame_lattice t [])
whole t s = sizes_alike (lattice_of (sizes_in t)) (frame_lattice t []) refl refl refl s

pub no_head : (t : List ℕ) → (Frame 0x10 4 t → ⊥) → Broken (spelling_rules t) 11
no_head t h = inl (h, refl)

pub no_sizes : (t : List ℕ) (z : Sizes) → Frame 0x10 4 t → z ≡ sizes_in t → (FrameSizes (lattice_of z) → ⊥) → Broken (spelling_rules t) 1
no_sizes t z f e h = inr (f, inl (λ s. h (rw e (bare t s)), refl))

pub headed : (t : List ℕ) (z : Sizes) (p : ℕ) → Passed 0x10 4 t 0 p → z ≡ sizes_in t → FrameSizes (lattice_of z) → Headed t z p
headed t z p k e s = record { sizes_line = k.frame; sizes = e; range = whole t (rw e at s); spins_at = k.behind; within = k.within }

-- ---- the tables
module _ {t : List ℕ} {z : Sizes} {spins : ℕ} (h : Headed t z spins) where
  pub sized : FrameSizes (lattice_of z)
  sized = rw h.sizes (bare t h.range)

  pub spins_small : z.s * z.n ≤ 2048
  spins_small = mul-le-mul sized.s_high sized.n_high

  pub bonds_small : z.n * z.d ≤ 1024
  bonds_small = mul-le-mul sized.n_high sized.d_high

  spins_frame : Frame 0x11 (z.s * z.n) (drop spins t) → Frame 0x11 ((frame_lattice t []).s * (frame_lattice t []).n) (line2 t)
  spins_frame f = rw h.spins_at (rw h.sizes at f)

  pub no_spins : (Frame 0x11 (z.s * z.n) (drop spins t) → ⊥) → Broken (spelling_rules t) 11
  no_spins g = inr (h.sizes_line, inr (h.range, inl (λ f. g (rw h.sizes (rw h.spins_at at f)), refl)))

  module _ {fwd : ℕ} (k : Passed 0x11 (z.s * z.n) t spins fwd) where
    fwd_at : line3 t ≡ drop fwd t
    fwd_at = ap next h.spins_at ∙ k.behind

    pub no_fwd : (Frame 0x12 (2 * (z.n * z.d)) (drop fwd t) → ⊥) → Broken (spelling_rules t) 11
    no_fwd g = inr (h.sizes_line, inr (h.range, inr (spins_frame k.frame, inl (λ f. g (rw h.sizes (rw fwd_at at f)), refl))))

    pub tabled : {group : ℕ} → Passed 0x12 (2 * (z.n * z.d)) t fwd group → Tabled t z spins fwd group
    tabled q = record {
      head = h;
      spins_line = spins_frame k.frame;
      fwd_line = rw fwd_at (rw h.sizes at q.frame);
      fwd_at = fwd_at;
      group_at = ap next fwd_at ∙ q.behind;
      within = q.within;
    }

-- ---- the group line and what is behind it
module _ {t : List ℕ} {z : Sizes} {spins fwd group : ℕ} (h : Tabled t z spins fwd group) where
  pub no_group : (Spelt 0x13 (drop group t) → ⊥) → Broken (spelling_rules t) 11
  no_group g = inr (h.head.sizes_line, inr (h.head.range, inr (h.spins_line, inr (h.fwd_line, inl (λ s. g (rw h.group_at at s), refl)))))

  module _ {len perms : ℕ} (k : Passed 0x13 len t group perms) where
    group_line : Spelt 0x13 (line4 t)
    group_line = rw h.group_at k.frame.spelt

    len_is : length (group_bytes t) ≡ len
    len_is = ap (λ (u : List ℕ). length (bytes u)) h.group_at ∙ k.frame.long

    behind_fwd : (c : ℕ) → Broken (group_rules t) c → Broken (spelling_rules t) c
    behind_fwd c b = inr (h.head.sizes_line, inr (h.head.range, inr (h.spins_line, inr (h.fwd_line, inr (group_line, b)))))

    pub no_group_size : (GroupSize len → ⊥) → Broken (spelling_rules t) 1
    no_group_size g = behind_fwd 1 (inl (λ s. g (rw len_is at s), refl))

    module _ (s : GroupSize len) where
      size : GroupSize (length (group_bytes t))
      size = rw len_is s

      perms_at : line5 t ≡ drop perms t
      perms_at = ap next h.group_at ∙ k.behind

      pub perms_small : z.n * len ≤ 2048
      perms_small = mul-le-mul (sized h.head).n_high s.high

      pub no_perms : (Frame 0x14 (z.n * len) (drop perms t) → ⊥) → Broken (spelling_rules t) 11
      no_perms g = behind_fwd 11 (inr (size, inl (λ f. g (rw (h.head.sizes, ← len_is) (rw perms_at at f)), refl)))

      module _ {end : ℕ} (q : Passed 0x14 (z.n * len) t perms end) where
        perms_line : Frame 0x14 ((frame_lattice t []).n * length (group_bytes t)) (line5 t)
        perms_line = rw (perms_at, len_is) (rw h.head.sizes at q.frame)

        rest : next (line5 t) ≡ drop end t
        rest = ap next perms_at ∙ q.behind

        pub no_end : (end ≡ length t → ⊥) → Broken (spelling_rules t) 11
        no_end g =
            behind_fwd 11 (inr (size, inr (perms_line, inl (λ e. g (omega (arith, q.within, length-drop end t, ap (length {A = ℕ}) (sym rest ∙ e))), refl))))

        pub placed : end ≡ length t → Placed t (record { sizes = z; len = len; spins = spins; fwd = fwd; group = group; perms = perms })
        placed e = record {
          spelling = record {
            sizes_line = h.head.sizes_line;
            sizes = h.head.range;
            spins_line = h.spins_line;
            fwd_line = h.fwd_line;
            group_line = group_line;
            group_size = size;
            perms_line = perms_line;
            ended = rest ∙ drop_of_length-le t {i = end} (omega arith);
          };
          sizes = h.head.sizes;
          len = sym len_is;
          spins_at = h.head.spins_at;
          fwd_at = h.fwd_at;
          group_at = h.group_at;
          perms_at = perms_at;
        }

-- What is known of the places that a scan found.
use Prim.Native.Nat.{ℕ, ◌*◌, ◌≤◌}
use mathlib.Core.Path.{◌≡◌, refl, sym, ◌∙◌, ap}
use mathlib.Core.List.{List, [], ◌++◌, map}
use native.Mathlib.Nat.{mul-le-mul}
use lib.ListN.{length, drop}
use Rattle.paper.specs.declared.Group.{Group}
use Rattle.paper.specs.Refusal.Rule.{Broken}
use Rattle.paper.specs.Answer.Frame.{bytes, words, signed, Frame, FrameSizes, frame_call}
use Rattle.frame_lines.specs.declared.Places.{Places}
use Rattle.frame_lines.specs.Spelling.{spelling_kept, spelling_rules}
use Rattle.frame_lines.specs.Scan.{lattice_of, group_in, Placed}
use Rattle.frame_lines.specs.Reading.{Held, Misread, Readout, no_group}
use Rattle.frame_lines.proofs.Steps.{bare}

module _ {t : List ℕ} {p : Places} (k : Placed t p) where
  in_range : FrameSizes (lattice_of p.sizes)
  in_range = rw k.sizes (bare t k.spelling.sizes)

  pub group_high : p.len ≤ 8
  group_high = rw k.len k.spelling.group_size.high

  pub spins_few : p.sizes.s * p.sizes.n ≤ 2048
  spins_few = mul-le-mul in_range.s_high in_range.n_high

  pub bonds_few : p.sizes.n * p.sizes.d ≤ 1024
  bonds_few = mul-le-mul in_range.n_high in_range.d_high

  pub perms_few : p.sizes.n * p.len ≤ 2048
  perms_few = mul-le-mul in_range.n_high group_high

  pub spins_there : Frame 0x11 (p.sizes.s * p.sizes.n) (drop p.spins t)
  spins_there = rw k.sizes (rw k.spins_at at k.spelling.spins_line)

  pub fwd_there : Frame 0x12 (2 * (p.sizes.n * p.sizes.d)) (drop p.fwd t)
  fwd_there = rw k.sizes (rw k.fwd_at at k.spelling.fwd_line)

  pub group_there : Frame 0x13 p.len (drop p.group t)
  group_there = record {
    spelt = rw k.group_at at k.spelling.group_line;
    long = ap (λ (u : List ℕ). length (bytes u)) (sym k.group_at) ∙ sym k.len;
  }

  pub perms_there : Frame 0x14 (p.sizes.n * p.len) (drop p.perms t)
  perms_there = rw (k.sizes, k.len) (rw k.perms_at at k.spelling.perms_line)

  group_is : group_in (bytes (drop p.group t)) ≡ (frame_call t []).group
  group_is = ap (λ (u : List ℕ). group_in (bytes u)) (sym k.group_at)

  pub readout : (b : Held) (g : Group) (a : Held)
      → g ≡ group_in (bytes (drop p.group t))
      → a.spins ≡ map signed (bytes (drop p.spins t)) ++ drop (p.sizes.s * p.sizes.n) b.spins
      → a.fwd ≡ words (bytes (drop p.fwd t)) ++ drop (p.sizes.n * p.sizes.d) b.fwd
      → a.perms ≡ bytes (drop p.perms t) ++ drop (p.sizes.n * p.len) b.perms
      → Readout t b p.sizes g a
  readout b g a e x y z = record {
    spelt = spelling_kept t k.spelling;
    sizes = k.sizes;
    group = e ∙ group_is;
    spins = rw k.spins_at x;
    fwd = rw k.fwd_at y;
    perms = rw (k.perms_at, len) z;
  }
    where
      len : g.len ≡ p.len
      len = ap (λ (h : Group). h.len) e ∙ group_there.long

pub misread : (t : List ℕ) (b : Held) (r : ℕ) → Broken (spelling_rules t) r → Misread t b r no_group b
misread t b r w = record { why = w; group = refl; kept = refl }

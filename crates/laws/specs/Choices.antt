-- Which choices a mode and form take: flips or permutations, never both, and how many bytes.
use Rattle.std.specs.Prelude.{ℕ, ◌*◌, ◌≡◌, refl, Bool, true, false, not, cond, ◌&&◌}
use Rattle.std.proofs.Common.{arith}
use Rattle.lemmas.specs.Bools.{and_right, never, or_right}
use Rattle.paper.specs.declared.Mode.{Mode}
use Rattle.paper.specs.declared.Form.{Form}
use Rattle.paper.specs.declared.Form.TheVariants.{Sw, Wolff, Observe, Grow}
use Rattle.paper.specs.Panel.Takes.{is_perm, is_sw, moves, flips_by, perms_by, choices_by, entries, choice_bytes}

pub flips_taken : (m : Mode) (f : Form) → flips_by m f ≡ true → choices_by m f ≡ true
flips_taken m f e = rw e refl

pub perms_taken : (m : Mode) (f : Form) → perms_by m f ≡ true → choices_by m f ≡ true
perms_taken m f e = or_right (flips_by m f) (perms_by m f) e

pub flips_bytes : (m : Mode) (f : Form) (n s : ℕ) → flips_by m f ≡ true → choice_bytes m f n s ≡ n
flips_bytes m f n s = go f (is_perm m)
  where
    go : (f : Form) (p : Bool) → (is_sw f && not p) ≡ true → entries f n * cond p s 1 ≡ n
    go Sw true e = never e
    go Sw false e = omega arith
    go Wolff p e = never e
    go Observe p e = never e
    go Grow p e = never e

pub perms_bytes : (m : Mode) (f : Form) (n s : ℕ) → perms_by m f ≡ true → choice_bytes m f n s ≡ entries f n * s
perms_bytes m f n s e = rw (and_right (moves f) (is_perm m) e) refl

-- The returned number stands for what became of the frames.
use Prim.Native.Nat.{ℕ}
use mathlib.Core.Path.{◌≡◌, refl, sym, subst}
use mathlib.Core.List.{List}
use lib.ListN.{length, set}
use Rattle.frame_lines.specs.Outcome.{Written}
use Rattle.frame_lines.specs.Outcome.Written.{Wrote, NoRoom}
use Rattle.frame_lines.specs.Number.{written_number, written_values}
use Rattle.frame.specs.Run.{RunAs}
use Rattle.tsorvenk.specs.Number.{values_to}
use Rattle.tsorvenk.specs.Frames.{framed, FramesNumbers}
use Rattle.tsorvenk.proofs.Told.{one_set}

module _ (text out ws : List ℕ) where
  pub no_place : (length ws ≡ 1 → ⊥) → FramesNumbers text (framed out ws) 2 (framed out ws)
  no_place n = record { roomed = λ l. absurd (n l); roomless = λ _. record { number = refl; kept = refl } }

  module _ (w : Written) (out' : List ℕ) (l : length ws ≡ 1) (h : RunAs text out w out') where
    ran : (r : ℕ) (ws' : List ℕ) → r ≡ written_number w → ws' ≡ values_to (written_values w) ws → FramesNumbers text (framed out ws) r (framed out' ws')
    ran r ws' e q = record { roomed = λ _. record { answer = w; allowed = record { runs = h; length_told = q }; number = e }; roomless = λ n. absurd (n l) }

    pub wrote : (m : ℕ) → w ≡ Wrote m → FramesNumbers text (framed out ws) 0 (framed out' (set ws 0 m))
    wrote m e =
        ran 0 (set ws 0 m) (subst (λ (v : Written). 0 ≡ written_number v) (sym e) refl)
        (subst (λ (v : Written). set ws 0 m ≡ values_to (written_values v) ws) (sym e) (one_set ws m l))

    pub no_room_for : w ≡ NoRoom → FramesNumbers text (framed out ws) 65 (framed out' ws)
    no_room_for e =
        ran 65 ws (subst (λ (v : Written). 65 ≡ written_number v) (sym e) refl) (subst (λ (v : Written). ws ≡ values_to (written_values v) ws) (sym e) refl)
